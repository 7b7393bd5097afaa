use Rattle.std.proofs.Common.{All}
use Rattle.std.proofs.lemmas.List.Elements.{All-push}
use Rattle.vll_check.specs.Calls.{Fits}
use Rattle.vll_core_tests.proofs.crowd.scripts.Goals as goal

pub loop-count-preserved : goal.loop-count-preserved
loop-count-preserved c =
    rw (c.in_ok-push.ensures.items) (All-push (λ script. All (Fits c.args.library.now) script.items) c.loop-count.scripts.items c.in_ok-script.script c.loop-count.invariant c.in_ok-script.ensures)
