use Rattle.std.proofs.lemmas.List.Elements.{All-push}
use Rattle.vll_check.specs.Calls.{Fits}
use Rattle.vll_core_tests.proofs.crowd.bumps.Goals as goal

pub loop-preserved : goal.loop-preserved
loop-preserved c =
    rw (c.in_ok-push.ensures.items) (All-push (Fits c.args.library.now) c.loop.script.items c.in_ok-call.call c.loop.invariant c.in_ok-call.ensures)
