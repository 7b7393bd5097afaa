use Rattle.std.proofs.Common.{All}
use Rattle.std.proofs.lemmas.List.Elements.{All-push}
use Rattle.vll_check.specs.Calls.{Fits}
use Rattle.vll_simulation.proofs.seeds.copied.Goals as goal

pub loop-script-preserved : goal.loop-script-preserved
loop-script-preserved c =
    rw (c.in_ok-push.ensures.items) (All-push (λ script. All (Fits c.args.library.now) script.items) c.loop-script.copies.items c.in_ok-copied_script.field-0 c.loop-script.invariant c.in_ok-copied_script.ensures)
