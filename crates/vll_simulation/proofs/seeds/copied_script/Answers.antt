use Rattle.std.proofs.lemmas.List.Elements.{All-push}
use Rattle.vll_check.specs.Calls.{Fits}
use Rattle.vll_simulation.proofs.seeds.copied_script.Goals as goal

pub loop-call-preserved : goal.loop-call-preserved
loop-call-preserved c =
    rw (c.in_ok-push.ensures.items) (All-push (Fits c.args.library.now) c.loop-call.copy.items c.call-item.result c.loop-call.invariant (c.fits.ensures.0 (search (c.if-not-fits.false))))
