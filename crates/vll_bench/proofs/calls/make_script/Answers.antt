-- The library makes each call of the caller's script.
use Rattle.std.proofs.Common.{All, sym, subst}
use Rattle.vll_check.specs.Calls.{Fits}
use Rattle.vll_queue.specs.Shown.{library_of}
use Rattle.vll_bench.proofs.calls.make_script.Goals as goal

pub make-requires : goal.make-requires
make-requires g c =
    let fits = Fits (library_of g.N.Name.engine) in
    let all = subst (All fits) (sym c.deref-call-items.ensures.value) c.caller.invariant in
    record { fits = subst fits (sym c.call-item.is) (all c.loop-call.call-index c.call-item.result c.loop-call-test.true) }
