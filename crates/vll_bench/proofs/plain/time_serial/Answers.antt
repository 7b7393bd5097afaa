-- The library makes each call of each script.
use Rattle.std.proofs.Common.{All, sym, subst}
use Rattle.std.specs.Global.{Vec}
use Rattle.vll_proc.specs.declared.call.Call.{Call}
use Rattle.vll_check.specs.Calls.{Fits}
use Rattle.vll_bench.proofs.plain.time_serial.Goals as goal

pub make_script-requires : goal.make_script-requires
make_script-requires g c =
    let fits = Fits c.args.library.now in
    subst (All fits) (sym c.as_slice.ensures.value) (subst (λ (s : Vec Call). All fits s.items) (sym c.script-item.is) (c.requires c.loop-script.script-index c.script-item.result c.loop-script-test.true))
