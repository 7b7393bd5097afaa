-- The scenario's library makes each call of each script.
use Rattle.std.proofs.Common.{All, sym, subst}
use Rattle.std.specs.Global.{Vec}
use Rattle.vll_proc.specs.declared.call.Call.{Call}
use Rattle.vll_check.specs.Calls.{Fits}
use Rattle.vll_bench.proofs.ways.time_serially.Goals as goal

pub time_serial-requires : goal.time_serial-requires
time_serial-requires g c =
    let parts = c.in_ok-parts.parts in
    subst (All (λ (s : Vec Call). All (Fits parts.library) s.items)) (sym c.as_slice-scripts.ensures.value) c.in_ok-parts.ensures
