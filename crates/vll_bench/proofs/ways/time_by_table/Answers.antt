-- The scenario's library makes each call of each script.
use Rattle.std.proofs.Common.{All, List, sym, subst}
use Rattle.std.specs.Global.{Vec}
use Rattle.vll_proc.specs.declared.call.Call.{Call}
use Rattle.vll_check.specs.Calls.{Fits}
use Rattle.vll_check.specs.Headline.Catalog.{Catalog}
use Rattle.vll_bench.proofs.ways.time_by_table.Goals as goal

abbrev AllFit : Catalog → List (Vec Call) → Type 0
AllFit library = All (λ (s : Vec Call). All (Fits library) s.items)

pub time_shares-requires-clause-fits : goal.time_shares-requires-clause-fits
time_shares-requires-clause-fits g c κs within =
    let fit = subst (AllFit c.in_ok-parts.parts.library) (sym c.as_slice-scripts.ensures.value) c.in_ok-parts.ensures in
    subst (λ (l : Catalog). AllFit l c.as_slice-scripts.result.now) (sym c.in_ok-maker.ensures) fit
