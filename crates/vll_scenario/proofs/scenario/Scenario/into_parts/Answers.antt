use Rattle.std.proofs.Common.{ℕ, sym, subst}
use Rattle.std.specs.List.{All}
use Rattle.vll_check.specs.Calls.{Fits}
use Rattle.vll_scenario.specs.Setup.{lists_of}
use Rattle.vll_scenario.proofs.Fitting.{in_lists}
use Rattle.vll_scenario.proofs.scenario.Scenario.into_parts.Goals as goal

-- the library is for as many records as there are
pub returns-clause-fits : goal.returns-clause-fits
returns-clause-fits c =
    let parts = c.self.inside.parts in
    let made = subst (λ (n : ℕ). All (λ script. All (Fits (record { records = n; procs = parts.library.procs })) script) (lists_of parts.scripts.items)) (sym c.self.invariant.records) c.self.invariant.setup.fits in
    in_lists (λ script. All (Fits parts.library) script) parts.scripts.items made
