use Rattle.std.proofs.Common.{◌≡◌, ◌≤◌, ℕ, List, arith, sym, ap, ap₂, subst, ◌∙◌}
use Rattle.std.proofs.lemmas.Grind.{common_steps}
use Rattle.std.specs.Prelude.{sum_by, length}
use Rattle.std.specs.Global.{Vec}
use Rattle.std.specs.List.{All}
use Rattle.vll_proc.specs.declared.call.Call.{Call}
use Rattle.vll_check.specs.Calls.{Fits}
use Rattle.vll_check.specs.Headline.Catalog.{Catalog}
use Rattle.vll_core.specs.declared.config.TheConstants.{MOST_CALLS}
use Rattle.vll_sca.specs.declared.place.Placing.{Placing}
use Rattle.vll_sca.specs.Placing.{placing}
use Rattle.vll_queue.specs.Shown.{OpeningShown, library_of, name_of}
use Rattle.vll_scenario.proofs.Bounds.{scripts_short}
use Rattle.vll_server.proofs.serving.opening_of.Goals as goal

pub returns-in-Ok-clause-short : goal.returns-in-Ok-clause-short
returns-in-Ok-clause-short c =
    let few = subst (λ (scripts : List (List Call)). sum_by length scripts ≤ MOST_CALLS) (sym c.into_parts-records.ensures.scripts) c.into_parts-records.ensures.kept.sizes.few_calls in
    scripts_short c.into_parts-records.result.scripts.items few

-- the engine's library is the scenario's
pub returns-in-Ok-clause-fits : goal.returns-in-Ok-clause-fits
returns-in-Ok-clause-fits c =
    let parts = c.into_parts-records.result in
    let opened : library_of (name_of placing c.in-Ok.opening) ≡ record { records = length parts.records.items; procs = parts.library.procs } =
    ap (λ (o : OpeningShown Placing). library_of (name_of placing o)) c.in-Ok.ensures.opened in
    let kept : library_of (name_of placing c.in-Ok.opening) ≡ parts.library =
    opened
    ∙ ap₂ (λ (records : List ℕ) (library : Catalog). record { records = length records; procs = library.procs }) c.into_parts-records.ensures.records c.into_parts-records.ensures.library
    ∙ sym c.into_parts-records.ensures.library in
    subst (λ (library : Catalog). All (λ (script : Vec Call). All (Fits library) script.items) parts.scripts.items) (sym kept) c.into_parts-records.ensures.fits

pub returns-in-Ok-clause-opened : goal.returns-in-Ok-clause-opened
returns-in-Ok-clause-opened c = grind (arith, common_steps)
