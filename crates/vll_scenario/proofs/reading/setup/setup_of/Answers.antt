use Rattle.std.proofs.Common.{◌≡◌, ◌∙◌, ℕ, Ok, true, ap, sym, subst, length}
use Rattle.std.specs.List.{All}
use Rattle.vll_check.specs.Calls.{Fits}
use Rattle.vll_check.specs.Headline.Catalog.{Catalog}
use Rattle.vll_core.specs.Faults.{open_fault}
use Rattle.vll_scenario.specs.Setup.{lists_of, has_sizes}
use Rattle.vll_scenario.specs.Scenario.{scripts_made}
use Rattle.vll_scenario.proofs.Fitting.{scripts_fit, scripts_sizes}
use Rattle.vll_scenario.proofs.Bounds.{none_there, sizes_say}
use Rattle.vll_scenario.proofs.reading.setup.setup_of.Goals as goal

pub from_parts-requires-clause-records : goal.from_parts-requires-clause-records
from_parts-requires-clause-records c =
    let kept : c.in_ok-records.records.items ≡ c.args.parts.records = c.in_ok-records.ensures.items ∙ c.as_slice-2.ensures in
    ap (λ (l : Catalog). l.records) c.in_ok-library.ensures.ok ∙ c.len-count.ensures ∙ ap length (sym kept)

pub from_parts-requires-clause-kept : goal.from_parts-requires-clause-kept
from_parts-requires-clause-kept c =
    let parts = c.args.parts in
    let made = lists_of c.in_ok-scripts.scripts.items in
    let library = c.in_ok-library.library in
    let records = c.in_ok-records.records.items in
    let sizes : has_sizes parts.procs parts.scripts parts.schedule ≡ true = rw (← c.has_sizes.ensures) c.if-not-has_sizes.false in
    let kept : records ≡ parts.records = c.in_ok-records.ensures.items ∙ c.as_slice-2.ensures in
    let as_many : library.records ≡ length records = ap (λ (l : Catalog). l.records) c.in_ok-library.ensures.ok ∙ c.len-count.ensures ∙ ap length (sym kept) in
    let procs : library.procs ≡ parts.procs = ap (λ (l : Catalog). l.procs) c.in_ok-library.ensures.ok ∙ c.in_ok-checked.ensures.procs in
    let scripts : scripts_made library parts.scripts ≡ Ok made = sym (ap (scripts_made library) c.as_slice.ensures) ∙ c.in_ok-scripts.ensures in
    record {
      sizes = sizes_say library.procs made parts.schedule
          (scripts_sizes library.procs parts.schedule library parts.scripts made scripts ∙ ap (λ ps. has_sizes ps parts.scripts parts.schedule) procs ∙ sizes);
      openable = ap (λ (n : ℕ). open_fault n c.config_of-config.result) (ap length kept ∙ sym c.len.ensures) ∙ sym c.open_fault.ensures ∙ none_there c.open_fault.result (sym c.is_some.ensures ∙ c.if-is_some.false);
      fits = subst (λ (n : ℕ). All (λ script. All (Fits (record { records = n; procs = library.procs })) script) made) as_many (scripts_fit library parts.scripts made scripts);
    }
