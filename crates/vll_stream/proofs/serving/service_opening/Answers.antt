use Rattle.std.proofs.Common.{◌≡◌, ℕ, List, true, false, not, refl, sym, ap, ◌∙◌, rules}
use Rattle.std.proofs.lemmas.List.{map-id}
use Rattle.std.proofs.lemmas.Slice.Zip.{AllZip-map}
use Rattle.std.specs.Global.{Vec}
use Rattle.std.specs.List.{list_all}
use Rattle.vll_proc.specs.declared.call.Call.{Call}
use Rattle.vll_stream.specs.Served.{has_calls, is_none}
use Rattle.vll_stream.proofs.Empty.{empty_lists}
use Rattle.vll_stream.proofs.serving.service_opening.Goals.{After-are_empty}
use Rattle.vll_stream.proofs.serving.service_opening.Goals as goal

-- whether the scenario has calls was tested
tested : (c : After-are_empty) → has_calls c.args.scenario ≡ not c.are_empty.result
tested c =
    let all = ap (list_all (λ (v : Vec Call). is_none v.items)) c.as_slice.ensures.value ∙ (empty_lists c.into_parts-records.result.scripts.items ∙ ap (list_all is_none) c.into_parts-records.ensures.scripts) in
    ap not (sym (c.are_empty.ensures ∙ all))

pub returns-then-not-are_empty-clause-calls : goal.returns-then-not-are_empty-clause-calls
returns-then-not-are_empty-clause-calls c =
    (λ _. tested (goal.at.returns-then-not-are_empty-clause-calls c).After-are_empty ∙ ap not c.if-not-are_empty.true, λ _. refl)

pub returns-in-Ok-clause-calls : goal.returns-in-Ok-clause-calls
returns-in-Ok-clause-calls c =
    let empty : has_calls c.args.scenario ≡ false = tested (goal.at.returns-in-Ok-clause-calls c).After-are_empty ∙ ap not c.if-not-are_empty.false in
    (λ is. absurd (search rules), λ has. absurd (let e : true ≡ false = sym has ∙ empty in search rules))

pub returns-in-Err-NoMemory-clause-calls : goal.returns-in-Err-NoMemory-clause-calls
returns-in-Err-NoMemory-clause-calls c =
    let empty : has_calls c.args.scenario ≡ false = tested (goal.at.returns-in-Err-NoMemory-clause-calls c).After-are_empty ∙ ap not c.if-not-are_empty.false in
    (λ is. absurd (search rules), λ has. absurd (let e : true ≡ false = sym has ∙ empty in search rules))

pub returns-in_err-values-clause-calls : goal.returns-in_err-values-clause-calls
returns-in_err-values-clause-calls c =
    let empty : has_calls c.args.scenario ≡ false = tested (goal.at.returns-in_err-values-clause-calls c).After-are_empty ∙ ap not c.if-not-are_empty.false in
    (λ is. absurd (search rules), λ has. absurd (let e : true ≡ false = sym has ∙ empty in search rules))

pub returns-in-Ok-clause-records : goal.returns-in-Ok-clause-records
returns-in-Ok-clause-records c =
    let old : List ℕ = c.into_parts-records.result.records.items in
    AllZip-map (λ (n : ℕ). n) old c.in_ok-values.values.items c.in_ok-values.ensures.cases.0 ∙ (map-id old ∙ c.into_parts-records.ensures.records)
