-- The pieces of a text that was formatted, and the letters of its literals.
use Rattle.std.proofs.Common.{◌≡◌, ◌∙◌, ◌++◌, ◌∷◌, IfOk, ℕ, List, Result, Ok, Err, codes, append_assoc, ap}
use Rattle.serde_json.specs.Data.{Data}
use Rattle.vll_scenario.specs.declared.fault.ScenarioFault.{ScenarioFault}
use Rattle.vll_fault_path.specs.declared.piece.Step.{Step}
use Rattle.vll_scenario.specs.Line.{fault_words}
use Rattle.vll_fault_path.specs.Ways.{LeadsToFault}
use Rattle.vll_explain.specs.Explained.{IsBegun, IsLocated, IsShown, line_of, way_words}

spelled : (a w rest : List ℕ) → a ++ (w ++ (10 ∷ 97 ∷ 116 ∷ 58 ∷ 32 ∷ rest)) ≡ (a ++ w ++ codes "\n") ++ codes "at: " ++ rest
spelled a w rest = simp append_assoc

-- a line and an explanation
pub begun_by : {T E : Type 0} (of : T → List ℕ) (r : Result T E) (why : ScenarioFault) (rest : List ℕ) → IfOk r (λ t. of t ≡ codes "vll: scenario: " ++ (fault_words why ++ (10 ∷ 97 ∷ 116 ∷ 58 ∷ 32 ∷ rest)))
    → IfOk r (λ t. IsBegun why (of t))
begun_by of (Ok t) why rest is = (rest, is ∙ spelled (codes "vll: scenario: ") (fault_words why) rest)
begun_by of (Err e) why rest is = tt

spelled_way : (a w place rest : List ℕ) → a ++ (w ++ (10 ∷ 97 ∷ 116 ∷ 58 ∷ 32 ∷ (place ++ (10 ∷ 119 ∷ 104 ∷ 121 ∷ 58 ∷ 32 ∷ rest)))) ≡ (a ++ w ++ codes "\n") ++ codes "at: " ++ place ++ codes "\nwhy: " ++ rest
spelled_way a w place rest = simp append_assoc

-- a line, a way and a reason
pub located_by : {T E : Type 0} (of : T → List ℕ) (r : Result T E) (tree : Data) (why : ScenarioFault) (way : List Step) (shown place rest : List ℕ) → LeadsToFault tree why way → IsShown way shown → place ≡ way_words shown way
    → IfOk r (λ t. of t ≡ codes "vll: scenario: " ++ (fault_words why ++ (10 ∷ 97 ∷ 116 ∷ 58 ∷ 32 ∷ (place ++ (10 ∷ 119 ∷ 104 ∷ 121 ∷ 58 ∷ 32 ∷ rest)))))
    → IfOk r (λ t. IsLocated tree why (of t))
located_by of (Ok t) tree why way shown place rest leads names words is =
    record { way = way; leads = leads; shown = shown; is_shown = names; rest = rest; is = is ∙ spelled_way (codes "vll: scenario: ") (fault_words why) place rest ∙ ap (λ p. line_of why ++ codes "at: " ++ p ++ codes "\nwhy: " ++ rest) words }
located_by of (Err e) tree why way shown place rest leads names words is = tt
