-- Procedures that are checked from the last one on.
use Rattle.std.proofs.Common.{◌≡◌, ℕ, suc, ◌++◌, List, [], ◌∷◌, length, map, drop, reverse, Option, None, refl, sym, ap, ◌∙◌, append_assoc, arith, length-append}
use Rattle.std.proofs.Math.Seq.{drop-append_seam}
use Rattle.std.proofs.lemmas.List.{map-append, reverse-append, reverse-reverse}
use Rattle.vll_proc.specs.declared.syntax.Proc.{Proc}
use Rattle.vll_check.specs.Entry.{Entry}
use Rattle.vll_check.specs.Faults.{check_fault}
use Rattle.vll_scenario.specs.declared.fault.ScenarioFault.{ScenarioFault}
use Rattle.vll_scenario.specs.Scenario.{first_check_from}

-- the last of those that were left, in front of the others
whole : {A : Type 0} (all left rest new : List A) (x : A) → all ≡ left ++ rest → left ≡ new ++ x ∷ [] → all ≡ new ++ x ∷ rest
whole all left rest new x is last = is ∙ ap (λ xs. xs ++ rest) last ∙ append_assoc new (x ∷ []) rest

pub drop-last : {A : Type 0} (all left rest new : List A) (x : A) → all ≡ left ++ rest → left ≡ new ++ x ∷ [] → drop (length new) all ≡ x ∷ rest
drop-last all left rest new x is last = ap (drop (length new)) (whole all left rest new x is last) ∙ drop-append_seam new (x ∷ rest)

pub left_of : {A : Type 0} (all left rest new : List A) (x : A) → all ≡ left ++ rest → left ≡ new ++ x ∷ [] → all ≡ new ++ drop (length new) all
left_of all left rest new x is last = whole all left rest new x is last ∙ ap (λ xs. new ++ xs) (sym (drop-last all left rest new x is last))

-- one more that passes changes no fault
pub passes_too : (records : ℕ) (left new rest : List Proc) (p : Proc) (first : Option ScenarioFault) → left ≡ new ++ p ∷ [] → check_fault records p ≡ None
    → first_check_from records (length left) rest ≡ first → first_check_from records (length new) (p ∷ rest) ≡ first
passes_too records left new rest p first last none so_far =
    let longer : length left ≡ suc (length new) = ap length last ∙ omega (arith, length-append new (p ∷ [])) in
    let moved : first_check_from records (suc (length new)) rest ≡ first = ap (λ n. first_check_from records n rest) (sym longer) ∙ so_far in
    rw none moved

reverse-first : {A : Type 0} (x : A) (xs : List A) → reverse (x ∷ xs) ≡ reverse xs ++ x ∷ []
reverse-first x xs = reverse-append (x ∷ []) xs

-- the procedures of the checked ones, which come from the last one on
pub reverse-next : (checked : List Entry) (e : Entry) (p : Proc) (rest : List Proc) → e.procedure ≡ p → map (λ (d : Entry). d.procedure) checked ≡ reverse rest
    → map (λ (d : Entry). d.procedure) (checked ++ e ∷ []) ≡ reverse (p ∷ rest)
reverse-next checked e p rest is so_far =
    map-append (λ (d : Entry). d.procedure) checked (e ∷ []) ∙ ap (λ xs. xs ++ e.procedure ∷ []) so_far ∙ ap (λ q. reverse rest ++ q ∷ []) is ∙ sym (reverse-first p rest)

map-reverse : {A B : Type 0} (f : A → B) (xs : List A) → map f (reverse xs) ≡ reverse (map f xs)
map-reverse f [] = refl
map-reverse f (x ∷ xs) = ap (map f) (reverse-first x xs) ∙ map-append f (reverse xs) (x ∷ []) ∙ ap (λ ys. ys ++ f x ∷ []) (map-reverse f xs) ∙ sym (reverse-first (f x) (map f xs))

pub reverse-whole : (checked : List Entry) (procs : List Proc) → map (λ (d : Entry). d.procedure) checked ≡ reverse procs → map (λ (d : Entry). d.procedure) (reverse checked) ≡ procs
reverse-whole checked procs is = map-reverse (λ (d : Entry). d.procedure) checked ∙ ap reverse is ∙ reverse-reverse procs
