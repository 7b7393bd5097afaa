-- What items give one after another, and the first fault among them.
use Rattle.std.proofs.Common.{◌≡◌, ℕ, suc, ◌+◌, List, [], ◌∷◌, ◌++◌, Result, Ok, Err, refl, sym, ap, append_assoc, add-one}
use Rattle.vll_scenario.specs.Shape.{◌>>=◌}
use Rattle.vll_scenario.specs.Scenario.{each_given}

-- what was given, in front of what is given
abbrev pub after_those : {B F : Type 0} → List B → Result (List B) F → Result (List B) F
after_those xs (Ok ys) = Ok (xs ++ ys)
after_those xs (Err why) = Err why

push : {B F : Type 0} (ys : List B) (y : B) (given : Result (List B) F) → after_those ys (given >>= (λ zs. Ok (y ∷ zs))) ≡ after_those (ys ++ y ∷ []) given
push ys y (Ok zs) = ap Ok (sym (append_assoc ys (y ∷ []) zs))
push ys y (Err why) = refl

-- an item that gives something
pub after_those-next : {A B F : Type 0} (f : ℕ → A → Result B F) (ys : List B) (i : ℕ) (x : A) (xs : List A) (y : B) → f i x ≡ Ok y
    → after_those ys (each_given f i (x ∷ xs)) ≡ after_those (ys ++ y ∷ []) (each_given f (i + 1) xs)
after_those-next f ys i x xs y is = rw (is, add-one) (push ys y (each_given f (suc i) xs))

-- an item that has a fault
pub after_those-fault : {A B F : Type 0} (f : ℕ → A → Result B F) (ys : List B) (i : ℕ) (x : A) (xs : List A) (why : F) → f i x ≡ Err why → after_those ys (each_given f i (x ∷ xs)) ≡ Err why
after_those-fault f ys i x xs why is = rw is refl
