-- A search of a part, by the searches of the parts in it.
use Rattle.std.proofs.Common.{◌≡◌, ◌≤◌, ◌++◌, ℕ, suc, max, min, false, List, [], ◌∷◌, Some, Result, Ok, Err, arith, subst, sym}
use Rattle.std.specs.Prelude.{IsErrAnd}
use Rattle.vll_check.specs.declared.piece.Before.{Before}
use Rattle.vll_check.specs.declared.piece.Piecewise.{Piecewise}
use Rattle.vll_fault_path.specs.declared.part.Stop.{Stop}
use Rattle.vll_fault_path.specs.declared.part.Stop.TheVariants.{Fault, NoMemory}
use Rattle.vll_fault_path.specs.declared.piece.Step.{Step}
use Rattle.vll_fault_path.specs.Parts.{HasParts, Part, Placed, first_part, part_passes}
use Rattle.vll_fault_path.specs.Private.{EndsSearch}
use Rattle.vll_fault_path.proofs.Parts.{goes_on}

module _ {B C : Type 0} (t : Piecewise) (before : Before) (part : Part) (ps : List Placed) (found : Before × Placed) (IsIn : B → Type 0) (IsBehind : C → Type 0) (old mid new : List Step) where
  ended : (why : Stop) → HasParts part ps → (part_passes t found.0 found.1.part ≡ false → first_part t before ps ≡ Some found) → (part_passes t found.0 found.1.part ≡ false → part_passes t before part ≡ false)
      → mid ≡ old ++ found.1.step ∷ [] → EndsSearch t found.0 found.1.part IsIn (Err why) mid new → EndsSearch t before part IsBehind (Err why) old new
  ended (Fault n) has first fails pushed (is, on) = (fails is, goes_on t before part ps old mid new found has (first is) pushed on)
  ended NoMemory has first fails pushed is = tt

  -- a search that has ended in a part has ended in the one around it
  pub ends_in : (r : Result C Stop) (why : Stop) → IsErrAnd r (λ y. y ≡ why) → HasParts part ps → (part_passes t found.0 found.1.part ≡ false → first_part t before ps ≡ Some found)
      → (part_passes t found.0 found.1.part ≡ false → part_passes t before part ≡ false) → mid ≡ old ++ found.1.step ∷ [] → EndsSearch t found.0 found.1.part IsIn (Err why) mid new
      → EndsSearch t before part IsBehind r old new
  ends_in (Ok b) why is has first fails pushed in_it = absurd is
  ends_in (Err y) why is has first fails pushed in_it = subst (λ (w : Stop). EndsSearch t before part IsBehind (Err w) old new) (sym is) (ended why has first fails pushed in_it)

-- ---- a search whose end is passed on

passed : {B C : Type 0} (t : Piecewise) (before : Before) (part : Part) (IsIn : B → Type 0) (IsBehind : C → Type 0) (old new : List Step) (why : Stop)
    → EndsSearch t before part IsIn (Err why) old new → EndsSearch t before part IsBehind (Err why) old new
passed t before part IsIn IsBehind old new (Fault n) ended = ended
passed t before part IsIn IsBehind old new NoMemory ended = tt

pub passed_on : {B C : Type 0} (t : Piecewise) (before : Before) (part : Part) (IsIn : B → Type 0) (IsBehind : C → Type 0) (old new : List Step) (r : Result C Stop) (why : Stop)
    → IsErrAnd r (λ y. y ≡ why) → EndsSearch t before part IsIn (Err why) old new → EndsSearch t before part IsBehind r old new
passed_on t before part IsIn IsBehind old new (Ok b) why is ended = absurd is
passed_on t before part IsIn IsBehind old new (Err y) why is ended =
    subst (λ (w : Stop). EndsSearch t before part IsBehind (Err w) old new) (sym is) (passed t before part IsIn IsBehind old new why ended)

-- ---- depths, as far as a limit

pub deeper : (k n m d r : ℕ) → m ≡ suc n → d ≡ min n k → r ≡ min (suc d) k → r ≡ min m k
deeper k n m d r around is made = omega (arith, around, is, made)

pub deeper_two : (k a b m x y d r : ℕ) → m ≡ suc (max a b) → x ≡ min a k → y ≡ min b k → d ≡ max x y → r ≡ min (suc d) k → r ≡ min m k
deeper_two k a b m x y d r around one two both made = omega (arith, around, one, two, both, made)

pub deeper_three : (k a b e m x y z d r : ℕ) → m ≡ suc (max a (max b e)) → x ≡ min a k → y ≡ min b k → z ≡ min e k → d ≡ max x (max y z) → r ≡ min (suc d) k → r ≡ min m k
deeper_three k a b e m x y z d r around one two three all made = omega (arith, around, one, two, three, all, made)

-- the deepest of a list, with one more statement
pub further : (k d s n m x most : ℕ) → x ≡ min s k → most ≡ max d x → min (max d (max s n)) k ≡ m → min (max most n) k ≡ m
further k d s n m x most is both so_far = omega (arith, is, both, so_far)

-- and at its end
pub at_end : (k d n m : ℕ) → d ≤ k → n ≡ 0 → min (max d n) k ≡ m → d ≡ m
at_end k d n m few none so_far = omega (arith, few, none, so_far)
