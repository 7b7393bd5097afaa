-- What does nothing leaves each scene as it is, so that its turns need not be taken.
use Rattle.std.proofs.Common.{◌≡◌, ℕ, zero, suc, ◌*◌, ◌≤◌, ◌==◌, nat_lt, Bool, true, false, ◌&&◌, ◌||◌, List, [], ◌∷◌, map, Ok, if◌then◌else◌, refl, sym, ap, ◌∙◌, arith}
use Rattle.vll_proc.proofs.Common.{list_all, Stmt, Row_of-Stmt, end_of-Stmt, more_of-Stmt, Let, Set, If', Abort, Reply, Repeat, Repeat', Scene, Action, effect, in_turn, repeated, list_effect}
use Rattle.std.proofs.Math.Dec.{eqb-suc-zero}
use Rattle.vll_proc.proofs.Copy.{both_true}
use Rattle.vll_proc.specs.Steps.{does_nothing, list_does_nothing, turns_taken}
use denote.Hole.Carrier.{hidden}
use Rattle.vll_proc.specs.declared.syntax.Stmt.TheBlock.{hidden-the_row-Stmt-0}

list_does_nothing-row : (xs : List Stmt) → list_does_nothing (hidden-the_row-Stmt-0 xs) ≡ list_all does_nothing xs
unfolding hidden hidden-the_row-Stmt-0
list_does_nothing-row [] = refl
list_does_nothing-row (x ∷ xs) = ap (λ (b : Bool). does_nothing x && b) (list_does_nothing-row xs)

pub does_nothing_repeat : (n : ℕ) (xs : List Stmt) → does_nothing (Repeat n xs) ≡ (n == 0 || list_all does_nothing xs)
unfolding hidden hidden-the_row-Stmt-0
does_nothing_repeat n xs = ap (λ (b : Bool). n == 0 || b) (list_does_nothing-row xs)

repeated_still : (n : ℕ) (act : Action) (s : Scene) → act s ≡ Ok s → repeated n act s ≡ Ok s
repeated_still zero act s stays = refl
repeated_still (suc n) act s stays = rw stays (repeated_still n act s stays)

none_or_still : (n : ℕ) (nothing : Bool) (act : Action) (s : Scene) → (nothing ≡ true → act s ≡ Ok s) → (n == 0 || nothing) ≡ true → repeated n act s ≡ Ok s
none_or_still zero nothing act s go h = refl
none_or_still (suc n) nothing act s go h = repeated_still (suc n) act s (go (ap (λ (b : Bool). b || nothing) (sym (eqb-suc-zero n)) ∙ h))

mutual
  still : (st : Stmt) (s : Scene) → does_nothing st ≡ true → effect st s ≡ Ok s
  still (Let i e) s h = absurd cc
  still (Set i e) s h = absurd cc
  still (If' e m first n second) s h = absurd cc
  still (Abort code) s h = absurd cc
  still (Reply e) s h = absurd cc
  still (Repeat' turns m list) s h = none_or_still turns (list_does_nothing list) (list_effect list) s (list_still list s) h

  list_still : {m : _} → (row : Row_of-Stmt m) (s : Scene) → list_does_nothing row ≡ true → list_effect row s ≡ Ok s
  list_still end_of-Stmt s h = refl
  list_still (more_of-Stmt st rest) s h =
      let parts = both_true (does_nothing st) (list_does_nothing rest) h in
      rw (still st s parts.0) (list_still rest s parts.1)

all_still : (xs : List Stmt) (s : Scene) → list_all does_nothing xs ≡ true → in_turn (map effect xs) s ≡ Ok s
all_still [] s h = refl
all_still (x ∷ xs) s h =
    let parts = both_true (does_nothing x) (list_all does_nothing xs) h in
    rw (still x s parts.0) (all_still xs s parts.1)

some_or_still : (many nothing : Bool) (n : ℕ) (act : Action) (s : Scene) → (nothing ≡ true → act s ≡ Ok s) → repeated (if many && nothing then 0 else n) act s ≡ repeated n act s
some_or_still true true n act s go = sym (repeated_still n act s (go refl))
some_or_still true false n act s go = refl
some_or_still false nothing n act s go = refl

-- the turns that are taken have the effect of all turns
pub repeated-taken : (n : ℕ) (xs : List Stmt) (s : Scene) → repeated (turns_taken n (list_all does_nothing xs)) (in_turn (map effect xs)) s ≡ repeated n (in_turn (map effect xs)) s
repeated-taken n xs s = some_or_still (nat_lt 1 n) (list_all does_nothing xs) n (in_turn (map effect xs)) s (all_still xs s)

some_or_all : (both : Bool) (n size : ℕ) → (if both then 0 else n) * size ≤ n * size
some_or_all true n size = omega arith
some_or_all false n size = omega arith

-- and add no more outputs than all of them may
pub product-taken : (n : ℕ) (nothing : Bool) (size : ℕ) → turns_taken n nothing * size ≤ n * size
product-taken n nothing size = some_or_all (nat_lt 1 n && nothing) n size
