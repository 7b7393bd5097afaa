-- The readings of a list, item by item.
use Rattle.std.proofs.Common.{◌≡◌, ℕ, ◌+◌, List, [], ◌∷◌, ◌++◌, length, option_map, Option, Some, None, Result, Ok, Err, refl, sym, ap, append_assoc, arith, length-append}
use Rattle.serde_json.specs.Data.{Data}
use Rattle.serde_json.specs.View.{items_of}
use Rattle.vll_proc.specs.declared.syntax.Edition.{Edition}
use Rattle.vll_proc.specs.declared.syntax.Stmt.{Stmt}
use Rattle.vll_scenario.specs.Syntax.{both_of, each_stmt, stmt_at}
use Rattle.vll_scenario.specs.Tree.{in_front, each}

-- items in front of a reading, with its index as much further on
abbrev pub behind : {A : Type 0} → List A → Result (List A) ℕ → Result (List A) ℕ
behind xs (Ok ys) = Ok (xs ++ ys)
behind xs (Err i) = Err (length xs + i)

pub behind-push : {A : Type 0} (xs : List A) (a : A) (reading : Result (List A) ℕ) → behind (xs ++ a ∷ []) reading ≡ behind xs (in_front (Some a) reading)
behind-push xs a (Ok ys) = ap Ok (append_assoc xs (a ∷ []) ys)
behind-push xs a (Err i) = ap Err (omega (arith, length-append xs (a ∷ [])))

pub behind-nothing : {A : Type 0} (reading : Result (List A) ℕ) → behind [] reading ≡ reading
behind-nothing (Ok ys) = refl
behind-nothing (Err i) = ap Err (omega arith)

-- the reading of the items from one on, where that item has a reading
pub behind-each : {A : Type 0} (f : Data → Option A) (xs : List A) (a : A) (d : Data) (ds : List Data) → f d ≡ Some a → behind xs (each f (items_of (d ∷ ds))) ≡ behind (xs ++ a ∷ []) (each f (items_of ds))
behind-each f xs a d ds is = rw is (sym (behind-push xs a (each f (items_of ds))))

pub behind-fault : {A : Type 0} (f : Data → Option A) (xs : List A) (d : Data) (ds : List Data) → f d ≡ None → behind xs (each f (items_of (d ∷ ds))) ≡ Err (length xs)
behind-fault f xs d ds is = rw is (ap Err (omega arith))

-- the statements from one on, where that one is a statement
pub behind-stmt : (edition : Edition) (xs : List Stmt) (x : Stmt) (d : Data) (ds : List Data) → stmt_at edition d ≡ Some x
    → option_map (λ ys. xs ++ ys) (each_stmt edition (items_of (d ∷ ds))) ≡ option_map (λ ys. (xs ++ x ∷ []) ++ ys) (each_stmt edition (items_of ds))
behind-stmt edition xs x d ds is = rw is (more (each_stmt edition (items_of ds)))
  where
    more : (others : Option (List Stmt)) → option_map (λ ys. xs ++ ys) (both_of (λ y ys. y ∷ ys) (Some x) others) ≡ option_map (λ ys. (xs ++ x ∷ []) ++ ys) others
    more None = refl
    more (Some ys) = ap Some (sym (append_assoc xs (x ∷ []) ys))
