-- The parts of a procedure, and the way from it to the part that is at fault.
use Rattle.std.specs.Prelude.{◌≡◌, ◌⊎◌, ℕ, suc, Bool, ◌&&◌, List, [], ◌∷◌, Option, Some, None, if◌then◌else◌}
use Rattle.vll_proc.specs.declared.syntax.Expr.{Expr, Num, Arg, Key, Local, Add, Sub, Mul, Div, Rem, Min, Max, Equal, Less, Not}
use Rattle.vll_proc.specs.declared.syntax.KeyDecl.{KeyDecl}
use Rattle.vll_proc.specs.declared.syntax.Proc.{Proc}
use Rattle.vll_proc.specs.declared.syntax.Stmt.{Stmt, Let, Set, If, Abort, Reply, Repeat}
use Rattle.vll_check.specs.declared.piece.Before.{Before}
use Rattle.vll_check.specs.declared.piece.Piecewise.{Piecewise}
use Rattle.vll_check.specs.Pieces.{after_key, after_statement, args_pass, expression_passes, key_passes, keys_pass, list_passes, statement_passes}
use Rattle.vll_fault_path.specs.declared.piece.Step.{Step}
use Rattle.vll_fault_path.specs.declared.piece.Step.TheVariants as step

-- a part of a procedure: the whole, the number of its arguments, its key positions, one of them with its index, a list of
-- statements, a statement or an expression
pub data Part : Type 0 where
  whole : Proc → Part
  args : Part
  keys : List KeyDecl → Part
  key : ℕ → KeyDecl → Part
  list : List Stmt → Part
  statement : Stmt → Part
  expression : Expr → Part

-- a part, and the step to it from the one that it is in
pub record Placed : Type 0 where
  pub step : Step
  pub part : Part

-- a part at a step
abbrev pub at : Step → Part → Placed
at s p = record { step = s; part = p }

-- key positions, with indexes from i on
abbrev pub keys_from : ℕ → List KeyDecl → List Placed
keys_from i [] = []
keys_from i (k ∷ ks) = at (step.Key i) (key i k) ∷ keys_from (suc i) ks

-- statements, with indexes from i on
abbrev pub statements_from : ℕ → List Stmt → List Placed
statements_from i [] = []
statements_from i (st ∷ sts) = at (step.Statement i) (statement st) ∷ statements_from (suc i) sts

-- an expression is an operation with two operands
abbrev pub IsOperation : Expr → Expr → Expr → Type 0
IsOperation e a b = (e ≡ Add a b) ⊎ ((e ≡ Sub a b) ⊎ ((e ≡ Mul a b) ⊎ ((e ≡ Div a b) ⊎ ((e ≡ Rem a b) ⊎ ((e ≡ Min a b) ⊎ ((e ≡ Max a b) ⊎ ((e ≡ Equal a b) ⊎ (e ≡ Less a b))))))))

-- the parts in a part, in the order in which they are tested
pub data HasParts : Part → List Placed → Type 0 where
  of_whole : (p : Proc) → HasParts (whole p) (at step.Args args ∷ at step.Keys (keys p.keys) ∷ at step.Body (list p.body) ∷ [])
  of_args : HasParts args []
  of_keys : (ks : List KeyDecl) → HasParts (keys ks) (keys_from 0 ks)
  of_key : (i : ℕ) (k : KeyDecl) → HasParts (key i k) []
  of_list : (sts : List Stmt) → HasParts (list sts) (statements_from 0 sts)
  of_let : (i : ℕ) (e : Expr) → HasParts (statement (Let i e)) (at step.Value (expression e) ∷ [])
  of_set : (i : ℕ) (e : Expr) → HasParts (statement (Set i e)) (at step.Value (expression e) ∷ [])
  of_if : (e : Expr) (first second : List Stmt)
      → HasParts (statement (If e first second)) (at step.Test (expression e) ∷ at step.FirstList (list first) ∷ at step.SecondList (list second) ∷ [])
  of_abort : (code : ℕ) → HasParts (statement (Abort code)) []
  of_reply : (e : Expr) → HasParts (statement (Reply e)) (at step.Value (expression e) ∷ [])
  of_repeat : (n : ℕ) (sts : List Stmt) → HasParts (statement (Repeat n sts)) (at step.List (list sts) ∷ [])
  of_number : (n : ℕ) → HasParts (expression (Num n)) []
  of_argument : (i : ℕ) → HasParts (expression (Arg i)) []
  of_key_read : (i : ℕ) → HasParts (expression (Key i)) []
  of_local : (i : ℕ) → HasParts (expression (Local i)) []
  of_not : (e : Expr) → HasParts (expression (Not e)) (at step.Operand (expression e) ∷ [])
  of_operation : (e a b : Expr) → IsOperation e a b → HasParts (expression e) (at step.LeftOperand (expression a) ∷ at step.RightOperand (expression b) ∷ [])

-- whether a part passes a test of the procedure
abbrev pub part_passes : Piecewise → Before → Part → Bool
part_passes t before (whole p) = args_pass t.fault p && (keys_pass t.fault t.records p && list_passes t.fault p before p.body)
part_passes t before args = args_pass t.fault t.procedure
part_passes t before (keys ks) = keys_pass t.fault t.records t.procedure
part_passes t before (key i k) = key_passes t.fault t.records t.procedure before i k
part_passes t before (list sts) = list_passes t.fault t.procedure before sts
part_passes t before (statement st) = statement_passes t.fault t.procedure before st
part_passes t before (expression e) = expression_passes t.fault t.procedure before e

-- what came before the next part, once a part has come
abbrev pub after_part : Before → Part → Before
after_part before (key i k) = after_key before k
after_part before (statement st) = after_statement before st
after_part before _ = before

-- the first of some parts that does not pass a test, and what came before it
abbrev pub first_part : Piecewise → Before → List Placed → Option (Before × Placed)
first_part t before [] = None
first_part t before (p ∷ ps) = if part_passes t before p.part then first_part t (after_part before p.part) ps else Some (before, p)

-- a way leads from a part into the first part in it that does not pass, and on, until each part in the last one passes
abbrev pub LeadsIn : Piecewise → Before → Part → List Step → Type 0
LeadsIn t before part [] = (ps : List Placed) × HasParts part ps × (first_part t before ps ≡ None)
LeadsIn t before part (s ∷ rest) = (ps : List Placed) × HasParts part ps × ((found : Before × Placed) × (first_part t before ps ≡ Some found) × (found.1.step ≡ s) × LeadsIn t found.0 found.1.part rest)
