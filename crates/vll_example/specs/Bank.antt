-- The bank: its procedures, and what its accounts hold in total.
use Rattle.std.specs.Prelude.{◌≡◌, ℕ, List, [], ◌∷◌, length, sum, codes}
use Rattle.vll_record.specs.declared.claim.Mode.TheVariants.{Read, Write}
use Rattle.vll_proc.specs.declared.syntax.Edition.TheVariants.{Two}
use Rattle.vll_proc.specs.declared.syntax.Expr.{Arg, Key, Add, Sub, Less}
use Rattle.vll_proc.specs.declared.syntax.KeyAt.TheVariants as at
use Rattle.vll_proc.specs.declared.syntax.KeyDecl.{KeyDecl}
use Rattle.vll_proc.specs.declared.syntax.Proc.{Proc}
use Rattle.vll_proc.specs.declared.syntax.Stmt.{Stmt, Set, If, Abort, Reply}
use Rattle.vll_example.specs.declared.procedures.TheConstants.{TOO_LITTLE}

-- two keys of a transfer
abbrev pub transfer_keys : List KeyDecl
transfer_keys = record { mode = Write; at = at.Arg 0 } ∷ record { mode = Write; at = at.Arg 1 } ∷ []

-- the body of a transfer
abbrev pub transfer_body : List Stmt
transfer_body = If (Less (Key 0) (Arg 2)) (Abort TOO_LITTLE ∷ []) [] ∷ Set 0 (Sub (Key 0) (Arg 2)) ∷ Set 1 (Add (Key 1) (Arg 2)) ∷ Reply (Key 0) ∷ []

-- moves an amount from one account to another, and replies what is left in the first
abbrev pub transfer : Proc
transfer = record { edition = Two; name = codes "transfer"; args = 3; keys = transfer_keys; body = transfer_body }

-- the keys of a sum
abbrev pub sum_keys : List KeyDecl
sum_keys = record { mode = Read; at = at.Arg 0 } ∷ record { mode = Read; at = at.Arg 1 } ∷ []

-- the body of a sum
abbrev pub sum_body : List Stmt
sum_body = Reply (Add (Key 0) (Key 1)) ∷ []

-- replies the sum of two accounts
abbrev pub sum_of_two : Proc
sum_of_two = record { edition = Two; name = codes "sum"; args = 2; keys = sum_keys; body = sum_body }

-- the procedures of the bank
abbrev pub procedures : List Proc
procedures = transfer ∷ sum_of_two ∷ []

-- this many accounts hold this much in total
abbrev pub HoldInTotal : ℕ → ℕ → List ℕ → Type 0
HoldInTotal accounts total now = (length now ≡ accounts) × (sum now ≡ total)
