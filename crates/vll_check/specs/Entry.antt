-- A checked procedure, and what a library keeps with it.
use Rattle.std.specs.Prelude.{ℕ}
use Rattle.vll_proc.specs.declared.syntax.Proc.{Proc}

-- what contracts see of a `Checked`: the procedure, the number of records for which it passed, and a number and a place by which its library finds it again
pub record Entry : Type 0 where
  pub procedure : Proc
  pub records : ℕ
  pub number : ℕ
  pub place : ℕ

-- the procedure of an entry
abbrev pub procedure_of : Entry → Proc
procedure_of e = e.procedure
