-- What a library holds: its procedures, and the number of records for which they were checked.
use Rattle.std.specs.Prelude.{ℕ, List}
use Rattle.vll_proc.specs.declared.syntax.Proc.{Proc}

-- what contracts see of a `Library`: its procedures, in the order in which they were given to it,
-- and the number of records for which each of them passed
pub record Catalog : Type 0 where
  pub records : ℕ
  pub procs : List Proc
