-- The invariant of a library.
use Rattle.std.specs.Prelude.{◌≡◌, ◌<◌, ◌^◌, false, length, None, All}
use Rattle.vll_proc.specs.declared.syntax.Proc.{Proc}
use Rattle.vll_check.specs.Faults.{check_fault}
use Rattle.vll_check.specs.Names.{has_name_twice}
use Rattle.vll_check.specs.Headline.Catalog.{Catalog}

-- there are fewer than 2^32 procedures, each passes the tests, and no two have the same name
pub record IsCatalog (c : Catalog) : Type 0 where
  pub few : length c.procs < 2 ^ 32
  pub range : c.records < 2 ^ 32
  pub passed : All (λ (p : Proc). check_fault c.records p ≡ None) c.procs
  pub once : has_name_twice c.procs ≡ false
