-- What an engine is opened with.
use Rattle.std.specs.Prelude.{ℕ, List, length}
use Rattle.vll_proc.specs.declared.syntax.Proc.{Proc}
use Rattle.vll_check.specs.Headline.Catalog.{Catalog}

-- the procedures, and the records as they were at the opening
pub record Base : Type 0 where
  pub procs : List Proc
  pub records : List ℕ

-- the catalog of the library: the procedures, checked for this number of records
abbrev pub catalog_of : Base → Catalog
catalog_of base = record { records = length base.records; procs = base.procs }
