-- The model of a library, and its invariant.
use Rattle.std.specs.List.Sorted.{IsStrictlySortedBy}
use Rattle.vll_check.specs.declared.library.Library.TheInside.{Inside}
use Rattle.vll_check.specs.Headline.Catalog.{Catalog}
use Rattle.vll_check.specs.Catalog.{IsCatalog}
use Rattle.vll_check.specs.Private.Order.{by_name, numbered, IsIndexed}

-- what contracts see of it: the procedures in the order of their numbers
abbrev pub catalog_of : Inside → Catalog
catalog_of l = record { records = l.records; procs = numbered l.procs.items }

-- the entries are strictly sorted by name, and the procedures are found by their numbers
pub record IsLibrary (l : Inside) : Type 0 where
  pub catalog : IsCatalog (catalog_of l)
  pub rising : IsStrictlySortedBy by_name l.procs.items
  pub indexed : IsIndexed l.procs.items
