-- The model of a checked procedure, and its invariant.
use Rattle.std.specs.Prelude.{◌≡◌, None}
use Rattle.vll_proc.specs.Headline.Meaning.{source_of}
use Rattle.vll_check.specs.declared.checked.Checked.TheInside.{Inside}
use Rattle.vll_check.specs.Entry.{Entry}
use Rattle.vll_check.specs.Faults.{check_fault}

-- what contracts see of it
abbrev pub entry_of : Inside → Entry
entry_of c = record { procedure = c.procedure; records = c.records; number = c.number; place = c.place }

-- it passed the tests for its number of records, and its source is that of its key positions
pub record HasPassed (c : Inside) : Type 0 where
  pub passed : check_fault c.records c.procedure ≡ None
  pub source : c.source ≡ source_of c.procedure.keys
