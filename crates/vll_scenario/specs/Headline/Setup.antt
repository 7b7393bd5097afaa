-- The contents of a scenario: its records, its procedures, each client's calls, the machine's settings, its schedule.
use Rattle.std.specs.Prelude.{ℕ, List, length}
use Rattle.vll_proc.specs.declared.call.Call.{Call}
use Rattle.vll_proc.specs.declared.syntax.Proc.{Proc}
use Rattle.vll_check.specs.Headline.Catalog.{Catalog}
use Rattle.vll_sca.specs.declared.place.Placing.{Placing}
use Rattle.vll_core.specs.declared.config.Config.{Config}
use Rattle.vll_core.specs.declared.event.Event.{Event}

-- a `Scenario` in contracts: records, procedures, calls, the machine's settings, the hash, and the schedule
pub record Setup : Type 0 where
  pub records : List ℕ
  pub procs : List Proc
  pub scripts : List (List Call)
  pub config : Config
  pub placing : Placing
  pub schedule : List Event

-- the library of a scenario: its procedures, checked for its number of records
abbrev pub catalog_of : Setup → Catalog
catalog_of s = record { records = length s.records; procs = s.procs }
