-- The invariant of the type `Scenario`.
use Rattle.std.specs.Prelude.{◌≡◌, length}
use Rattle.vll_scenario.specs.declared.scenario.Scenario.TheInside.{Inside}
use Rattle.vll_scenario.specs.Headline.Setup.{Setup}
use Rattle.vll_scenario.specs.Setup.{IsSetup, setup_with}

-- the setup that a scenario represents
abbrev pub setup_in : Inside → Setup
setup_in s = setup_with s.parts

-- the library is for the scenario's number of records, and it makes each call
pub record IsScenario (s : Inside) : Type 0 where
  pub records : s.parts.library.records ≡ length s.parts.records.items
  pub setup : IsSetup (setup_in s)
