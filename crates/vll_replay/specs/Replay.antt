-- The result of a replay: the scenario that was read, and the text of its schedule.
use Rattle.std.specs.Prelude.{ℕ, List, Option, Ok}
use Rattle.vll_sca.specs.Placing.{placing}
use Rattle.vll_core.specs.State.{Opening}
use Rattle.vll_scenario.specs.Reading.{IsRead}
use Rattle.vll_replay.specs.ReplayText.{replay_text}
use Rattle.vll_scenario.specs.Headline.Setup.{Setup}
use Rattle.vll_replay.specs.Headline.Text.{Text}

-- how the plain machine is opened for a scenario
abbrev pub opening_for : Setup → Opening
opening_for s = record {
  base = record { procs = s.procs; records = s.records };
  cap = s.config.cap;
  limit = s.config.limit;
  bits = s.config.bits;
  place = placing s.placing;
}

-- the text of a scenario's replay
abbrev pub text_of_setup : Setup → Text
text_of_setup s = replay_text (opening_for s) s.scripts s.schedule

-- a scenario was read, and this holds of the text of its replay
abbrev pub Replays : Option (List ℕ) → Option (List ℕ) → (Text → Type 0) → Type 0
Replays old new Holds = (setup : Setup) × IsRead old new (Ok setup) × Holds (text_of_setup setup)
