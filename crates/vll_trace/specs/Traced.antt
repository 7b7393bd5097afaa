-- What is written about a run: the scenario with the steps of the run as its schedule.
use Rattle.std.specs.Prelude.{◌≡◌, ◌≤◌, ◌∷◌, [], IsOk, List, Ok, Result, Some, length}
use Rattle.serde_json.specs.Data.{Data, depth}
use Rattle.serde_json.specs.Read.{max_depth}
use Rattle.serde_json.specs.View.{view}
use Rattle.serde_json.specs.declared.value.Value.{Value}
use Rattle.vll_core.specs.declared.refusal.Refusal.{Refusal}
use Rattle.vll_core.specs.declared.seen.Seen.{Seen}
use Rattle.vll_core.specs.State.{State}
use Rattle.vll_core.specs.Machine.{answers, opened, run}
use Rattle.vll_queue.specs.declared.closed.Closed.{Closed}
use Rattle.vll_replay.specs.Headline.Text.{Text}
use Rattle.vll_replay.specs.Replay.{opening_for}
use Rattle.vll_replay.specs.ReplayText.{state_text}
use Rattle.vll_scenario.specs.Headline.Setup.{Setup}
use Rattle.vll_scenario.specs.Scenario.{IsTree, scenario_at}
use Rattle.vll_scenario.specs.declared.limits.TheConstants.{MOST_BYTES}
use Rattle.vll_server.specs.Headline.Serve.{IsServed}
use Rattle.vll_server.specs.Headline.Text.{closed_text}

-- no event was refused
abbrev pub AreGranted : List (Result Seen Refusal) → Type 0
AreGranted [] = Unit {0}
AreGranted (told ∷ more) = IsOk told × AreGranted more

-- the machine of atomic steps at the end of the schedule
abbrev pub end_of : Setup → State
end_of s = run (opening_for s) (opened s.scripts) s.schedule

-- a tree that was read describes a scenario, but for the engine's settings
abbrev pub IsTreeOf : Value → Setup → Type 0
IsTreeOf tree s = (depth (view tree) ≤ max_depth) × (read : Setup) × (scenario_at (Some (view tree)) ≡ Ok read) × (s ≡ record read { config = s.config })

-- a scenario is another one, but for its limit and its schedule
pub record IsAgain (ran again : Setup) : Type 0 where
  pub records : again.records ≡ ran.records
  pub procs : again.procs ≡ ran.procs
  pub scripts : again.scripts ≡ ran.scripts
  pub placing : again.placing ≡ ran.placing
  pub cap : again.config.cap ≡ ran.config.cap
  pub bits : again.config.bits ≡ ran.config.bits

-- a text is the scenario of a run again, with a schedule; the machine refuses no event of it, and ends with the tickets,
-- replies and records that the run has left
pub record IsTrace (ran : Setup) (closed : Closed) (text : Text) : Type 0 where
  pub few : length text ≤ MOST_BYTES
  pub tree : Data
  pub is_tree : IsTree text (Some tree)
  pub setup : Setup
  pub is_setup : scenario_at (Some tree) ≡ Ok setup
  pub again : IsAgain ran setup
  pub granted : AreGranted (answers (opening_for setup) (opened setup.scripts) setup.schedule)
  pub ended : state_text (opening_for setup).base (end_of setup) ≡ closed_text closed

-- a run of the scenario has left something, and this holds of a text that traces the run
abbrev pub Traces : Setup → (Text → Type 0) → Type 0
Traces ran Holds = (closed : Closed) × IsServed ran closed × (text : Text) × IsTrace ran closed text × Holds text
