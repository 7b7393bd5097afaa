-- The meaning of the actions of the command line.
use Rattle.std.specs.Prelude.{◌≡◌, ℕ, List, [], Option, None, Some, Result, Ok, Err, String}
use Rattle.std.specs.Global.{Global}
use Rattle.vll_draw.specs.OneByOne.{with_schedule}
use Rattle.vll_draw.specs.Page.{Draws, Lists}
use Rattle.vll_explain.specs.Explained.{Explains, ReadsOrExplains}
use Rattle.vll_explain.specs.declared.explaining.Parsed.{Parsed}
use Rattle.vll_scenario.specs.Headline.Setup.{Setup}
use Rattle.vll_scenario.specs.Options.{with_options}
use Rattle.vll_scenario.specs.declared.fault.ScenarioFault.{ScenarioFault}
use Rattle.vll_scenario.specs.Reading.{IsRead}
use Rattle.vll_replay.specs.Replay.{Replays, text_of_setup}
use Rattle.vll_server.specs.Headline.Serve.{Serves}
use Rattle.vll_replay.specs.Headline.Text.{Text}
use Rattle.vll_command.specs.declared.action.Action.{Action}
use Rattle.vll_command.specs.declared.action.Input.{Input}
use Rattle.vll_command.specs.declared.action.RunOptions.{RunOptions}
use Rattle.vll_command.specs.declared.fault.CommandFault.{CommandFault}
use Rattle.vll_stream.specs.Served.{EndsEarly, ServesLines}
use Rattle.vll_trace.specs.Traced.{Traces}
use Rattle.vll_stream.specs.declared.fault.StreamFault.{StreamFault}
use Rattle.vll_command.specs.declared.action.Action.TheVariants as action
use Rattle.vll_command.specs.declared.action.Input.TheVariants as input
use Rattle.vll.specs.declared.fault.Fault.{Fault}
use Rattle.vll.specs.declared.fault.NoScenario.{NoScenario}
use Rattle.vll.specs.declared.fault.Fault.TheVariants as fault

-- a scenario was read, and this holds of the text of serving it with these options
abbrev pub Runs : RunOptions → Option (List ℕ) → Option (List ℕ) → (Text → Type 0) → Type 0
Runs options old new Holds = (setup : Setup) × IsRead old new (Ok setup) × Serves (with_options options.engine setup) Holds

-- the calls that were asked for were served over some scenario, and this holds of the text
abbrev pub ServesFile : Option (List ℕ) → Option (List ℕ) → (Text → Type 0) → Type 0
ServesFile old new Holds = (setup : Setup) × ServesLines setup old new Holds

-- such a service has ended early, for this reason
abbrev pub StopsFile : StreamFault → Option (List ℕ) → Option (List ℕ) → Option (List ℕ) → Option (List ℕ) → Type 0
StopsFile why old new from to = (setup : Setup) × EndsEarly setup why old new from to

-- the page of a scenario's replay lists its lines, and this holds of the page
abbrev pub DrawsSetup : Setup → (Text → Type 0) → Type 0
DrawsSetup setup Holds = (page : Text) × Lists page (text_of_setup (with_schedule setup)) × Holds page

-- a scenario was read, or a fault, with a text that explains it
abbrev pub ReadsOrNot : Option (List ℕ) → Option (List ℕ) → Result Setup NoScenario → Type 0
ReadsOrNot old new (Ok setup) = IsRead old new (Ok setup)
ReadsOrNot old new (Err none) = ReadsOrExplains old new (Err none.refusal)

-- the same, with the tree that describes the scenario
abbrev pub ParsesOrNot : Option (List ℕ) → Option (List ℕ) → Result Parsed NoScenario → Type 0
ParsesOrNot old new (Ok parsed) = ReadsOrExplains old new (Ok parsed)
ParsesOrNot old new (Err none) = ReadsOrExplains old new (Err none.refusal)

-- a scenario was read, and run with these options, and this holds of the text that traces the run
abbrev pub TracesRun : RunOptions → Option (List ℕ) → Option (List ℕ) → (Text → Type 0) → Type 0
TracesRun options old new Holds = (setup : Setup) × IsRead old new (Ok setup) × Traces (with_options options.engine setup) Holds

-- this was done with what standard input had and has; or, if a file is given, standard input was not used, and this was done
-- with some bytes of a file
abbrev pub ReadsFrom : Input → Type 0 → Option (List ℕ) → Option (List ℕ) → (Option (List ℕ) → Option (List ℕ) → Type 0) → Type 0
ReadsFrom input.Standard Unused old new Done = Done old new
ReadsFrom (input.File path) Unused old new Done = Unused × (from : Option (List ℕ)) × (to : Option (List ℕ)) × Done from to

-- a run serves what was read, a service answers it line by line, a replay replays it, an explanation reports what it has, a drawing lists its replay, a
-- trace has the steps of its run, and this holds of the text. `Tell` uses no reader and writes nothing here
abbrev pub Does : Action → Type 0 → Option (List ℕ) → Option (List ℕ) → (Text → Type 0) → Type 0
Does (action.Run from options) Unused old new Holds = ReadsFrom from Unused old new (λ a b. Runs options a b Holds)
Does (action.Serve options) Unused old new Holds = ServesFile old new Holds
Does (action.Replay from) Unused old new Holds = ReadsFrom from Unused old new (λ a b. Replays a b Holds)
Does (action.Explain from) Unused old new Holds = ReadsFrom from Unused old new (λ a b. Explains a b None Holds)
Does (action.Draw from window) Unused old new Holds = ReadsFrom from Unused old new (λ a b. Draws a b Holds)
Does (action.Trace from options) Unused old new Holds = ReadsFrom from Unused old new (λ a b. TracesRun options a b Holds)
Does (action.Tell text) Unused old new Holds = Unused × Holds []

-- the action that was asked for was performed, and this holds of the text
abbrev pub Performs : Result Action CommandFault → Type 0 → Option (List ℕ) → Option (List ℕ) → (Text → Type 0) → Type 0
Performs asked Unused old new Holds = (action : Action) × (asked ≡ Ok action) × Does action Unused old new Holds

-- what was read has a fault, and this holds of a text that explains it
abbrev pub HasFault : Option (List ℕ) → Option (List ℕ) → (Text → Type 0) → Type 0
HasFault old new Holds = (why : ScenarioFault) × Explains old new (Some why) Holds

-- the scenario of an action has a fault, and this holds of a text that explains it. Nothing is explained here for the other
-- actions
abbrev pub Refuses : Action → Type 0 → Option (List ℕ) → Option (List ℕ) → (Text → Type 0) → Type 0
Refuses (action.Run from options) Unused old new Holds = ReadsFrom from Unused old new (λ a b. HasFault a b Holds)
Refuses (action.Serve options) Unused old new Holds = ReadsFrom (input.File options.file) Unused old new (λ a b. HasFault a b Holds)
Refuses (action.Replay from) Unused old new Holds = ReadsFrom from Unused old new (λ a b. HasFault a b Holds)
Refuses (action.Explain from) Unused old new Holds = ⊥
Refuses (action.Draw from window) Unused old new Holds = ReadsFrom from Unused old new (λ a b. HasFault a b Holds)
Refuses (action.Trace from options) Unused old new Holds = ReadsFrom from Unused old new (λ a b. HasFault a b Holds)
Refuses (action.Tell text) Unused old new Holds = ⊥

-- the action that was asked for has a scenario with a fault, and this holds of a text that explains it
abbrev pub RefusesAsked : Result Action CommandFault → Type 0 → Option (List ℕ) → Option (List ℕ) → (Text → Type 0) → Type 0
RefusesAsked asked Unused old new Holds = (action : Action) × (asked ≡ Ok action) × Refuses action Unused old new Holds

-- the text that explains a fault of a scenario, if there is one
abbrev pub explanation_of : Fault → Option (String Global)
explanation_of (fault.Scenario none) = none.refusal.text
explanation_of (fault.File none) = none.refusal.text
explanation_of why = None

abbrev pub explanation_in : Result Unit Fault → Option (String Global)
explanation_in (Ok unit) = None
explanation_in (Err why) = explanation_of why
