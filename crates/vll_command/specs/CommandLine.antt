-- The program's command line: its commands with their options, and which words ask for which action.
use Rattle.std.specs.Prelude.{◌≡◌, ◌⊎◌, ℕ, List, [], ◌∷◌, Some, true, false, codes, pos, string_bytes}
use Rattle.clap.specs.Kinds.{IsAmong}
use Rattle.clap.specs.Faults.{fault_of}
use Rattle.clap.specs.Words.{App, Row, Rule, Shape, Text, first_of, kind_of, new_rule, one_of, subcommand_of}
use Rattle.clap.specs.Simple.{new_shape}
use Rattle.clap.specs.declared.builder.value_parser.ValueParser.TheVariants as parser
use Rattle.clap.specs.declared.error.kind.ErrorKind.TheVariants as kind
use Rattle.vll_sca.specs.declared.bits.TheConstants.{MOST_BITS}
use Rattle.vll_core.specs.declared.config.TheConstants.{MOST_WAITING, MOST_WORKERS}
use Rattle.vll_scenario.specs.declared.limits.TheConstants.{MOST_EVENTS}
use Rattle.vll_scenario.specs.declared.event_range.TheConstants.{MOST_COLUMNS}
use Rattle.vll_scenario.specs.declared.engine_options.EngineOptions.{EngineOptions}
use Rattle.vll_command.specs.Options.{Gives, GivesInput}
use Rattle.vll_command.specs.declared.action.Action.{Action}
use Rattle.vll_command.specs.declared.action.Input.{Input}
use Rattle.vll_command.specs.declared.action.RunOptions.{RunOptions}
use Rattle.vll_command.specs.declared.action.Action.TheVariants as action

-- the option --NAME, a whole number from `least` to `most`, with the text of the one that it has if it is not given
abbrev pub option : Text → ℕ → ℕ → List Text → Rule
option name least most default = record (new_rule name) {
  long = Some name;
  value_names = 1;
  parser = Some (parser.Signed (pos least) (pos most));
  defaults = default;
}

-- the calls that may wait at a time
abbrev pub cap : Rule
cap = option (codes "cap") 1 MOST_WAITING []

-- the places of the contention analysis
abbrev pub bits : Rule
bits = option (codes "bits") 1 MOST_BITS []

-- the path of the scenario's file, which may be left out
abbrev pub file : Rule
file = new_rule (codes "FILE")

-- what a run is given: the file, the number of threads that make the calls, and the engine's options
abbrev pub run_rules : List Rule
run_rules = file ∷ option (codes "workers") 1 MOST_WORKERS (codes "4" ∷ []) ∷ cap ∷ bits ∷ []

-- `run`
abbrev pub run : Shape
run = record (new_shape (codes "run")) { rules = run_rules }

-- `trace`, with the options of a run
abbrev pub trace : Shape
trace = record (new_shape (codes "trace")) { rules = run_rules }

-- `serve`, which needs the file
abbrev pub serve : Shape
serve = record (new_shape (codes "serve")) { rules = record file { required = true } ∷ cap ∷ bits ∷ [] }

-- `replay`
abbrev pub replay : Shape
replay = record (new_shape (codes "replay")) { rules = file ∷ [] }

-- `explain`
abbrev pub explain : Shape
explain = record (new_shape (codes "explain")) { rules = file ∷ [] }

-- `draw`, with the number of the first event and how many are drawn at most
abbrev pub draw : Shape
draw = record (new_shape (codes "draw")) { rules = file ∷ option (codes "from") 0 MOST_EVENTS (codes "0" ∷ []) ∷ option (codes "count") 1 MOST_COLUMNS (codes "360" ∷ []) ∷ [] }

-- the program: one of its commands has to be named
abbrev pub vll : App
vll = record {
  top = record (new_shape (codes "vll")) { is_leaf = false; has_version = true; subcommand_required = true };
  subs = run ∷ serve ∷ replay ∷ explain ∷ draw ∷ trace ∷ [];
}

-- the words have no fault, name this command, and give its options these values
abbrev pub Names : List Text → Text → List Row → Type 0
Names words name rows = (fault_of vll words ≡ []) × (subcommand_of vll words ≡ Some (name, rows))

-- the values of an engine's options
pub record GivesEngine (rows : List Row) (o : EngineOptions) : Type 0 where
  pub cap : Gives (one_of (codes "cap") rows) o.cap
  pub bits : Gives (one_of (codes "bits") rows) o.bits

-- the words name this command, and give the file and the values of the options of a run
abbrev pub NamesRun : List Text → Text → Input → RunOptions → Type 0
NamesRun words name i o = (rows : List Row) × Names words name rows × GivesInput (first_of (codes "FILE") rows) i × Gives (one_of (codes "workers") rows) (Some o.workers) × GivesEngine rows o.engine

-- the words ask for this action: they name its command, and give its file and the values of its options, or they ask for a text
abbrev pub AsksFor : List Text → Action → Type 0
AsksFor words (action.Run i o) = NamesRun words (codes "run") i o
AsksFor words (action.Serve o) = (rows : List Row) × Names words (codes "serve") rows × (first_of (codes "FILE") rows ≡ Some (string_bytes o.file)) × GivesEngine rows o.engine
AsksFor words (action.Replay i) = (rows : List Row) × Names words (codes "replay") rows × GivesInput (first_of (codes "FILE") rows) i
AsksFor words (action.Explain i) = (rows : List Row) × Names words (codes "explain") rows × GivesInput (first_of (codes "FILE") rows) i
AsksFor words (action.Draw i w) = (rows : List Row) × Names words (codes "draw") rows × GivesInput (first_of (codes "FILE") rows) i × Gives (one_of (codes "from") rows) (Some w.from) × Gives (one_of (codes "count") rows) (Some w.count)
AsksFor words (action.Trace i o) = NamesRun words (codes "trace") i o
AsksFor words (action.Tell text) = IsAmong (kind_of text) (fault_of vll words) × ((kind_of text ≡ kind.DisplayHelp) ⊎ (kind_of text ≡ kind.DisplayVersion))
