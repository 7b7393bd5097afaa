-- The result of serving a scenario: the scripts' calls in the order in which they entered, and the text that they give.
use Rattle.std.specs.Prelude.{◌≡◌, ℕ, Some, map, slice_get}
use Rattle.vll_proc.specs.Headline.Serial.{answer, end}
use Rattle.vll_core.specs.declared.line.Line.{Line}
use Rattle.vll_core.specs.Headline.State.{Base}
use Rattle.vll_counters.specs.Headline.Views.{calls_in}
use Rattle.vll_queue.specs.declared.closed.Closed.{Closed}
use Rattle.vll_queue.specs.Headline.Found.{AreFoundThere}
use Rattle.vll_workers.specs.Headline.Merge.{IsMerge}
use Rattle.vll_scenario.specs.Headline.Setup.{Setup, catalog_of}
use Rattle.vll_replay.specs.Headline.Text.{Text}
use Rattle.vll_server.specs.Headline.Text.{closed_text}

-- the procedures and the records of a scenario
abbrev pub base_of : Setup → Base
base_of s = record { procs = s.procs; records = s.records }

-- what a run of a scenario leaves: the journal merges the scripts, each of its lines has the reply and the records have
-- the values that its calls give, run one at a time in this order, every pair word is 0, and each value found was in
-- its source
pub record IsServed (s : Setup) (c : Closed) : Type 0 where
  pub merge : IsMerge (catalog_of s) (calls_in c.journal.items) s.scripts
  pub answered : (t : ℕ) (l : Line) → slice_get c.journal.items t ≡ Some l → l.reply ≡ answer s.procs (calls_in c.journal.items) s.records t
  pub at_end : c.records.items ≡ end s.procs (calls_in c.journal.items) s.records
  pub none_open : c.pairs.items ≡ map (λ (r : ℕ). 0) s.records
  pub found : AreFoundThere (base_of s) (calls_in c.journal.items)

-- a run of the scenario has left something, and this holds of its text
abbrev pub Serves : Setup → (Text → Type 0) → Type 0
Serves s Holds = (closed : Closed) × IsServed s closed × Holds (closed_text closed)
