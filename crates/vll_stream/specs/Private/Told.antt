-- What a service has done by the end of its lines, rounds and epochs.
use Rattle.std.specs.Prelude.{◌≡◌, ℕ, Bool, true, false, List, [], ◌++◌, length}
use Rattle.vll_proc.specs.Headline.Serial.{Made, end}
use Rattle.vll_proc.specs.Serial.{replies}
use Rattle.vll_core.specs.declared.config.TheConstants.{MOST_CALLS}
use Rattle.vll_queue.specs.Closed.{GoesOn}
use Rattle.vll_queue.specs.Headline.Found.{AreFoundThere}
use Rattle.vll_core.specs.declared.config.Config.{Config}
use Rattle.vll_queue.specs.Shown.{Named, OpeningShown, library_of, name_of, no_table}
use Rattle.vll_scenario.specs.Headline.Setup.{Setup}
use Rattle.vll_sca.specs.Placing.{placing}
use Rattle.vll_sca.specs.declared.place.Placing.{Placing}
use Rattle.vll_lines.specs.Answers.{answers}
use Rattle.vll_lines.specs.Calls.{counts_asked}
use Rattle.vll_lines.specs.Counts.{all_counted}
use Rattle.vll_lines.specs.declared.counts.Counts.{Counts}
use Rattle.vll_lines.specs.declared.counts.Rounds.{Rounds}
use Rattle.vll_lines.specs.declared.request.Request.{Request}
use Rattle.vll_stream.specs.Served.{AreOrdered, base_of}
use Rattle.vll_stream.specs.declared.epoch.Then.{Then}
use Rattle.vll_stream.specs.declared.epoch.Then.TheVariants as then
use Rattle.vll_stream.specs.Private.Callers.{IsSnapshot}
use Rattle.vll_stream.specs.Private.Parts.{IsPart, Place}

-- lines are answered after calls of an engine: more calls were made for them, which are counted from `from` on to `next`, and
-- these are the calls now
pub record AnswersLines (e : Named) (calls now : List Made) (requests : List Request) (from : Counts) (text : List ℕ) (next : Counts) : Type 0 where
  pub more : List Made
  pub made : now ≡ calls ++ more
  pub ordered : AreOrdered requests more
  pub rounds : List Rounds
  pub told : length rounds ≡ counts_asked requests
  pub answered : text ≡ answers e.base.procs requests from (end e.base.procs calls e.base.records) more rounds
  pub counts : next ≡ all_counted from (replies e.base.procs more (end e.base.procs calls e.base.records))

-- a round follows calls of an engine: it has made more of them, and these are the calls now
pub record IsRoundAfter (e : Named) (calls now : List Made) (is_last : Bool) (old new : Place) : Type 0 where
  pub more : List Made
  pub made : now ≡ calls ++ more
  pub part : IsPart (library_of e) e.clients (end e.base.procs calls e.base.records) more is_last old new

-- what follows an epoch of these calls: the next engine goes on after them, with a snapshot of its records, or these
-- records are left by them
abbrev pub Follows : Named → List Made → Then → Type 0
Follows e calls (then.On next snapshot) = GoesOn placing e calls next × IsSnapshot (name_of placing next) [] snapshot
Follows e calls (then.Over records) = records.items ≡ end e.base.procs calls e.base.records

-- whether the input has ended
abbrev pub is_over : Then → Bool
is_over (then.On next snapshot) = false
is_over (then.Over records) = true

-- an epoch of an engine: a part that its calls answer, each with a value that was there, and what follows
pub record IsEpoch (e : Named) (old new : Place) (next : Then) : Type 0 where
  pub calls : List Made
  pub part : IsPart (library_of e) e.clients e.base.records calls (is_over next) old new
  pub found : AreFoundThere e.base calls
  pub follows : Follows e calls next

-- the configuration of a service's engines: the scenario's, and room for as many calls as an engine can take
abbrev pub config_for : Setup → Config
config_for s = record s.config { limit = MOST_CALLS }

-- a service's first engine, but for its words
abbrev pub first_engine : Setup → Named
first_engine s = record { table = no_table; base = base_of s; config = config_for s; places = placing s.placing; clients = length s.scripts }

-- the epochs so far, from that of this engine on: one part that all their calls answer, each with a value that was there,
-- and the next engine goes on after them
pub record IsSoFar (e : Named) (old new : Place) (next : OpeningShown Placing) : Type 0 where
  pub calls : List Made
  pub part : IsPart (library_of e) e.clients e.base.records calls false old new
  pub found : AreFoundThere e.base calls
  pub on : GoesOn placing e calls next

-- all epochs, from that of this engine on, and the records that are left
pub record AreAll (e : Named) (old new : Place) (left : List ℕ) : Type 0 where
  pub calls : List Made
  pub part : IsPart (library_of e) e.clients e.base.records calls true old new
  pub found : AreFoundThere e.base calls
  pub records : left ≡ end e.base.procs calls e.base.records
