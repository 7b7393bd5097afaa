-- What is left of an engine in which no call runs or waits.
use Rattle.std.specs.Prelude.{◌≡◌, ℕ, ◌+◌, ◌*◌, ◌<◌, ◌≤◌, [], length, map, vec_capacity}
use Rattle.vll_proc.specs.Headline.Serial.{end}
use Rattle.vll_core.specs.Queue.{config_of, lines}
use Rattle.vll_counters.specs.Headline.Views.{calls_in}
use Rattle.vll_queue.specs.Closed.{AreSerial}
use Rattle.vll_queue.specs.Shown.{Named, library_of}
use Rattle.vll_queue.specs.declared.ended.Ended.{Ended}

-- the queue's calls are serial, the records and the pairs are what they leave, the rest is what the engine was opened
-- with, and there is room for the next opening
pub record IsEnded {H : Type 0} (place : H → ℕ → ℕ) (e : Named) (x : Ended H) : Type 0 where
  pub library : x.library ≡ library_of e
  pub config : config_of x.queue ≡ e.config
  pub places : place x.queue.hash ≡ e.places
  pub serial : AreSerial e (lines x.queue)
  pub records : x.records.items ≡ end e.base.procs (calls_in (lines x.queue)) e.base.records
  pub pairs : x.pairs.items ≡ map (λ (r : ℕ). 0) e.base.records
  pub few : e.clients < 4294967296
  pub none : x.sessions.items ≡ []
  pub room : x.clients ≤ vec_capacity x.sessions
  pub room_for_words : 1 + 2 * length e.base.records ≤ vec_capacity x.words
  pub room_for_records : length e.base.records ≤ vec_capacity x.records
  pub room_for_pairs : length e.base.records ≤ vec_capacity x.pairs
