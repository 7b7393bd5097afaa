-- What contracts see of an opening, and its type's invariant.
use Rattle.std.specs.Prelude.{◌≡◌, ◌<◌, [], length}
use Rattle.vll_core.specs.Queue.{config_of, empty}
use Rattle.vll_counters.specs.Shown.{shown_queue, AreNewSessions}
use Rattle.vll_counters.specs.Steps.{first_queue}
use Rattle.vll_engine.specs.declared.opening.Opening.TheInside.{Inside}
use Rattle.vll_queue.specs.Shown.{OpeningShown}

-- what the words and the queue were opened with
abbrev pub shown : {H : Type 0} → Inside H → OpeningShown H
shown a = record {
  table = a.words.table;
  library = a.library;
  records = a.words.base.records;
  config = config_of a.queue;
  hash = a.queue.hash;
  clients = a.seat.clients;
}

-- the words, their queue's seat and the sessions are new, the number of clients fits in 32 bits, the library is that of
-- the words, and there is room for what closing leaves
pub record IsOpening {H : Type 0} (a : Inside H) : Type 0 where
  pub procs : a.library.procs ≡ a.words.base.procs
  pub records : a.library.records ≡ length a.words.base.records
  pub queue : a.queue ≡ empty (shown a).config a.queue.hash
  pub seat : a.seat ≡ shown_queue a.words.table [] (first_queue a.seat.clients)
  pub few : a.seat.clients < 4294967296
  pub sessions : AreNewSessions a.words.table a.seat.clients a.sessions.items
  pub memory : a.memory ≡ length a.words.base.records
