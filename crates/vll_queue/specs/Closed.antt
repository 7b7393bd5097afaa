-- What an engine leaves when it is closed.
use Rattle.std.specs.Prelude.{◌≡◌, ℕ, ◌<◌, List, map, All, Some, slice_get}
use Rattle.vll_proc.specs.Headline.Serial.{Made, end, answer}
use Rattle.vll_check.specs.Calls.{IsReady}
use Rattle.vll_core.specs.declared.line.Line.{Line}
use Rattle.vll_counters.specs.Headline.Views.{calls_in}
use Rattle.vll_queue.specs.Headline.Found.{AreFoundThere}
use Rattle.vll_queue.specs.Shown.{Named, OpeningShown, library_of}
use Rattle.vll_queue.specs.declared.closed.Closed.{Closed}

-- each line has the reply of its call, if the calls run one at a time in this order from the opening records
abbrev pub AreAnswered : Named → List Line → Type 0
AreAnswered e lines = (t : ℕ) (l : Line) → slice_get lines t ≡ Some l → l.reply ≡ answer e.base.procs (calls_in lines) e.base.records t

-- the lines are those of calls that run one at a time in this order from the opening records: each line has its reply,
-- and each call is one that may enter, of a client of the engine, and has found what was there
pub record AreSerial (e : Named) (lines : List Line) : Type 0 where
  pub answered : AreAnswered e lines
  pub ready : All (λ (l : Line). IsReady (library_of e) l.call) lines
  pub found : AreFoundThere e.base (calls_in lines)
  pub clients : All (λ (l : Line). l.client < e.clients) lines

-- an opening continues where these calls of an engine ended: it has the records that they leave, run one at a time from
-- the engine's opening records, and all else is as the engine was opened
pub record GoesOn {H : Type 0} (place : H → ℕ → ℕ) (e : Named) (calls : List Made) (o : OpeningShown H) : Type 0 where
  pub records : o.records ≡ end e.base.procs calls e.base.records
  pub library : o.library ≡ library_of e
  pub config : o.config ≡ e.config
  pub places : place o.hash ≡ e.places
  pub clients : o.clients ≡ e.clients

-- what is left is what the journal's calls leave, run one at a time in this order from the opening records; no claim is
-- open, and each call is one that may enter, of a client of the engine, and has found what was there
pub record IsSerial (e : Named) (c : Closed) : Type 0 where
  pub answered : AreAnswered e c.journal.items
  pub at_end : c.records.items ≡ end e.base.procs (calls_in c.journal.items) e.base.records
  pub none_open : c.pairs.items ≡ map (λ (r : ℕ). 0) e.base.records
  pub ready : All (λ (l : Line). IsReady (library_of e) l.call) c.journal.items
  pub found : AreFoundThere e.base (calls_in c.journal.items)
  pub clients : All (λ (l : Line). l.client < e.clients) c.journal.items
