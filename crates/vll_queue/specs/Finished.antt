-- Lines of finished calls, as an engine that goes on hands them out.
use Rattle.std.specs.List.{take_while}
use Rattle.std.specs.Prelude.{◌≡◌, ℕ, ◌+◌, ◌<◌, List, ◌++◌, drop, length, take, All, Some, slice_get}
use Rattle.vll_proc.specs.Headline.Serial.{Made, answer}
use Rattle.vll_check.specs.Calls.{IsReady}
use Rattle.vll_core.specs.declared.line.Line.{Line}
use Rattle.vll_core.specs.Queue.{Queued, has_reply, lines}
use Rattle.vll_counters.specs.Headline.Views.{calls_in}
use Rattle.vll_queue.specs.Headline.Found.{AreFoundThere}
use Rattle.vll_queue.specs.Shown.{Named, library_of}

-- these are the lines of the calls from a ticket on, among the calls that a session has seen: each has the reply of its
-- call, if the calls seen run one at a time in this order from the opening records; each call is one that may enter, of
-- a client of the engine; and each call seen has found what was there
pub record AreFinished (e : Named) (seen : List Made) (from : ℕ) (lines : List Line) : Type 0 where
  pub calls : calls_in lines ≡ take (length lines) (drop from seen)
  pub answered : (i : ℕ) (l : Line) → slice_get lines i ≡ Some l → l.reply ≡ answer e.base.procs seen e.base.records (from + i)
  pub ready : All (λ (l : Line). IsReady (library_of e) l.call) lines
  pub clients : All (λ (l : Line). l.client < e.clients) lines
  pub found : AreFoundThere e.base seen

-- such lines were put at the end of a list
pub record AppendsFinished (e : Named) (seen : List Made) (from : ℕ) (old new : List Line) : Type 0 where
  pub lines : List Line
  pub items : new ≡ old ++ lines
  pub finished : AreFinished e seen from lines

-- the lines at the front, as far as they have a reply and there is room for them
abbrev pub finished : ℕ → List Line → List Line
finished room ls = take_while has_reply (take room ls)

-- the queue's lines from a ticket on, as far as their calls are gone and there is room for them
abbrev pub finished_from : {H : Type 0} → Queued H → ℕ → ℕ → List Line
finished_from q from room = finished room (drop from (lines q))
