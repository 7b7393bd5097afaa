-- The invariant of the locked value's type.
use Rattle.std.specs.Prelude.{◌≡◌, ℕ, ◌<◌, List, All, None}
use Rattle.vll_check.specs.Calls.{IsReady}
use Rattle.vll_core.specs.declared.line.Line.{Line}
use Rattle.vll_core.specs.Queue.{Queued, lines, statuses}
use Rattle.vll_counters.specs.Shown.{QueueShown}
use Rattle.vll_counters.specs.Headline.Views.{calls_in}
use Rattle.vll_queue.specs.Headline.Found.{AreFoundThere}
use Rattle.vll_queue.specs.Shown.{Named, library_of}

-- each call is one that may enter, of a client of the engine, and has found what was there
pub record AreOwn (e : Named) (ls : List Line) : Type 0 where
  pub ready : All (λ (l : Line). IsReady (library_of e) l.call) ls
  pub clients : All (λ (l : Line). l.client < e.clients) ls
  pub found : AreFoundThere e.base (calls_in ls)

-- the queue agrees with the queue's seat of the engine's words, which has no open turn and no session at it, and was
-- opened with what the name states
pub record IsKept {H : Type 0} (e : Named) (place : H → ℕ → ℕ) (seat : QueueShown) (q : Queued H) : Type 0 where
  pub same : seat.table ≡ e.table
  pub closed : seat.turn ≡ None
  pub alone : seat.session ≡ None
  pub count : seat.clients ≡ e.clients
  pub lines_are : seat.lines ≡ lines q
  pub statuses_are : seat.statuses ≡ statuses q
  pub cap : q.cap ≡ e.config.cap
  pub limit : q.limit ≡ e.config.limit
  pub bits : q.bits ≡ e.config.bits
  pub places : place q.hash ≡ e.places
  pub own : AreOwn e (lines q)
