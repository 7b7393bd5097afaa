-- The rule at a known view of the queue's seat, and how words stay as they were.
use Rattle.std.proofs.Common.{◌≡◌, ℕ, ◌<◌, List, length, sym, ◌∙◌, subst, slice_index, slice_set}
use Rattle.vll_counters.proofs.Common.{set-get_or, Base, State, AreWords, PassView, SessionView, QueueView, View, Queue, Pass, Session, calls_in, Shows, IsHosted, ArePasses, AreSessions, AreNews, pass_of, Rule}
use mathlib.Core.Option.{some, some-injective}
use lib.ListN.{get_elem?}
use Rattle.atomic_table.specs.Table as table

-- what the rule says where the queue's seat has this view
pub record Holds (base : Base) (q : QueueView) (ws : List ℕ) (views : List View) : Type 0 where
  pub state : State
  pub pass_seat : ℕ → ℕ
  pub session_seat : ℕ → ℕ
  pub shows : Shows base q state
  pub words : AreWords base state ws
  pub hosted : IsHosted q.turn q.session
  pub passes : ArePasses (pass_of base state) pass_seat views
  pub sessions : AreSessions (calls_in q.lines) q.statuses q.clients session_seat views
  pub news : AreNews (calls_in q.lines) views

pub same_queue : (p q : QueueView) → some (Queue p) ≡ some (Queue q) → p ≡ q
same_queue p q e = let h : Queue p ≡ Queue q = some-injective _ _ e in cc h

pub not_pass : {P : Type 0} (q : QueueView) (p : PassView) → some (Queue q) ≡ some (Pass p) → P
not_pass q p e = let h : Queue q ≡ Pass p = some-injective _ _ e in absurd (cc h)

pub not_session : {P : Type 0} (q : QueueView) (g : SessionView) → some (Queue q) ≡ some (Session g) → P
not_session q g e = let h : Queue q ≡ Session g = some-injective _ _ e in absurd (cc h)

module _ {S : Type 0} where
  pub held : (base : Base) (t : table.State S View) (q : QueueView) → Rule base t → get_elem? t.views 0 ≡ some (Queue q) → Holds base q t.words t.views
  held base t q k at = subst (λ (x : QueueView). Holds base x t.words t.views) (same_queue k.queue q (sym k.at_queue ∙ at))
      (record { state = k.state; pass_seat = k.pass_seat; session_seat = k.session_seat; shows = k.shows; words = k.words; hosted = k.hosted; passes = k.passes; sessions = k.sessions; news = k.news })

  pub kept : (base : Base) (t : table.State S View) (q : QueueView) → Holds base q t.words t.views → get_elem? t.views 0 ≡ some (Queue q) → Rule base t
  kept base t q h at = record {
    state = h.state;
    queue = q;
    pass_seat = h.pass_seat;
    session_seat = h.session_seat;
    at_queue = at;
    shows = h.shows;
    words = h.words;
    hosted = h.hosted;
    passes = h.passes;
    sessions = h.sessions;
    news = h.news;
  }

-- a step that is allowed, as the kit says, and that also tells its caller of the words at its very moment
abbrev pub AllowsOfWords : {S V : Type 0} → (table.State S V → Type 0) → ℕ → ℕ → table.Me S V → ℕ → (ℕ → ℕ) → (List ℕ → ℕ → table.Me S V → Type 0) → Type 0
AllowsOfWords {S} {V} holds slots id me i f then = (s : table.State S V) → holds s → length s.homes ≡ slots → get_elem? s.views id ≡ some me.0 → slice_index s.words i < 18446744073709551616
    → (w : V) × (a : table.Act S) × table.Valid s.homes me.1 a × holds (table.stepped s i (f (slice_index s.words i)) id me.1 w a) × then s.words (slice_index s.words i) (w, table.carried_after me.1 a)

-- a word that is written back
pub same_words : (words : List ℕ) (i : ℕ) → slice_set words i (slice_index words i) ≡ words
same_words words i = set-get_or words i 0
