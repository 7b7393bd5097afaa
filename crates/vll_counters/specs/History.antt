-- The history of the words: one list of all writes so far, and the past that each seat knows of it.
use Rattle.std.specs.Prelude.{◌≡◌, ℕ, ◌+◌, ◌-◌, List, [], map}
use mathlib.Core.Option as opt
use lib.ListN.{get_elem?}
use Rattle.atomic_table.specs.Table as table
use Rattle.atomic_table.specs.Table.{Me, Step}
use Rattle.vll_record.specs.declared.claim.Claim.{Claim}
use Rattle.vll_record.specs.Counter.{delta_of}
use Rattle.vll_record.specs.Headline.Word.{pair_word_of_record}
use Rattle.vll_record.specs.Word.{value_word_of}
use Rattle.vll_core.specs.Headline.State.{Base}
use Rattle.vll_counters.specs.declared.views.SeatView.{SeatView}
use Rattle.vll_counters.specs.declared.views.View.{View}
use Rattle.vll_counters.specs.Laid.{laid_words}
use Rattle.vll_counters.specs.Rule.{Rule}
use Rattle.vll_counters.specs.Written.{Write, written, IsPastOf, longer, IsOfItsStep, IsOfItsLoad}
use Rattle.vll_counters.specs.Steps.{first_view, spent}
use Rattle.vll_counters.specs.Told.{RequestDoes, RequestTells, ReleaseDoes, ReleaseTells, FindDoes, FindTells}

-- what a seat knows, if this is its view and this its past
abbrev pub seat_view : View → List Write → SeatView
seat_view v past = record { view = v; past = past }

-- the same past with another view
abbrev pub with_view : (View → View) → SeatView → SeatView
with_view f k = seat_view (f k.view) k.past

-- a seat that another one has joined has the longer of their pasts
abbrev pub with_views : (View → View → View) → SeatView → SeatView → SeatView
with_views f k other = seat_view (f k.view other.view) (longer k.past other.past)

-- the queue's seat at the opening
abbrev pub first_seat : SeatView
first_seat = seat_view first_view []

-- a seat that has joined another one no longer knows anything
abbrev pub spent_seat : SeatView
spent_seat = seat_view spent []

module _ {S : Type 0} where
  -- a seat without its past
  abbrev pub plain : Me S SeatView → Me S View
  plain me = (me.0.view, me.1)

  -- a step tells this of the views, and the seat's past stays
  abbrev pub Stays : (Step S → Me S View → ℕ → Me S View → Type 0) → Step S → Me S SeatView → ℕ → Me S SeatView → Type 0
  Stays Tells st v n w = Tells st (plain v) n (plain w) × (w.0.past ≡ v.0.past)

  -- a step that changes a word does this to the views, and tells this of the words at its very moment
  abbrev pub Pinned : List ℕ → ℕ → (ℕ → ℕ) → (Step S → Me S View → ℕ → Me S View → Type 0) → (List ℕ → Me S View → ℕ → Me S View → Type 0) → Step S → Me S SeatView → ℕ → Me S SeatView → Type 0
  Pinned opening word change Does Tells st v n w = Does st (plain v) n (plain w) × IsOfItsStep opening (λ words. Tells words (plain v) n (plain w)) v.0.past w.0.past word n (change n)

  -- and so does a load
  abbrev pub PinnedLoad : List ℕ → ℕ → (Step S → Me S View → ℕ → Me S View → Type 0) → (List ℕ → Me S View → ℕ → Me S View → Type 0) → Step S → Me S SeatView → ℕ → Me S SeatView → Type 0
  PinnedLoad opening word Does Tells st v n w = Does st (plain v) n (plain w) × IsOfItsLoad opening (λ words. Tells words (plain v) n (plain w)) v.0.past w.0.past word n

  -- a request: what it does to the views, and the record's counter at its very moment
  abbrev pub Requested : Base → Claim → Step S → Me S SeatView → ℕ → Me S SeatView → Type 0
  Requested base c = Pinned (laid_words base.records) (pair_word_of_record c.id) (λ n. n + delta_of c.mode) (RequestDoes c) (RequestTells base c)

  -- a release, likewise
  abbrev pub Released : Base → Claim → Step S → Me S SeatView → ℕ → Me S SeatView → Type 0
  Released base c = Pinned (laid_words base.records) (pair_word_of_record c.id) (λ n. n - delta_of c.mode) ReleaseDoes (ReleaseTells base c.id)

  -- a find: what it does to the views, and the record's value at its very moment
  abbrev pub Found : Base → ℕ → Step S → Me S SeatView → ℕ → Me S SeatView → Type 0
  Found base r = PinnedLoad (laid_words base.records) (value_word_of r) FindDoes (FindTells base r)

  -- ---- the rule with the history

  -- the words and the views at a moment, without the pasts
  abbrev pub without_pasts : table.State S SeatView → table.State S View
  without_pasts t = record { words = t.words; homes = t.homes; views = map (λ (k : SeatView). k.view) t.views }

  -- one history: its writes lead from the opening words to the present ones, and each seat's past is a beginning of it
  pub record History (base : Base) (t : table.State S SeatView) : Type 0 where
    pub all : List Write
    pub words : t.words ≡ written (laid_words base.records) all
    pub pasts : (seat : ℕ) (k : SeatView) → get_elem? t.views seat ≡ opt.some k → IsPastOf k.past all

  -- the rule, and a history of the words
  pub record RuleWithHistory (base : Base) (t : table.State S SeatView) : Type 0 where
    pub rule : Rule base (without_pasts t)
    pub history : History base t

-- the words, the views and the pasts at some moment
abbrev pub MomentWithPasts : Type 0
MomentWithPasts = table.State (Unit {0}) SeatView
