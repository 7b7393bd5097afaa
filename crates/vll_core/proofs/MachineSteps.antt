-- What a machine owes for an event, from what the plain machine does with it.
use Rattle.std.proofs.Common.{◌≡◌, ℕ, Bool, false, refl, sym, ap, ◌∙◌, subst, Option, Some, None, is_some, Result, Ok, Err}
use Rattle.vll_core.proofs.Common.{Catalog, Event, Inside, OpenTurn, Refusal, Seen, Outcome, step, answer_of, IsReached, by_event, moved, requested_by, released_by, stored_by, Shown, AreWords, library_of, opening_of, after, turn_of, shown, IsMachine}
use Rattle.vll_core.proofs.WordsKept.{words_stay}

-- no turn is shown where none is kept
pub closed_turn : (x : Option OpenTurn) (b : Bool) → b ≡ is_some x → b ≡ false → is_some (turn_of x) ≡ false
closed_turn None b is closed = refl
closed_turn (Some t) b is closed = sym is ∙ closed

-- the library that a machine shows is that of its opening
pub library_shown : {H : Type 0} {places : H → ℕ → ℕ} (a : Inside H) → IsMachine places a → library_of (shown a) ≡ a.library.value
library_shown a core = ap (λ (n : ℕ). let l : Catalog = record { records = n; procs = a.library.value.procs } in l) (sym core.records)

-- if the library that is passed is the one that a machine shows, it is that of its opening
pub library_same : {H : Type 0} {places : H → ℕ → ℕ} (a : Inside H) (s : Shown H) (library : Catalog) → IsMachine places a → shown a ≡ s → library ≡ library_of s → library ≡ a.library.value
library_same {H} a s library core view same = same ∙ (ap (λ (x : Shown H). library_of x) (sym view) ∙ library_shown a core)

-- the machine refuses an event in the state that a machine's fields show
pub record Refuses {H : Type 0} (places : H → ℕ → ℕ) (a : Inside H) (event : Event) (why : Refusal) : Type 0 where
  pub is : step (opening_of places (shown a)) (shown a).state event ≡ Err why

-- the machine takes an event from the state that a machine's fields show to that which other fields show
pub record Takes {H : Type 0} (places : H → ℕ → ℕ) (a b : Inside H) (event : Event) (seen : Seen) : Type 0 where
  pub fixed : shown b ≡ record (shown a) { state = (shown b).state }
  pub is : step (opening_of places (shown a)) (shown a).state event ≡ Ok (seen, (shown b).state)

pub refused_told : {H : Type 0} {places : H → ℕ → ℕ} (a : Inside H) (s : Shown H) (event : Event) (why : Refusal) → shown a ≡ s → Refuses places a event why
    → ◌≡◌ {A = Result Seen Refusal} (Err why) (answer_of (step (opening_of places s) s.state event))
refused_told {H} {places} a s event why view refuses =
    ap (λ (out : Outcome). answer_of out) (sym refuses.is) ∙ ap (λ (x : Shown H). answer_of (step (opening_of places x) x.state event)) view

pub refused_stays : {H : Type 0} {places : H → ℕ → ℕ} (a : Inside H) (s : Shown H) (event : Event) (why : Refusal) → shown a ≡ s → Refuses places a event why
    → s ≡ after s (step (opening_of places s) s.state event)
refused_stays {H} {places} a s event why view refuses =
    ap (λ (out : Outcome). after s out) (sym refuses.is ∙ ap (λ (x : Shown H). step (opening_of places x) x.state event) view)

pub taken_told : {H : Type 0} {places : H → ℕ → ℕ} (a b : Inside H) (s : Shown H) (event : Event) (seen : Seen) → shown a ≡ s → Takes places a b event seen
    → ◌≡◌ {A = Result Seen Refusal} (Ok seen) (answer_of (step (opening_of places s) s.state event))
taken_told {H} {places} a b s event seen view takes =
    ap (λ (out : Outcome). answer_of out) (sym takes.is) ∙ ap (λ (x : Shown H). answer_of (step (opening_of places x) x.state event)) view

pub taken_shown : {H : Type 0} {places : H → ℕ → ℕ} (a b : Inside H) (s : Shown H) (event : Event) (seen : Seen) → shown a ≡ s → Takes places a b event seen
    → shown b ≡ after s (step (opening_of places s) s.state event)
taken_shown {H} {places} a b s event seen view takes =
    takes.fixed
    ∙ (ap (λ (out : Outcome). after (shown a) out) (sym takes.is) ∙ ap (λ (x : Shown H). after x (step (opening_of places x) x.state event)) view)

-- an event goes on from a reached state to a reached state
pub taken_reached : {H : Type 0} {places : H → ℕ → ℕ} (a b : Inside H) (event : Event) (seen : Seen) → Takes places a b event seen
    → IsReached (opening_of places (shown a)) (shown a).state → IsReached (opening_of places (shown b)) (shown b).state
taken_reached {H} {places} a b event seen takes reached =
    subst (λ (x : Shown H). IsReached (opening_of places x) (shown b).state) (sym takes.fixed) (moved (shown a).state (by_event event) seen (shown b).state reached tt takes.is)

-- an event that requests, releases and stores nothing leaves the words
pub taken_words : {H : Type 0} {places : H → ℕ → ℕ} (a b : Inside H) (event : Event) (seen : Seen) → Takes places a b event seen → IsReached (opening_of places (shown a)) (shown a).state
    → requested_by (shown a).state (by_event event) ≡ None → released_by (shown a).state (by_event event) ≡ None → stored_by (shown a).state (by_event event) ≡ None
    → AreWords (shown a).base (shown a).state a.words.items → AreWords (shown b).base (shown b).state a.words.items
taken_words {H} {places} a b event seen takes reached asks frees stores are =
    subst (λ (x : Shown H). AreWords x.base (shown b).state a.words.items) (sym takes.fixed)
    (words_stay (opening_of places (shown a)) (shown a).state (shown b).state (by_event event) seen a.words.items reached takes.is asks frees stores are)
