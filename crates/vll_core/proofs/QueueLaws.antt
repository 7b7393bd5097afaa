-- What the queue's changes leave of its lines and statuses, and that its front is the plain machine's.
use Rattle.std.proofs.Common.{◌≡◌, ℕ, zero, suc, ◌+◌, not, cond, nat_lt, List, [], ◌∷◌, ◌++◌, length, map, refl, sym, ap, ◌∙◌, slice_get, slice_set, Option, Some, None}
use Rattle.vll_core.proofs.Common.{position, position_or_len, option_map, map-append, length-map, slice_get-map, Reply, Status, Running, Gone, is_waiting, is_gone, Entered, State, front, QueueEntry, Queued, lines, statuses, is_left, waiting_ticket, changed_at, front_among, admitted, started, finished}
use Rattle.vll_core.proofs.Entries.{changed_later}

abbrev status_of : Entered → Status
status_of e = e.status

-- the first that is left stands at the same place among the statuses
first_map : (es : List Entered) → position_or_len is_left (map status_of es) ≡ position_or_len (λ (e : Entered). not (is_gone e.status)) es
first_map [] = refl
first_map (e ∷ es) = ap (λ (n : ℕ). cond (not (is_left e.status)) (1 + n) 0) (first_map es)

place_map : (es : List Entered) → position is_left (map status_of es) ≡ position (λ (e : Entered). not (is_gone e.status)) es
place_map es =
    ap (λ (n : ℕ). cond (nat_lt n (length (map status_of es))) (Some n) None) (first_map es)
    ∙ ap (λ (n : ℕ). cond (nat_lt (position_or_len (λ (e : Entered). not (is_gone e.status)) es) n) (Some (position_or_len (λ (e : Entered). not (is_gone e.status)) es)) None) (length-map es status_of)

-- the plain machine's front is the queue's, of the same statuses
pub machine_front : (s : State) → front s ≡ front_among (map (λ (e : Entered). e.status) s.entries)
machine_front s =
    by_place (position (λ (e : Entered). not (is_gone e.status)) s.entries)
    ∙ ap (λ (o : Option ℕ). elim o [ None ↦ None | Some t ↦ waiting_ticket t (slice_get (map status_of s.entries) t) ]) (sym (place_map s.entries))
  where
    by_entry : (t : ℕ) (o : Option Entered)
        → ◌≡◌ {A = Option ℕ} (elim o [ None ↦ None | Some e ↦ cond (is_waiting e.status) (Some t) None ]) (waiting_ticket t (option_map status_of o))
    by_entry t None = refl
    by_entry t (Some e) = refl

    by_place : (o : Option ℕ)
        → ◌≡◌ {A = Option ℕ} (elim o [ None ↦ None | Some t ↦ elim (slice_get s.entries t) [ None ↦ None | Some e ↦ cond (is_waiting e.status) (Some t) None ] ]) (elim o [ None ↦ None | Some t ↦ waiting_ticket t (slice_get (map status_of s.entries) t) ])
    by_place None = refl
    by_place (Some t) =
        by_entry t (slice_get s.entries t) ∙ ap (λ (o : Option Status). waiting_ticket t o) (sym (slice_get-map status_of s.entries t))

pub statuses_admitted : {H : Type 0} (q : Queued H) (e : QueueEntry) → statuses (admitted q e) ≡ statuses q ++ e.status ∷ []
statuses_admitted q e = map-append (λ (d : QueueEntry). d.status) q.entries (e ∷ [])

pub lines_admitted : {H : Type 0} (q : Queued H) (e : QueueEntry) → lines (admitted q e) ≡ lines q ++ e.line ∷ []
lines_admitted q e = map-append (λ (d : QueueEntry). d.line) q.entries (e ∷ [])

-- a change at a ticket that there is
pub changed_there : (es : List QueueEntry) (t : ℕ) (e : QueueEntry) (change : QueueEntry → QueueEntry) → slice_get es t ≡ Some e → changed_at es t change ≡ slice_set es t (change e)
changed_there es t e change at = ap (λ (o : Option QueueEntry). elim o [ None ↦ es | Some d ↦ slice_set es t (change d) ]) at

-- if a change gives its entry the image b, the list of images has b there
pub map_changed : {B : Type 0} (f : QueueEntry → B) (es : List QueueEntry) (t : ℕ) (change : QueueEntry → QueueEntry) (b : B)
    → ((e : QueueEntry) → f (change e) ≡ b) → map f (changed_at es t change) ≡ slice_set (map f es) t b
map_changed f [] t change b same = refl
map_changed f (e ∷ es) zero change b same = ap (λ x. x ∷ map f es) (same e)
map_changed f (e ∷ es) (suc t) change b same =
    sym (ap (λ (ds : List QueueEntry). map f ds) (changed_later e es t change)) ∙ ap (λ xs. f e ∷ xs) (map_changed f es t change b same)

-- if a change leaves the image of its entry, it leaves the list of images
pub map_unchanged : {B : Type 0} (f : QueueEntry → B) (es : List QueueEntry) (t : ℕ) (change : QueueEntry → QueueEntry)
    → ((e : QueueEntry) → f (change e) ≡ f e) → map f (changed_at es t change) ≡ map f es
map_unchanged f [] t change same = refl
map_unchanged f (e ∷ es) zero change same = ap (λ x. x ∷ map f es) (same e)
map_unchanged f (e ∷ es) (suc t) change same =
    sym (ap (λ (ds : List QueueEntry). map f ds) (changed_later e es t change)) ∙ ap (λ xs. f e ∷ xs) (map_unchanged f es t change same)

pub statuses_started : {H : Type 0} (q : Queued H) (t : ℕ) → statuses (started q t) ≡ slice_set (statuses q) t Running
statuses_started q t = map_changed (λ (e : QueueEntry). e.status) q.entries t _ Running (λ e. refl)

pub lines_started : {H : Type 0} (q : Queued H) (t : ℕ) → lines (started q t) ≡ lines q
lines_started q t = map_unchanged (λ (e : QueueEntry). e.line) q.entries t _ (λ e. refl)

pub statuses_finished : {H : Type 0} (q : Queued H) (t : ℕ) (reply : Reply) → statuses (finished q t reply) ≡ slice_set (statuses q) t Gone
statuses_finished q t reply = map_changed (λ (e : QueueEntry). e.status) q.entries t _ Gone (λ e. refl)
