-- The queue stays kept where a call enters, begins to run and finishes, and what it shows is what its definitions say.
use Rattle.std.proofs.Common.{Vec, Global, vec_capacity, ◌-◌, ◌≡◌, ℕ, ◌+◌, ◌<◌, ◌≤◌, Bool, true, false, List, [], ◌∷◌, ◌++◌, length, map, not, sym, ap, ap₂, ◌∙◌, subst, arith, slice_get, slice_set, get_or, cond, Some, None, length-set, length-append, All}
use Rattle.vll_core.proofs.Common.{count_by, with_item, true≢false, map-append, sum_by_push, map-set, Reply, Line, Status, Running, Waiting, Gone, is_waiting, is_running, is_gone, QueueEntry, Queued, has_reply, admitted, started, finished, found_by, Window, paired, IsWindow, first_left, kept, IsKept}
use Rattle.vll_core.specs.declared.queue.Queue.TheInside.{Inside}
use Rattle.vll_core.proofs.Windows.{left_started, first_started, left_finished, first_finished, left_entered, first_entered}
use Rattle.vll_core.proofs.QueueFruitless.{none_started, none_entered}
use Rattle.vll_core.proofs.Entries.{Starts, starts, Ends, ends, one_more_waits, paired_push, paired_started, paired_finished}

-- the queue that is kept, with these entries
abbrev pub kept_with : {H : Type 0} → Inside H → List QueueEntry → Queued H
kept_with a es = record { cap = a.cap; limit = a.limit; bits = a.bits; hash = a.hash; entries = es }

pub kept_started : {H : Type 0} {place : H → ℕ → ℕ} (a : Inside H) (t : ℕ) → IsKept place a → slice_get a.statuses.items t ≡ Some Waiting
    → IsKept place (record a { statuses = with_item a.statuses t Running; waiting = a.waiting - 1; running = a.running + 1 })
kept_started {H} {place} a t h at =
    let change : Starts a.statuses.items t = starts a.statuses.items t at in
    let long : length (slice_set a.statuses.items t Running) ≡ length a.statuses.items = length-set a.statuses.items t Running in
    let ss : List Status = slice_set a.statuses.items t Running in
    let capped : count_by is_waiting ss ≤ a.cap = omega (arith, h.capped, change.waiting) in
    let within : length ss ≤ a.limit = omega (arith, h.within, long) in
    let window : IsWindow ss a.window = record {
      tickets = left_started a.statuses.items a.window.tickets.items t at h.window.tickets;
      first = h.window.first ∙ first_started a.statuses.items a.window.tickets.items t at;
    } in
    let waiting : a.waiting - 1 ≡ count_by is_waiting ss = omega (arith, h.waiting, change.waiting) in
    let fruitless : a.is_fruitless ≡ true → found_by place (kept_with a (paired a.journal.items ss)) ≡ None =
    λ is_set. none_started (place a.hash) a.bits a.journal.items a.statuses.items t h.as_many at (h.fruitless is_set) in
    assumption (
      capped,
      within,
      h.as_many ∙ sym long,
      h.answered ∙ sym change.gone,
      window,
      waiting,
      ap (λ (n : ℕ). n + 1) h.running ∙ sym change.running,
      fruitless,
      h,
    )

pub shown_started : {H : Type 0} {place : H → ℕ → ℕ} (a : Inside H) (q : Queued H) (t u : ℕ) → IsKept place a → kept a ≡ q → t ≡ u
    → kept_with a (paired a.journal.items (slice_set a.statuses.items t Running)) ≡ started q u
shown_started {H} a q t u h is same =
    ap (kept_with a) (paired_started a.journal.items a.statuses.items t Running h.as_many)
    ∙ (ap (λ (p : Queued H). started p t) is ∙ ap (λ (k : ℕ). started q k) same)

-- where a call is gone, the window's tickets are still below the next one, and the first that is left is no earlier
pub record Passes (ss : List Status) (w : Window) : Type 0 where
  pub below : All (λ (t : ℕ). t < length ss) w.tickets.items
  pub gone : w.first ≤ first_left ss w.tickets.items

pub window_finished : (ss : List Status) (w : Window) (t : ℕ) → IsWindow ss w → t < length ss → Passes (slice_set ss t Gone) w
window_finished ss w t h within = record {
  below = (left_finished ss w.tickets.items t within h.tickets).below;
  gone = let later = first_finished ss w.tickets.items t within in omega (arith, h.first, later);
}

pub window_passed : (ss us : List Status) (w v : Window) (t : ℕ) → IsWindow ss w → t < length ss → us ≡ slice_set ss t Gone → v ≡ record w { first = first_left us w.tickets.items } → IsWindow (slice_set ss t Gone) v
window_passed ss us w v t h within same is = record {
  tickets = rw is (left_finished ss w.tickets.items t within h.tickets);
  first = rw is (ap (λ (rs : List Status). first_left rs w.tickets.items) same);
}

pub kept_finished : {H : Type 0} {place : H → ℕ → ℕ} (a : Inside H) (w : Window) (t : ℕ) (reply : Reply) (l : Line) → IsKept place a → slice_get a.statuses.items t ≡ Some Running
    → l ≡ get_or a.journal.items t l → IsWindow (slice_set a.statuses.items t Gone) w → vec_capacity w.tickets ≡ vec_capacity a.window.tickets
    → IsKept place (record a { statuses = with_item a.statuses t Gone; journal = with_item a.journal t (record l { reply = Some reply }); window = w; running = a.running - 1; is_fruitless = false })
kept_finished {H} {place} a w t reply l h at there window room =
    let change : Ends a.statuses.items t = ends a.statuses.items t at in
    let line : Line = record l { reply = Some reply } in
    let long : length (slice_set a.statuses.items t Gone) ≡ length a.statuses.items = length-set a.statuses.items t Gone in
    let ss : List Status = slice_set a.statuses.items t Gone in
    let capped : count_by is_waiting ss ≤ a.cap = omega (arith, h.capped, change.waiting) in
    let within : length ss ≤ a.limit = omega (arith, h.within, long) in
    let room_in_window : a.limit ≤ vec_capacity w.tickets = omega (arith, h.room_in_window, room) in
    let running : a.running - 1 ≡ count_by is_running ss = omega (arith, h.running, change.running) in
    let fruitless : false ≡ true → found_by place (kept_with a (paired (slice_set a.journal.items t line) ss)) ≡ None = λ is_set. absurd (true≢false (sym is_set)) in
    assumption (
      capped,
      within,
      length-set a.journal.items t line ∙ (h.as_many ∙ sym long),
      room_in_window,
      map-set has_reply a.journal.items t line ∙ (ap (λ (bs : List Bool). slice_set bs t true) h.answered ∙ sym (map-set is_gone a.statuses.items t Gone)),
      window,
      h.waiting ∙ sym change.waiting,
      running,
      fruitless,
      h,
    )

pub shown_finished : {H : Type 0} {place : H → ℕ → ℕ} (a : Inside H) (q : Queued H) (t u : ℕ) (reply : Reply) (l : Line) → IsKept place a → kept a ≡ q → t ≡ u → l ≡ get_or a.journal.items t l
    → kept_with a (paired (slice_set a.journal.items t (record l { reply = Some reply })) (slice_set a.statuses.items t Gone)) ≡ finished q u reply
shown_finished {H} a q t u reply l h is same at =
    ap (kept_with a) (paired_finished a.journal.items a.statuses.items t Gone (Some reply) l h.as_many at)
    ∙ (ap (λ (p : Queued H). finished p t reply) is ∙ ap (λ (k : ℕ). finished q k reply) same)

-- a ticket is put at the end of a window
pub record IsPushed (w v : Window) (t : ℕ) : Type 0 where
  pub tickets : v.tickets.items ≡ w.tickets.items ++ t ∷ []
  pub first : v.first ≡ w.first
  pub room : vec_capacity v.tickets ≡ vec_capacity w.tickets

pub pushed_next : (w v : Window) (t n : ℕ) → v.tickets.items ≡ w.tickets.items ++ t ∷ [] → v.first ≡ w.first → vec_capacity v.tickets ≡ vec_capacity w.tickets → t ≡ n → IsPushed w v n
pushed_next w v t n tickets first room same = record {
  tickets = tickets ∙ ap (λ (k : ℕ). w.tickets.items ++ k ∷ []) same;
  first = first;
  room = room;
}

pub kept_entered : {H : Type 0} {place : H → ℕ → ℕ} (a : Inside H) (vs : Vec Status Global) (vl : Vec Line Global) (w : Window) (l : Line) (s : Status) (waiting running : ℕ) (fruitless : Bool) → IsKept place a
    → length a.statuses.items < a.limit → count_by is_waiting a.statuses.items < a.cap
    → vs.items ≡ a.statuses.items ++ s ∷ [] → vec_capacity vs ≡ vec_capacity a.statuses → vl.items ≡ a.journal.items ++ l ∷ [] → vec_capacity vl ≡ vec_capacity a.journal
    → IsPushed a.window w (length a.statuses.items) → has_reply l ≡ false → is_gone s ≡ false
    → waiting ≡ a.waiting + cond (is_waiting s) 1 0 → running ≡ a.running + cond (is_running s) 1 0
    → (fruitless ≡ true → a.is_fruitless ≡ true) → (fruitless ≡ true → is_waiting s ≡ false)
    → IsKept place (record a { statuses = vs; journal = vl; window = w; waiting = waiting; running = running; is_fruitless = fruitless })
kept_entered {H} {place} a vs vl w l s waiting running fruitless h room idle pushed same_room new_line same_line_room ticket silent left one_waits one_runs was_set idles =
    let ss : List Status = a.statuses.items in
    let long : length vs.items ≡ length ss + 1 = rw pushed (omega (arith, length-append ss (s ∷ []))) in
    let long_lines : length vl.items ≡ length a.journal.items + 1 = rw new_line (omega (arith, length-append a.journal.items (l ∷ []))) in
    let capped : count_by is_waiting vs.items ≤ a.cap = rw pushed (omega (arith, idle, one_more_waits ss s)) in
    let within : length vs.items ≤ a.limit = omega (arith, long, room) in
    let as_many : length vl.items ≡ length vs.items = omega (arith, long, long_lines, h.as_many) in
    let wide : a.limit ≤ vec_capacity vs = omega (arith, same_room, h.room) in
    let wide_for_lines : a.limit ≤ vec_capacity vl = omega (arith, same_line_room, h.room_for_lines) in
    let wide_in_window : a.limit ≤ vec_capacity w.tickets = omega (arith, h.room_in_window, ticket.room) in
    let answered : map has_reply vl.items ≡ map is_gone vs.items = rw (pushed, new_line) (answered_push a.journal.items ss l s h.answered (silent ∙ sym left)) in
    let window : IsWindow vs.items w = record {
      tickets = rw (pushed, ticket.tickets) (left_entered ss s (ap not left) a.window.tickets.items h.window.tickets);
      first = rw (pushed, ticket.tickets) (ticket.first ∙ (h.window.first ∙ first_entered ss s (ap not left) a.window.tickets.items h.window.tickets.below));
    } in
    let waits : waiting ≡ count_by is_waiting vs.items =
    rw pushed (one_waits ∙ (ap (λ (n : ℕ). n + cond (is_waiting s) 1 0) h.waiting ∙ sym (sum_by_push (λ (t : Status). cond (is_waiting t) 1 0) ss s))) in
    let runs : running ≡ count_by is_running vs.items =
    rw pushed (one_runs ∙ (ap (λ (n : ℕ). n + cond (is_running s) 1 0) h.running ∙ sym (sum_by_push (λ (t : Status). cond (is_running t) 1 0) ss s))) in
    let none : fruitless ≡ true → found_by place (kept_with a (paired vl.items vs.items)) ≡ None =
    λ is_set. rw (pushed, new_line) (none_entered (place a.hash) a.bits a.journal.items ss l s h.as_many (idles is_set) (h.fruitless (was_set is_set))) in
    assumption (capped, within, as_many, wide, wide_for_lines, wide_in_window, answered, window, waits, runs, none, h)
  where
    answered_push : (ls : List Line) (ss : List Status) (m : Line) (t : Status) → map has_reply ls ≡ map is_gone ss → has_reply m ≡ is_gone t
        → map has_reply (ls ++ m ∷ []) ≡ map is_gone (ss ++ t ∷ [])
    answered_push ls ss m t all last =
        map-append has_reply ls (m ∷ []) ∙ (ap₂ (λ (bs : List Bool) (b : Bool). bs ++ b ∷ []) all last ∙ sym (map-append is_gone ss (t ∷ [])))

-- the queue stays kept if the line is already put and the call is counted
pub kept_counted : {H : Type 0} {place : H → ℕ → ℕ} (a b : Inside H) (vs : Vec Status Global) (vl : Vec Line Global) (w : Window) (l : Line) (s : Status) (waiting running : ℕ) (fruitless : Bool) → IsKept place a
    → length a.statuses.items < a.limit → count_by is_waiting a.statuses.items < a.cap
    → b ≡ record a { journal = vl; waiting = waiting; running = running; is_fruitless = fruitless }
    → vs.items ≡ b.statuses.items ++ s ∷ [] → vec_capacity vs ≡ vec_capacity b.statuses → vl.items ≡ a.journal.items ++ l ∷ [] → vec_capacity vl ≡ vec_capacity a.journal
    → IsPushed b.window w (length a.statuses.items) → has_reply l ≡ false → is_gone s ≡ false
    → waiting ≡ a.waiting + cond (is_waiting s) 1 0 → running ≡ a.running + cond (is_running s) 1 0
    → (fruitless ≡ true → a.is_fruitless ≡ true) → (fruitless ≡ true → is_waiting s ≡ false)
    → IsKept place (record b { statuses = vs; window = w })
kept_counted {H} {place} a b vs vl w l s waiting running fruitless h room idle is pushed same_room new_line same_line_room ticket silent left one_waits one_runs was_set idles =
    subst (λ (x : Inside H). vs.items ≡ x.statuses.items ++ s ∷ [] → vec_capacity vs ≡ vec_capacity x.statuses → IsPushed x.window w (length a.statuses.items) → IsKept place (record x { statuses = vs; window = w }))
    (sym is)
    (λ new same entered. kept_entered a vs vl w l s waiting running fruitless h room idle new same new_line same_line_room entered silent left one_waits one_runs was_set idles)
    pushed same_room ticket

pub shown_entered : {H : Type 0} {place : H → ℕ → ℕ} (a b : Inside H) (q : Queued H) (vs : Vec Status Global) (vl : Vec Line Global) (w : Window) (l : Line) (r s : Status) (waiting running : ℕ) (fruitless : Bool) → IsKept place a → kept a ≡ q
    → b ≡ record a { journal = vl; waiting = waiting; running = running; is_fruitless = fruitless }
    → vl.items ≡ a.journal.items ++ l ∷ [] → vs.items ≡ b.statuses.items ++ r ∷ [] → r ≡ s
    → kept (record b { statuses = vs; window = w }) ≡ admitted q (record { line = l; status = s })
shown_entered {H} a b q vs vl w l r s waiting running fruitless h shows is new_line pushed status =
    subst (λ (x : Inside H). vs.items ≡ x.statuses.items ++ r ∷ [] → kept (record x { statuses = vs; window = w }) ≡ admitted q (record { line = l; status = s })) (sym is)
    (λ new.
    rw (new_line, new)
    (ap (kept_with a) (paired_push a.journal.items a.statuses.items l r h.as_many)
    ∙ (ap (λ (p : Queued H). admitted p (record { line = l; status = r })) shows
    ∙ ap (λ (t : Status). admitted q (record { line = l; status = t })) status)))
    pushed
