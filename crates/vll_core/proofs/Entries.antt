-- The queue's entries lie as lines beside statuses.
use Rattle.std.proofs.Common.{Bor, if◌then◌else◌, nat_lt, ◌≡◌, ℕ, zero, suc, ◌+◌, ◌<◌, ◌≤◌, Bool, true, false, List, [], ◌∷◌, ◌++◌, length, map, refl, sym, ap, ◌∙◌, arith, slice_get, slice_set, get_or, cond, Option, Some, None}
use Rattle.vll_core.proofs.Common.{position, position_or_len, count_by, sum_by-cons, sum_by-set, sum_by_push, nat_tests, slice_get_past, slice_get_read, slice_get_within, get_or_from_slice_get, option_copied, map-set_same, Reply, Line, Status, Running, Waiting, Gone, is_waiting, is_running, is_gone, QueueEntry, Queued, IsQueued, is_left, changed_at, lines, statuses, waiting_ticket, front_among, paired, kept, IsKept}
use Rattle.std.specs.Slice.{IsItemAt}
use Rattle.vll_core.specs.declared.queue.Queue.TheInside.{Inside}

pub lines_paired : (ls : List Line) (ss : List Status) → length ls ≡ length ss → map (λ (e : QueueEntry). e.line) (paired ls ss) ≡ ls
lines_paired [] es same = refl
lines_paired (l ∷ ls) [] same = absurd (omega (arith, same))
lines_paired (l ∷ ls) (s ∷ ss) same = ap (λ (m : List Line). l ∷ m) (lines_paired ls ss (omega (arith, same)))

pub statuses_paired : (ls : List Line) (ss : List Status) → length ls ≡ length ss → map (λ (e : QueueEntry). e.status) (paired ls ss) ≡ ss
statuses_paired [] [] same = refl
statuses_paired [] (s ∷ ss) same = absurd (omega (arith, same))
statuses_paired (l ∷ ls) [] same = absurd (omega (arith, same))
statuses_paired (l ∷ ls) (s ∷ ss) same = ap (λ (m : List Status). s ∷ m) (statuses_paired ls ss (omega (arith, same)))

pub length_paired : (ls : List Line) (ss : List Status) → length ls ≡ length ss → length (paired ls ss) ≡ length ss
length_paired [] [] same = refl
length_paired [] (s ∷ ss) same = absurd (omega (arith, same))
length_paired (l ∷ ls) [] same = absurd (omega (arith, same))
length_paired (l ∷ ls) (s ∷ ss) same = omega (arith, length_paired ls ss (omega (arith, same)))

pub paired_push : (ls : List Line) (ss : List Status) (l : Line) (s : Status) → length ls ≡ length ss
    → paired (ls ++ l ∷ []) (ss ++ s ∷ []) ≡ paired ls ss ++ record { line = l; status = s } ∷ []
paired_push [] [] l s same = refl
paired_push [] (r ∷ ss) l s same = absurd (omega (arith, same))
paired_push (m ∷ ls) [] l s same = absurd (omega (arith, same))
paired_push (m ∷ ls) (r ∷ ss) l s same =
    ap (λ (ds : List QueueEntry). record { line = m; status = r } ∷ ds) (paired_push ls ss l s (omega (arith, same)))

-- an entry after the first is changed
pub changed_later : (x : QueueEntry) (es : List QueueEntry) (t : ℕ) (change : QueueEntry → QueueEntry) → x ∷ changed_at es t change ≡ changed_at (x ∷ es) (suc t) change
changed_later x es t change = by_option (slice_get es t)
  where
    by_option : (o : Option QueueEntry)
        → ◌≡◌ {A = List QueueEntry} (x ∷ (elim o [ None ↦ es | Some e ↦ slice_set es t (change e) ])) (elim o [ None ↦ x ∷ es | Some e ↦ x ∷ slice_set es t (change e) ])
    by_option None = refl
    by_option (Some e) = refl

pub paired_started : (ls : List Line) (ss : List Status) (t : ℕ) (s : Status) → length ls ≡ length ss
    → paired ls (slice_set ss t s) ≡ changed_at (paired ls ss) t (λ e. record e { status = s })
paired_started [] [] t s same = refl
paired_started [] (r ∷ ss) t s same = absurd (omega (arith, same))
paired_started (l ∷ ls) [] t s same = absurd (omega (arith, same))
paired_started (l ∷ ls) (r ∷ ss) zero s same = refl
paired_started (l ∷ ls) (r ∷ ss) (suc t) s same =
    ap (λ (ds : List QueueEntry). record { line = l; status = r } ∷ ds) (paired_started ls ss t s (omega (arith, same)))
    ∙ changed_later (record { line = l; status = r }) (paired ls ss) t (λ e. record e { status = s })

pub paired_finished : (ls : List Line) (ss : List Status) (t : ℕ) (s : Status) (reply : Option Reply) (old : Line) → length ls ≡ length ss → old ≡ get_or ls t old
    → paired (slice_set ls t (record old { reply = reply })) (slice_set ss t s) ≡ changed_at (paired ls ss) t (λ e. record { line = record e.line { reply = reply }; status = s })
paired_finished [] [] t s reply old same at = refl
paired_finished [] (r ∷ ss) t s reply old same at = absurd (omega (arith, same))
paired_finished (l ∷ ls) [] t s reply old same at = absurd (omega (arith, same))
paired_finished (l ∷ ls) (r ∷ ss) zero s reply old same at =
    ap (λ (m : Line). let e : QueueEntry = record { line = record m { reply = reply }; status = s } in e ∷ paired ls ss) at
paired_finished (l ∷ ls) (r ∷ ss) (suc t) s reply old same at =
    ap (λ (ds : List QueueEntry). record { line = l; status = r } ∷ ds) (paired_finished ls ss t s reply old (omega (arith, same)) at)
    ∙ changed_later (record { line = l; status = r }) (paired ls ss) t (λ e. record { line = record e.line { reply = reply }; status = s })

-- what changes where a waiting call begins to run
pub record Starts (ss : List Status) (t : ℕ) : Type 0 where
  pub within : t < length ss
  pub waiting : count_by is_waiting ss ≡ count_by is_waiting (slice_set ss t Running) + 1
  pub running : count_by is_running (slice_set ss t Running) ≡ count_by is_running ss + 1
  pub gone : map is_gone (slice_set ss t Running) ≡ map is_gone ss

pub starts : (ss : List Status) (t : ℕ) → slice_get ss t ≡ Some Waiting → Starts ss t
starts ss t at =
    let in_list : t < length ss = slice_get_within ss t Waiting at in
    let here : get_or ss t Gone ≡ Waiting = get_or_from_slice_get ss t Waiting Gone at in
    record {
      within = in_list;
      waiting = grind (arith, sum_by-set (λ (s : Status). cond (is_waiting s) 1 0) ss t Running Gone in_list);
      running = grind (arith, sum_by-set (λ (s : Status). cond (is_running s) 1 0) ss t Running Gone in_list);
      gone = map-set_same is_gone ss t Running Gone (rw here);
    }

-- what changes where a running call is finished
pub record Ends (ss : List Status) (t : ℕ) : Type 0 where
  pub within : t < length ss
  pub waiting : count_by is_waiting (slice_set ss t Gone) ≡ count_by is_waiting ss
  pub running : count_by is_running ss ≡ count_by is_running (slice_set ss t Gone) + 1

pub ends : (ss : List Status) (t : ℕ) → slice_get ss t ≡ Some Running → Ends ss t
ends ss t at =
    let in_list : t < length ss = slice_get_within ss t Running at in
    let here : get_or ss t Gone ≡ Running = get_or_from_slice_get ss t Running Gone at in
    record {
      within = in_list;
      waiting = grind (arith, sum_by-set (λ (s : Status). cond (is_waiting s) 1 0) ss t Gone Gone in_list);
      running = grind (arith, sum_by-set (λ (s : Status). cond (is_running s) 1 0) ss t Gone Gone in_list);
    }

-- no more wait where one is gone
pub fewer_wait : (ss : List Status) (t : ℕ) → count_by is_waiting (slice_set ss t Gone) ≤ count_by is_waiting ss
fewer_wait [] t = omega arith
fewer_wait (s ∷ ss) zero = omega (arith, sum_by-cons weight s ss, sum_by-cons weight Gone ss)
  where
    weight : Status → ℕ
    weight r = cond (is_waiting r) 1 0
fewer_wait (s ∷ ss) (suc t) = omega (arith, sum_by-cons weight s ss, sum_by-cons weight s (slice_set ss t Gone), fewer_wait ss t)
  where
    weight : Status → ℕ
    weight r = cond (is_waiting r) 1 0

-- at most one more waits where one enters
pub one_more_waits : (ss : List Status) (s : Status) → count_by is_waiting (ss ++ s ∷ []) ≤ count_by is_waiting ss + 1
one_more_waits ss s = by_test (is_waiting s) (sum_by_push (λ (r : Status). cond (is_waiting r) 1 0) ss s)
  where
    by_test : (b : Bool) → count_by is_waiting (ss ++ s ∷ []) ≡ count_by is_waiting ss + cond b 1 0 → count_by is_waiting (ss ++ s ∷ []) ≤ count_by is_waiting ss + 1
    by_test true sum = omega (arith, sum)
    by_test false sum = omega (arith, sum)

-- what a queue shows of its fields
pub shown_statuses : {H : Type 0} {place : H → ℕ → ℕ} (a : Inside H) (q : Queued H) → IsKept place a → kept a ≡ q → statuses q ≡ a.statuses.items
shown_statuses a q h is = ap statuses (sym is) ∙ statuses_paired a.journal.items a.statuses.items h.as_many

pub shown_lines : {H : Type 0} {place : H → ℕ → ℕ} (a : Inside H) (q : Queued H) → IsKept place a → kept a ≡ q → lines q ≡ a.journal.items
shown_lines a q h is = ap lines (sym is) ∙ lines_paired a.journal.items a.statuses.items h.as_many

pub shown_length : {H : Type 0} {place : H → ℕ → ℕ} (a : Inside H) (q : Queued H) → IsKept place a → kept a ≡ q → length q.entries ≡ length a.statuses.items
shown_length {H} a q h is =
    ap (λ (p : Queued H). length p.entries) (sym is) ∙ length_paired a.journal.items a.statuses.items h.as_many

pub shown_limit : {H : Type 0} (a : Inside H) (q : Queued H) → kept a ≡ q → q.limit ≡ a.limit
shown_limit {H} a q is = ap (λ (p : Queued H). p.limit) (sym is)

pub shown_cap : {H : Type 0} (a : Inside H) (q : Queued H) → kept a ≡ q → q.cap ≡ a.cap
shown_cap {H} a q is = ap (λ (p : Queued H). p.cap) (sym is)

-- a queue that is not spent has room
pub shown_room : {H : Type 0} {place : H → ℕ → ℕ} (a : Inside H) (q : Queued H) → IsKept place a → kept a ≡ q → length q.entries < q.limit → length a.statuses.items < a.limit
shown_room a q h is unspent = omega (arith, unspent, shown_length a q h is, shown_limit a q is)

pub shown_waiting : {H : Type 0} {place : H → ℕ → ℕ} (a : Inside H) (q : Queued H) → IsKept place a → kept a ≡ q → count_by is_waiting (statuses q) ≡ count_by is_waiting a.statuses.items
shown_waiting a q h is = ap (count_by is_waiting) (shown_statuses a q h is)

-- a queue that is not busy lets one more wait
pub shown_idle : {H : Type 0} {place : H → ℕ → ℕ} (a : Inside H) (q : Queued H) → IsKept place a → kept a ≡ q → count_by is_waiting (statuses q) < q.cap
    → count_by is_waiting a.statuses.items < a.cap
shown_idle a q h is idle = omega (arith, idle, shown_waiting a q h is, shown_cap a q is)

-- each queue that is kept is one
pub shown_queued : {H : Type 0} {place : H → ℕ → ℕ} (a : Inside H) (q : Queued H) → IsKept place a → kept a ≡ q → IsQueued q
shown_queued {H} a q h is =
    let limit : q.limit ≡ a.limit = shown_limit a q is in
    let cap : q.cap ≡ a.cap = shown_cap a q is in
    let bits : q.bits ≡ a.bits = ap (λ (p : Queued H). p.bits) (sym is) in
    let long : length q.entries ≡ length a.statuses.items = shown_length a q h is in
    record {
      some_calls = omega (arith, h.some_calls);
      few_calls = omega (arith, h.few_calls);
      some_wait = omega (arith, h.some_wait);
      few_wait = omega (arith, h.few_wait);
      some_bits = omega (arith, h.some_bits);
      few_bits = omega (arith, h.few_bits);
      capped = omega (arith, h.capped, shown_waiting a q h is);
      within = omega (arith, h.within);
      answered = rw (shown_lines a q h is, shown_statuses a q h is) h.answered;
    }

-- what `get` lends at a place is the element there
pub copied_item : {X : Type 0} (xs : List X) (i : ℕ) (r : Option (Bor X)) → IsItemAt xs i r → option_copied r ≡ slice_get xs i
copied_item xs i None h = sym (slice_get_past xs i h.3)
copied_item xs i (Some x) h = sym (slice_get_read xs (length xs) i x.now refl h.3.0 h.1)

-- what `get` lends of a list that was borrowed
pub lent_item : {X : Type 0} (xs ys : List X) (i : ℕ) (r o : Option (Bor X)) → ys ≡ xs → IsItemAt ys i r → r ≡ o → slice_get xs i ≡ option_copied o
lent_item {X} xs ys i r o same lookup is =
    ap (λ (zs : List X). slice_get zs i) (sym same) ∙ (sym (copied_item ys i r lookup) ∙ ap (λ (x : Option (Bor X)). option_copied x) is)

-- the status of what `get` lends at a ticket
pub shown_item : {H : Type 0} {place : H → ℕ → ℕ} (a : Inside H) (q : Queued H) (ss : List Status) (t u : ℕ) (r : Option (Bor Status)) → IsKept place a → kept a ≡ q → ss ≡ a.statuses.items → t ≡ u → IsItemAt ss t r
    → option_copied r ≡ slice_get (statuses q) u
shown_item a q ss t u r h is same at lookup =
    copied_item ss t r lookup
    ∙ (ap (λ (rs : List Status). slice_get rs t) (same ∙ sym (shown_statuses a q h is)) ∙ ap (slice_get (statuses q)) at)

pub shown_status : {H : Type 0} {place : H → ℕ → ℕ} (a : Inside H) (q : Queued H) (t u : ℕ) (s : Option Status) → IsKept place a → kept a ≡ q → t ≡ u → slice_get (statuses q) u ≡ s → slice_get a.statuses.items t ≡ s
shown_status a q t u s h is same at =
    ap (λ (ss : List Status). slice_get ss t) (sym (shown_statuses a q h is)) ∙ (ap (λ (k : ℕ). slice_get (statuses q) k) same ∙ at)

-- the front stands at the first that is left
pub front_at : (ss : List Status) (t : ℕ) → t ≡ position_or_len is_left ss → front_among ss ≡ waiting_ticket t (slice_get ss t)
front_at ss t first =
    by_test (position_or_len is_left ss) _ refl ∙ ap (λ (k : ℕ). waiting_ticket k (slice_get ss k)) (sym first)
  where
    by_test : (p : ℕ) (b : Bool) → nat_lt p (length ss) ≡ b → ◌≡◌ {A = Option ℕ} (elim (cond b (Some p) None) [ None ↦ None | Some k ↦ waiting_ticket k (slice_get ss k) ]) (waiting_ticket p (slice_get ss p))
    by_test p true is = refl
    by_test p false is = sym (ap (λ (o : Option Status). waiting_ticket p o) (slice_get_past ss p (grind (arith, nat_tests))))

-- the front by the lowest ticket that is left, and by its status
pub front_none : (ss : List Status) (lowest : Option ℕ) → lowest ≡ position is_left ss → lowest ≡ None → front_among ss ≡ None
front_none ss lowest is none = ap (λ (o : Option ℕ). elim o [ None ↦ None | Some t ↦ waiting_ticket t (slice_get ss t) ]) (sym is ∙ none)

pub front_some : (ss : List Status) (lowest : Option ℕ) (t : ℕ) (r : Option Status) (o : Option ℕ) → lowest ≡ position is_left ss → lowest ≡ Some t → r ≡ slice_get ss t → waiting_ticket t r ≡ o
    → front_among ss ≡ o
front_some ss lowest t r o is some at told =
    ap (λ (l : Option ℕ). elim l [ None ↦ None | Some u ↦ waiting_ticket u (slice_get ss u) ]) (sym is ∙ some)
    ∙ (ap (λ (s : Option Status). waiting_ticket t s) (sym at) ∙ told)

-- whether a ticket waits is told by its status
pub waits : (t : ℕ) (r : Option Status) (s : Status) (b : Bool) → r ≡ Some s → b ≡ is_waiting s → waiting_ticket t r ≡ (if b then Some t else None)
waits t r s b at is = ap (λ (o : Option Status). waiting_ticket t o) at ∙ ap (λ (w : Bool). if w then Some t else None) (sym is)
