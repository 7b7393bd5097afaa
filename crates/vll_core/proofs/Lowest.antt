-- The lowest ticket that is not gone, by the window of the queue.
use Rattle.std.proofs.Common.{◌≡◌, ℕ, ◌+◌, ◌<◌, ◌≤◌, Bool, true, false, not, nat_lt, List, [], ◌∷◌, length, map, get_or, slice_get, Option, Some, None, cond, refl, sym, ap, ◌∙◌, arith}
use Rattle.vll_core.proofs.Common.{position, position_or_len, range_with_len, nat_tests, fill_by_all, length-range_with_len, get_or-range_with_len, slice_get-get_or, slice_get_past, Status, Gone, Queued, statuses, is_left, is_left_at, first_left, kept, IsKept}
use Rattle.vll_core.specs.declared.queue.Queue.TheInside.{Inside}
use Rattle.vll_core.proofs.Entries.{shown_statuses}
use Rattle.vll_core.proofs.Windows.{first_is_head}

-- a number of all those below n
number_at : (n k : ℕ) → slice_get (range_with_len 0 n) k ≡ cond (nat_lt k n) (Some k) None
number_at n k = by_test (nat_lt k n) refl
  where
    by_test : (b : Bool) → nat_lt k n ≡ b → slice_get (range_with_len 0 n) k ≡ cond b (Some k) None
    by_test true is =
        let within : k < n = grind (arith, nat_tests, is) in
        slice_get-get_or (range_with_len 0 n) k 0 (let long = length-range_with_len 0 n in omega (arith, within, long)) ∙ ap Some (get_or-range_with_len 0 n k 0 within ∙ (let same : 0 + k ≡ k = omega arith in same))
    by_test false is = slice_get_past (range_with_len 0 n) k (let long = length-range_with_len 0 n in let past : n ≤ k = grind (arith, nat_tests, is) in omega (arith, past, long))

position_map : (f : ℕ → Status) (ts : List ℕ) → position_or_len (λ (t : ℕ). is_left (f t)) ts ≡ position_or_len is_left (map f ts)
position_map f [] = refl
position_map f (t ∷ ts) = ap (λ (n : ℕ). cond (not (is_left (f t))) (1 + n) 0) (position_map f ts)

-- the first of all tickets whose call is left
first_of_all : (ss : List Status) → first_left ss (range_with_len 0 (length ss)) ≡ position_or_len is_left ss
first_of_all ss =
    position_map (λ (t : ℕ). get_or ss t Gone) (range_with_len 0 (length ss))
    ∙ ap (position_or_len is_left) (sym (fill_by_all (λ (t : ℕ). get_or ss t Gone) ss (length ss) Gone refl (λ k within. refl)))

-- the window's first ticket is the lowest that is left in the queue
pub shown_lowest : {H : Type 0} {place : H → ℕ → ℕ} (a : Inside H) (q : Queued H) (o : Option ℕ) → IsKept place a → kept a ≡ q
    → o ≡ slice_get a.window.tickets.items a.window.first → o ≡ position is_left (statuses q)
shown_lowest a q o h is front =
    let ss : List Status = a.statuses.items in
    let ts : List ℕ = a.window.tickets.items in
    let all : List ℕ = range_with_len 0 (length ss) in
    front
    ∙ (ap (slice_get ts) h.window.first
    ∙ (first_is_head (is_left_at ss) ts
    ∙ (ap (λ (us : List ℕ). slice_get us 0) h.window.tickets.left
    ∙ (sym (first_is_head (is_left_at ss) all)
    ∙ (ap (slice_get all) (first_of_all ss)
    ∙ (number_at (length ss) (position_or_len is_left ss)
    ∙ ap (λ (rs : List Status). position is_left rs) (sym (shown_statuses a q h is))))))))
