-- What the scan finds: it waits and is clear, and entries at the front that are gone only move its index.
use Rattle.std.proofs.Common.{◌≡◌, ℕ, zero, suc, ◌+◌, ◌<◌, ◌%◌, Bool, true, false, not, ◌&&◌, ◌||◌, ◌==◌, nat_lt, cond, List, [], ◌∷◌, ◌++◌, length, map, take, slice_get, Option, Some, None, option_map, position, All, refl, sym, ap, ap₂, ◌∙◌, zero-add, subst, arith, eq-eqb, lt-ltb, le-ltb, ltb-true, ltb-false}
use Rattle.vll_sca.proofs.Common.{true≢false, both_ways, and_parts, and_from, and_left, or_left, or_right, not-true, false_from_ne_true, eqb-true, cond-true, cond-false, length-enumerate_from, get_or-enumerate_from, slice_get_within, get_or_from_slice_get, none-some, same_Some, list_any, enumerate_from, position_or_len, Claim, is_write, conflict, conflicts, Entry, Status, Gone, is_waiting, is_gone, hashed, hash_conflict, holds_back, may_run, scan}
use Rattle.std.proofs.lemmas.List.Quantifiers.{position-Some}

one_in_map : {X Y : Type 0} (p : X → Bool) (q : Y → Bool) (h : X → Y) (x : X) (xs : List X) → (p x ≡ true → q (h x) ≡ true)
    → (list_any p xs ≡ true → list_any q (map h xs) ≡ true) → (b : Bool) → p x ≡ b → (b || list_any p xs) ≡ true → list_any q (map h (x ∷ xs)) ≡ true
one_in_map p q h x xs one rest true is found = or_left (q (h x)) _ (one is)
one_in_map p q h x xs one rest false is found = or_right (q (h x)) _ (rest found)

-- if the image of each item that passes passes, a list with an item that passes has an image with one
any_in_map : {X Y : Type 0} (p : X → Bool) (q : Y → Bool) (h : X → Y) (xs : List X)
    → ((x : X) → p x ≡ true → q (h x) ≡ true) → list_any p xs ≡ true → list_any q (map h xs) ≡ true
any_in_map p q h [] one found = absurd (true≢false (sym found))
any_in_map p q h (x ∷ xs) one found = one_in_map p q h x xs (one x) (any_in_map p q h xs one) (p x) refl found

-- the first that passes, by recursion
pub position-first : {X : Type 0} (p : X → Bool) (x : X) (xs : List X) → p x ≡ true → position p (x ∷ xs) ≡ Some 0
position-first p x xs h = rw h (cond-true _ _ _ (lt-ltb 0 (suc (length xs)) (omega arith)))

later : (n m : ℕ) (b : Bool) → nat_lt n m ≡ b → cond (nat_lt (1 + n) (suc m)) (Some (1 + n)) None ≡ option_map suc (cond b (Some n) None)
later n m true is = cond-true _ _ _ (lt-ltb (1 + n) (suc m) (let l = ltb-true n m is in omega (arith, l))) ∙ ap Some (let e : 1 + n ≡ suc n = omega arith in e)
later n m false is = cond-false _ _ _ (le-ltb (1 + n) (suc m) (let l = ltb-false n m is in omega (arith, l)))

pub position-next : {X : Type 0} (p : X → Bool) (x : X) (xs : List X) → p x ≡ false → position p (x ∷ xs) ≡ option_map suc (position p xs)
position-next p x xs h = rw h (later (position_or_len p xs) (length xs) (nat_lt (position_or_len p xs) (length xs)) refl)

-- one of the first i passes
any_below : {X : Type 0} (p : X → Bool) (xs : List X) (i j : ℕ) (d : X) → j < i → slice_get xs j ≡ Some d → p d ≡ true → list_any p (take i xs) ≡ true
any_below p xs zero j d below here is = absurd (omega (arith, below))
any_below p [] (suc i) j d below here is = absurd (none-some d here)
any_below p (x ∷ xs) (suc i) zero d below here is = or_left _ _ (ap p (same_Some x d here) ∙ is)
any_below p (x ∷ xs) (suc i) (suc j) d below here is = or_right (p x) _ (any_below p xs i j d (omega (arith, below)) here is)

-- tests that agree one place apart find the same item
abbrev pub Shifted : {X : Type 0} → (p q : ℕ × X → Bool) → Type 0
Shifted {X} p q = (i : ℕ) (x : X) → p (suc i, x) ≡ q (i, x)

shifted_at : {X : Type 0} (p q : ℕ × X → Bool) (n : ℕ) (x : X) (xs : List X) → Shifted p q
    → position p (enumerate_from (suc n + 1) xs) ≡ position q (enumerate_from (n + 1) xs)
    → (b : Bool) → q (n, x) ≡ b → position p (enumerate_from (suc n) (x ∷ xs)) ≡ position q (enumerate_from n (x ∷ xs))
shifted_at p q n x xs one rest true is =
    position-first p (suc n, x) (enumerate_from (suc n + 1) xs) (one n x ∙ is) ∙ sym (position-first q (n, x) (enumerate_from (n + 1) xs) is)
shifted_at p q n x xs one rest false is =
    position-next p (suc n, x) (enumerate_from (suc n + 1) xs) (one n x ∙ is) ∙ (ap (option_map suc) rest ∙ sym (position-next q (n, x) (enumerate_from (n + 1) xs) is))

pub position-shifted : {X : Type 0} (p q : ℕ × X → Bool) (n : ℕ) (xs : List X) → Shifted p q
    → position p (enumerate_from (suc n) xs) ≡ position q (enumerate_from n xs)
position-shifted p q n [] one = refl
position-shifted p q n (x ∷ xs) one =
    shifted_at p q n x xs one (ap (λ m. position p (enumerate_from m xs)) (let e : suc n + 1 ≡ suc (n + 1) = omega arith in e) ∙ position-shifted p q (n + 1) xs one) (q (n, x)) refl

moved_twice : (n : ℕ) (o : Option ℕ) → option_map suc (option_map (λ i. n + i) o) ≡ option_map (λ i. suc n + i) o
moved_twice n None = refl
moved_twice n (Some i) = ap Some (let e : suc (n + i) ≡ suc n + i = omega arith in e)

moved_by_none : (o : Option ℕ) → o ≡ option_map (λ i. 0 + i) o
moved_by_none None = refl
moved_by_none (Some i) = ap Some (sym (zero-add i))

pub not_waiting : (s : Status) → is_gone s ≡ true → is_waiting s ≡ false
not_waiting Gone h = refl
not_waiting other h = absurd (true≢false (sym h))

module _ (place : ℕ → ℕ) (bits : ℕ) where
  -- claims on one record are claims on one place
  conflicts_by_place : (a b : Claim) → conflicts a b ≡ true → conflicts (hashed place bits a) (hashed place bits b) ≡ true
  conflicts_by_place a b h =
      let parts = and_parts (a.id == b.id) (is_write a || is_write b) h in
      and_from (place a.id % bits == place b.id % bits) (is_write a || is_write b)
      (eq-eqb _ _ (ap (λ r. place r % bits) (eqb-true a.id b.id parts.0))) parts.1

  pub conflict_by_place : (xs ys : List Claim) → conflict xs ys ≡ true → conflict (map (hashed place bits) xs) (map (hashed place bits) ys) ≡ true
  conflict_by_place xs ys h =
      any_in_map (λ x. list_any (conflicts x) ys) (λ x. list_any (conflicts x) (map (hashed place bits) ys)) (hashed place bits) xs
      (λ x found. any_in_map (conflicts x) (conflicts (hashed place bits x)) (hashed place bits) ys (conflicts_by_place x) found) h

  -- entries that conflict are in hash conflict
  pub conflict_implies_hash_conflict : (a b : Entry) → conflict a.claims b.claims ≡ true → hash_conflict place bits a b ≡ true
  conflict_implies_hash_conflict a b h = conflict_by_place a.claims b.claims h

  -- an entry that is not gone, and does not hold back, conflicts with no claim
  clear_of : (d e : Entry) → holds_back place bits d e ≡ false → is_gone d.status ≡ false → conflict d.claims e.claims ≡ false
  clear_of d e free left =
      false_from_ne_true (conflict d.claims e.claims)
      (λ meets. both_ways (holds_back place bits d e) free (and_from (not (is_gone d.status)) (hash_conflict place bits d e) (ap not left) (conflict_implies_hash_conflict d e meets)))

  -- the found entry may run
  found_may_run : (entries : List Entry) (i : ℕ) (e : Entry) → scan place bits entries ≡ Some i → slice_get entries i ≡ Some e → may_run place bits entries (i, e) ≡ true
  found_may_run entries i e found at =
      let first = position-Some (may_run place bits entries) (enumerate_from 0 entries) i (0, e) found in
      subst (λ (x : ℕ × Entry). may_run place bits entries x ≡ true)
      (get_or-enumerate_from 0 entries i (0, e) (slice_get_within entries i e at) ∙ ap₂ (λ (n : ℕ) (x : Entry). (n, x)) (zero-add i) (get_or_from_slice_get entries i e e at)) first.1

  pub scanned_within : (entries : List Entry) (i : ℕ) → scan place bits entries ≡ Some i → i < length entries
  scanned_within entries i found =
      let none : Entry = record { claims = []; status = Gone } in
      let first = position-Some (may_run place bits entries) (enumerate_from 0 entries) i (0, none) found in
      rw (← length-enumerate_from 0 entries) first.0

  pub scanned_waits : (entries : List Entry) (i : ℕ) (e : Entry) → scan place bits entries ≡ Some i → slice_get entries i ≡ Some e → is_waiting e.status ≡ true
  scanned_waits entries i e found at =
      (and_parts (is_waiting e.status) (not (list_any (λ d. holds_back place bits d e) (take i entries))) (found_may_run entries i e found at)).0

  pub scanned_is_clear : (entries : List Entry) (i : ℕ) (e : Entry) → scan place bits entries ≡ Some i → slice_get entries i ≡ Some e
      → (j : ℕ) (d : Entry) → j < i → slice_get entries j ≡ Some d → is_gone d.status ≡ false → conflict d.claims e.claims ≡ false
  scanned_is_clear entries i e found at j d below here left =
      let held = λ (x : Entry). holds_back place bits x e in
      let none : list_any held (take i entries) ≡ false = not-true _ (and_parts (is_waiting e.status) (not (list_any held (take i entries))) (found_may_run entries i e found at)).1 in
      clear_of d e (false_from_ne_true (held d) (λ is. both_ways _ none (any_below held entries i j d below here is))) left

  pub gone_holds_none_back : (x e : Entry) → is_gone x.status ≡ true → holds_back place bits x e ≡ false
  gone_holds_none_back x e gone = and_left (not (is_gone x.status)) (hash_conflict place bits x e) (ap not gone)

  may_run-shifted : (x : Entry) (ys : List Entry) → is_gone x.status ≡ true → Shifted (may_run place bits (x ∷ ys)) (may_run place bits ys)
  may_run-shifted x ys gone i e =
      ap (λ b. is_waiting e.status && not (b || list_any (λ d. holds_back place bits d e) (take i ys))) (gone_holds_none_back x e gone)

  scan-gone : (x : Entry) (ys : List Entry) → is_gone x.status ≡ true → scan place bits (x ∷ ys) ≡ option_map suc (scan place bits ys)
  scan-gone x ys gone =
      position-next (may_run place bits (x ∷ ys)) (0, x) (enumerate_from (0 + 1) ys) (and_left (is_waiting x.status) (not (list_any (λ d. holds_back place bits d x) (take 0 (x ∷ ys)))) (not_waiting x.status gone))
      ∙ ap (option_map suc) (position-shifted (may_run place bits (x ∷ ys)) (may_run place bits ys) 0 ys (may_run-shifted x ys gone))

  -- entries at the front that are gone only move what is found
  pub gone_beginnings_do_not_matter : (xs ys : List Entry) → All (λ (x : Entry). is_gone x.status ≡ true) xs
      → scan place bits (xs ++ ys) ≡ option_map (λ i. length xs + i) (scan place bits ys)
  gone_beginnings_do_not_matter [] ys gone = moved_by_none (scan place bits ys)
  gone_beginnings_do_not_matter (x ∷ xs) ys gone =
      scan-gone x (xs ++ ys) (gone 0 x (omega arith))
      ∙ (ap (option_map suc) (gone_beginnings_do_not_matter xs ys (λ k d l. gone (suc k) d (omega (arith, l)))) ∙ moved_twice (length xs) (scan place bits ys))
