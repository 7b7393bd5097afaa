-- The tickets of the window stay those that are left, where a call enters, begins to run and is gone.
use Rattle.std.proofs.Common.{◌≡◌, ℕ, zero, suc, ◌+◌, ◌<◌, ◌≤◌, Bool, true, false, not, ◌&&◌, ◌==◌, cond, List, [], ◌∷◌, ◌++◌, length, take, All, refl, sym, ap, ap₂, ◌∙◌, subst, arith, slice_get, slice_set, get_or, Some, zero-add, length-set, length-append, get_or-set_same, get_or-set_other, eq-eqb, ne_eqb, inl, inr}
use Rattle.vll_core.proofs.Common.{filter, position_or_len, range_with_len, cases_eq, nat_tests, get_or-drop, get_or_append_left, get_or_default, All-filter, All-push, filter-append, filter_agree, filter_passes, FiltersInPlace, position_or_len_push, length-range_with_len, get_or-range_with_len, fails_before_first, passes_at_first, prefix_len-le-length, slice_get_within, get_or_from_slice_get, get_or-append_seam, Status, Running, Waiting, Gone, is_gone, is_left, is_left_at, left_among, first_left, HasLeft}
use Rattle.std.proofs.Math.Bool.{and-true}

-- ---- what passes a test, and the first that does

-- what passes one test and then the other
filter_twice : (p q : ℕ → Bool) (ts : List ℕ) → filter (λ (t : ℕ). p t && q t) ts ≡ filter q (filter p ts)
filter_twice p q [] = refl
filter_twice p q (t ∷ ts) = by_test (p t) (filter_twice p q ts)
  where
    by_test : (b : Bool) → filter (λ (u : ℕ). p u && q u) ts ≡ filter q (filter p ts)
        → cond (b && q t) (t ∷ filter (λ (u : ℕ). p u && q u) ts) (filter (λ (u : ℕ). p u && q u) ts) ≡ filter q (cond b (t ∷ filter p ts) (filter p ts))
    by_test true rest = ap (λ (us : List ℕ). cond (q t) (t ∷ us) us) rest
    by_test false rest = rest

and_self : (b : Bool) → b ≡ (b && b)
and_self true = refl
and_self false = refl

filter_again : (p : ℕ → Bool) (ts : List ℕ) → filter p (filter p ts) ≡ filter p ts
filter_again p ts = sym (filter_twice p p ts) ∙ sym (filter_agree p (λ (t : ℕ). p t && p t) (λ (t : ℕ). and_self (p t)) ts)

pub length-filter-le : (p : ℕ → Bool) (ts : List ℕ) → length (filter p ts) ≤ length ts
length-filter-le p [] = omega arith
length-filter-le p (t ∷ ts) = by_test (p t) (length-filter-le p ts)
  where
    by_test : (b : Bool) → length (filter p ts) ≤ length ts → length (cond b (t ∷ filter p ts) (filter p ts)) ≤ suc (length ts)
    by_test true rest = omega (arith, rest)
    by_test false rest = omega (arith, rest)

module _ (p q : ℕ → Bool) (n : ℕ) (same : (t : ℕ) → t < n → p t ≡ q t) where
  -- tests that agree below a number
  filter_below : (ts : List ℕ) → All (λ (t : ℕ). t < n) ts → filter p ts ≡ filter q ts
  filter_below [] below = refl
  filter_below (t ∷ ts) below =
      ap₂ (λ (b : Bool) (us : List ℕ). cond b (t ∷ us) us) (same t (below 0 t (omega arith))) (filter_below ts (λ k d within. below (suc k) d (omega (arith, within))))

  first_below : (ts : List ℕ) → All (λ (t : ℕ). t < n) ts → position_or_len p ts ≡ position_or_len q ts
  first_below [] below = refl
  first_below (t ∷ ts) below =
      ap₂ (λ (b : Bool) (k : ℕ). cond (not b) (1 + k) 0) (same t (below 0 t (omega arith))) (first_below ts (λ k d within. below (suc k) d (omega (arith, within))))

first_agree : (p q : ℕ → Bool) → ((t : ℕ) → p t ≡ q t) → (ts : List ℕ) → position_or_len p ts ≡ position_or_len q ts
first_agree p q same [] = refl
first_agree p q same (t ∷ ts) = ap₂ (λ (b : Bool) (k : ℕ). cond (not b) (1 + k) 0) (same t) (first_agree p q same ts)

-- the first that passes a second test too is no earlier
first_later : (p q : ℕ → Bool) (ts : List ℕ) → position_or_len p ts ≤ position_or_len (λ (t : ℕ). p t && q t) ts
first_later p q [] = omega arith
first_later p q (t ∷ ts) = by_test (p t) (q t) (first_later p q ts)
  where
    by_test : (b c : Bool) → position_or_len p ts ≤ position_or_len (λ (u : ℕ). p u && q u) ts
        → cond (not b) (1 + position_or_len p ts) 0 ≤ cond (not (b && c)) (1 + position_or_len (λ (u : ℕ). p u && q u) ts) 0
    by_test true c rest = omega arith
    by_test false c rest = omega (arith, rest)

-- the first that passes stands first among those that do
pub first_is_head : (p : ℕ → Bool) (ts : List ℕ) → slice_get ts (position_or_len p ts) ≡ slice_get (filter p ts) 0
first_is_head p [] = refl
first_is_head p (t ∷ ts) = by_test (p t) (first_is_head p ts)
  where
    by_test : (b : Bool) → slice_get ts (position_or_len p ts) ≡ slice_get (filter p ts) 0
        → slice_get (t ∷ ts) (cond (not b) (1 + position_or_len p ts) 0) ≡ slice_get (cond b (t ∷ filter p ts) (filter p ts)) 0
    by_test true rest = refl
    by_test false rest = ap (slice_get (t ∷ ts)) (let next : 1 + position_or_len p ts ≡ suc (position_or_len p ts) = omega arith in next) ∙ rest

-- what fails is not the first that passes
pub first_past : (p : ℕ → Bool) (ts : List ℕ) (k d : ℕ) → k ≤ position_or_len p ts → k < length ts → p (get_or ts k d) ≡ false → k + 1 ≤ position_or_len p ts
first_past p ts k d before within fails = grind (arith, passes_at_first p ts d)

-- what passes is the first that does, where all before it fail
pub first_here : (p : ℕ → Bool) (ts : List ℕ) (k d : ℕ) → k ≤ position_or_len p ts → k < length ts → p (get_or ts k d) ≡ true → k ≡ position_or_len p ts
first_here p ts k d before within passes = grind (arith, fails_before_first p ts k d)

pub first_within : (p : ℕ → Bool) (ts : List ℕ) → position_or_len p ts ≤ length ts
first_within p ts = prefix_len-le-length (λ (t : ℕ). not (p t)) ts

-- nothing before the first passes
none_before : (p : ℕ → Bool) (ts : List ℕ) → [] ≡ filter p (take (position_or_len p ts) ts)
none_before p [] = refl
none_before p (t ∷ ts) = by_test (p t) refl (none_before p ts)
  where
    by_test : (b : Bool) → p t ≡ b → [] ≡ filter p (take (position_or_len p ts) ts) → [] ≡ filter p (take (cond (not b) (1 + position_or_len p ts) 0) (t ∷ ts))
    by_test true is rest = refl
    by_test false is rest =
        rest
        ∙ sym
        (ap (λ (k : ℕ). filter p (take k (t ∷ ts))) (let next : 1 + position_or_len p ts ≡ suc (position_or_len p ts) = omega arith in next)
        ∙ ap (λ (b : Bool). cond b (t ∷ filter p (take (position_or_len p ts) ts)) (filter p (take (position_or_len p ts) ts))) is)

-- what passes is gathered from the first on
pub gathers_from_first : (p : ℕ → Bool) (ts : List ℕ) (first : ℕ) → first ≡ position_or_len p ts → FiltersInPlace p ts ts 0 first
gathers_from_first p ts first is = record {
  front = none_before p ts ∙ ap (λ (k : ℕ). filter p (take k ts)) (sym is);
  rest = refl;
  behind = omega arith;
  within = let le = first_within p ts in omega (arith, is, le);
  long = refl;
}

-- where all pass, the first is at the front
all_pass : (p : ℕ → Bool) (ts : List ℕ) → All (λ (t : ℕ). p t ≡ true) ts → 0 ≡ position_or_len p ts
all_pass p [] all = refl
all_pass p (t ∷ ts) all = sym (ap (λ (b : Bool). cond (not b) (1 + position_or_len p ts) 0) (all 0 t (omega arith)))

-- ---- all tickets

tickets_below : (n : ℕ) → All (λ (t : ℕ). t < n) (range_with_len 0 n)
tickets_below n k d within =
    let inside : k < n = omega (arith, within, length-range_with_len 0 n) in
    let here : get_or (range_with_len 0 n) k d ≡ 0 + k = get_or-range_with_len 0 n k d inside in
    omega (arith, here, inside)

one_ticket_more : (a n : ℕ) → range_with_len a (suc n) ≡ range_with_len a n ++ (a + n) ∷ []
one_ticket_more a zero = ap (λ (k : ℕ). k ∷ []) (let same : a ≡ a + 0 = omega arith in same)
one_ticket_more a (suc n) =
    ap (λ (ts : List ℕ). a ∷ ts) (one_ticket_more (a + 1) n ∙ ap (λ (k : ℕ). range_with_len (a + 1) n ++ k ∷ []) (let same : (a + 1) + n ≡ a + suc n = omega arith in same))

-- ---- where a status is read

-- whether a call is left
pub left_read : (ss : List Status) (t : ℕ) (d : Status) (gone : Bool) → t < length ss → gone ≡ is_gone (get_or ss t d) → is_left_at ss t ≡ not gone
left_read ss t d gone within is = ap is_left (get_or_default ss t Gone d within) ∙ ap not (sym is)

-- what is gathered later stands where it stood
pub still_there : (p : ℕ → Bool) (ts us : List ℕ) (k i : ℕ) → FiltersInPlace p ts us k i → get_or us i 0 ≡ get_or ts i 0
still_there p ts us k i h =
    ap (λ (n : ℕ). get_or us n 0) same ∙ (sym (get_or-drop i us 0 0) ∙ (ap (λ (vs : List ℕ). get_or vs 0 0) h.rest ∙ (get_or-drop i ts 0 0 ∙ ap (λ (n : ℕ). get_or ts n 0) (sym same))))
  where
    same : i ≡ i + 0
    same = omega arith

-- ---- where a status changes

and_false : (b : Bool) → false ≡ (b && false)
and_false true = refl
and_false false = refl

-- where a call is gone, those that are left are the others
gone_at : (ss : List Status) (t u : ℕ) → t < length ss → is_left_at (slice_set ss t Gone) u ≡ (is_left_at ss u && not (u == t))
gone_at ss t u within =
    elim (cases_eq u t) [
      | inl same ↦
          ap is_left (ap (λ (k : ℕ). get_or (slice_set ss t Gone) k Gone) same ∙ get_or-set_same ss t Gone Gone within)
          ∙ (and_false (is_left_at ss u) ∙ ap (λ (b : Bool). is_left_at ss u && not b) (sym (eq-eqb u t same)))
      | inr other ↦
          ap is_left (get_or-set_other ss t u Gone Gone other)
          ∙ (sym (and-true (is_left_at ss u)) ∙ ap (λ (b : Bool). is_left_at ss u && not b) (sym (ne_eqb u t other)))
    ]

-- where a call that is left gets another status of one that is left, the same are left
left_still : (ss : List Status) (t u : ℕ) (old new : Status) → slice_get ss t ≡ Some old → is_left new ≡ is_left old → is_left_at (slice_set ss t new) u ≡ is_left_at ss u
left_still ss t u old new at same_test =
    elim (cases_eq u t) [
      | inl same ↦
          ap is_left (ap (λ (k : ℕ). get_or (slice_set ss t new) k Gone) same ∙ get_or-set_same ss t new Gone (slice_get_within ss t old at))
          ∙ (same_test ∙ ap is_left (sym (get_or_from_slice_get ss t old Gone at) ∙ ap (λ (k : ℕ). get_or ss k Gone) (sym same)))
      | inr other ↦ ap is_left (get_or-set_other ss t u new Gone other)
    ]

-- tickets among which fewer are left, or the same
fewer_left : (ss rs : List Status) (ts : List ℕ) (q : ℕ → Bool) → length rs ≡ length ss → ((t : ℕ) → is_left_at rs t ≡ (is_left_at ss t && q t)) → HasLeft ss ts → HasLeft rs ts
fewer_left ss rs ts q long are h = record {
  few = omega (arith, h.few, long);
  below = subst (λ (n : ℕ). All (λ (t : ℕ). t < n) ts) (sym long) h.below;
  left =
      of_left ts
      ∙ (ap (filter q) h.left ∙ (sym (of_left (range_with_len 0 (length ss))) ∙ ap (λ (n : ℕ). left_among rs (range_with_len 0 n)) (sym long)));
}
  where
    of_left : (us : List ℕ) → left_among rs us ≡ filter q (left_among ss us)
    of_left us = filter_agree (is_left_at rs) (λ (t : ℕ). is_left_at ss t && q t) are us ∙ filter_twice (is_left_at ss) q us

-- a call that waited runs
pub left_started : (ss : List Status) (ts : List ℕ) (t : ℕ) → slice_get ss t ≡ Some Waiting → HasLeft ss ts → HasLeft (slice_set ss t Running) ts
left_started ss ts t at h =
    fewer_left ss (slice_set ss t Running) ts (λ (u : ℕ). true) (length-set ss t Running)
    (λ (u : ℕ). left_still ss t u Waiting Running at refl ∙ sym (and-true (is_left_at ss u))) h

pub first_started : (ss : List Status) (ts : List ℕ) (t : ℕ) → slice_get ss t ≡ Some Waiting → first_left ss ts ≡ first_left (slice_set ss t Running) ts
first_started ss ts t at =
    first_agree (is_left_at ss) (is_left_at (slice_set ss t Running)) (λ (u : ℕ). sym (left_still ss t u Waiting Running at refl)) ts

-- a call is gone
pub left_finished : (ss : List Status) (ts : List ℕ) (t : ℕ) → t < length ss → HasLeft ss ts → HasLeft (slice_set ss t Gone) ts
left_finished ss ts t within h =
    fewer_left ss (slice_set ss t Gone) ts (λ (u : ℕ). not (u == t)) (length-set ss t Gone) (λ (u : ℕ). gone_at ss t u within) h

pub first_finished : (ss : List Status) (ts : List ℕ) (t : ℕ) → t < length ss → first_left ss ts ≤ first_left (slice_set ss t Gone) ts
first_finished ss ts t within =
    let later = first_later (is_left_at ss) (λ (u : ℕ). not (u == t)) ts in
    let same = first_agree (is_left_at (slice_set ss t Gone)) (λ (u : ℕ). is_left_at ss u && not (u == t)) (λ (u : ℕ). gone_at ss t u within) ts in
    omega (arith, later, same)

-- a call enters that is left
module _ (ss : List Status) (s : Status) (left : is_left s ≡ true) where
  older_same : (t : ℕ) → t < length ss → is_left_at (ss ++ s ∷ []) t ≡ is_left_at ss t
  older_same t within = ap is_left (get_or_append_left ss (s ∷ []) Gone t within)

  newest_left : is_left_at (ss ++ s ∷ []) (length ss) ≡ true
  newest_left = ap is_left (get_or-append_seam ss s [] Gone) ∙ left

  left_pushed : (ts : List ℕ) → All (λ (t : ℕ). t < length ss) ts → left_among (ss ++ s ∷ []) (ts ++ length ss ∷ []) ≡ left_among ss ts ++ length ss ∷ []
  left_pushed ts below =
      filter-append (is_left_at (ss ++ s ∷ [])) ts (length ss ∷ [])
      ∙ ap₂ (λ (us vs : List ℕ). us ++ vs) (filter_below (is_left_at (ss ++ s ∷ [])) (is_left_at ss) (length ss) older_same ts below)
      (ap (λ (b : Bool). cond b (length ss ∷ []) []) newest_left)

  pub left_entered : (ts : List ℕ) → HasLeft ss ts → HasLeft (ss ++ s ∷ []) (ts ++ length ss ∷ [])
  left_entered ts h =
      let long : length (ss ++ s ∷ []) ≡ length ss + 1 = length-append ss (s ∷ []) in
      let next : length (ss ++ s ∷ []) ≡ suc (length ss) = omega (arith, long) in
      record {
        few = let more = length-append ts (length ss ∷ []) in omega (arith, h.few, long, more);
        below = All-push (λ (t : ℕ). t < length (ss ++ s ∷ [])) ts (length ss) (λ k d within. let low = h.below k d within in omega (arith, low, long)) (omega (arith, long));
        left =
            left_pushed ts h.below
            ∙ (ap (λ (us : List ℕ). us ++ length ss ∷ []) h.left
            ∙ (sym (left_pushed (range_with_len 0 (length ss)) (tickets_below (length ss)))
            ∙ ap (left_among (ss ++ s ∷ [])) (sym (ap (range_with_len 0) next ∙ (one_ticket_more 0 (length ss) ∙ ap (λ (n : ℕ). range_with_len 0 (length ss) ++ n ∷ []) (zero-add (length ss)))))));
      }

  pub first_entered : (ts : List ℕ) → All (λ (t : ℕ). t < length ss) ts → first_left ss ts ≡ first_left (ss ++ s ∷ []) (ts ++ length ss ∷ [])
  first_entered ts below =
      let same = first_below (is_left_at (ss ++ s ∷ [])) (is_left_at ss) (length ss) older_same ts below in
      sym same ∙ pushed (is_left_at (ss ++ s ∷ [])) ts (length ss) newest_left
    where
      pushed : (p : ℕ → Bool) (us : List ℕ) (u : ℕ) → p u ≡ true → position_or_len p us ≡ position_or_len p (us ++ u ∷ [])
      pushed p us u passes = grind (arith, nat_tests, position_or_len_push p us u, passes)

-- tickets whose calls are gone are dropped
pub left_dropped : (ss : List Status) (ts : List ℕ) → HasLeft ss ts → HasLeft ss (left_among ss ts)
left_dropped ss ts h = record {
  few = let fewer = length-filter-le (is_left_at ss) ts in omega (arith, h.few, fewer);
  below = All-filter (is_left_at ss) (λ (t : ℕ). t < length ss) ts h.below;
  left = filter_again (is_left_at ss) ts ∙ h.left;
}

pub first_dropped : (ss : List Status) (ts : List ℕ) → 0 ≡ first_left ss (left_among ss ts)
first_dropped ss ts = all_pass (is_left_at ss) (left_among ss ts) (filter_passes (is_left_at ss) ts)
