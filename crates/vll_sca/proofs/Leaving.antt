-- Entries that are gone can be left out of a scan wherever they are: it finds the same entry.
use Rattle.std.proofs.Common.{◌≡◌, ℕ, suc, ◌+◌, Bool, true, false, not, ◌&&◌, ◌||◌, cond, List, [], ◌∷◌, map, take, slice_get, Option, Some, None, option_map, position, refl, sym, ap, ap₂, ◌∙◌}
use Rattle.vll_sca.proofs.Common.{and_left, list_any, enumerate_from, filter, Entry, is_waiting, is_gone, holds_back, scan_numbered}
use Rattle.vll_sca.proofs.Scanning.{Shifted, position-first, position-next, position-shifted, gone_holds_none_back, not_waiting}

or_joined : (a b c : Bool) → (a || (b || c)) ≡ ((a || b) || c)
or_joined true b c = refl
or_joined false b c = refl

module _ (place : ℕ → ℕ) (bits : ℕ) where
  -- the entry at place i may run, if those for which `held` is true are held back from the start
  abbrev may_run_past : (Entry → Bool) → List Entry → ℕ × Entry → Bool
  may_run_past held entries (i, e) = is_waiting e.status && not (held e || list_any (λ d. holds_back place bits d e) (take i entries))

  -- which entries are held back once an entry is passed
  abbrev pub past : (Entry → Bool) → Entry → Entry → Bool
  past held e d = held d || holds_back place bits e d

  abbrev entries_of : List (ℕ × Entry) → List Entry
  entries_of xs = map (λ x. x.1) xs

  abbrev left_of : List (ℕ × Entry) → List (ℕ × Entry)
  left_of xs = filter (λ x. not (is_gone x.1.status)) xs

  -- the number of the first entry that may run, by recursion
  abbrev pub first_number : (Entry → Bool) → List (ℕ × Entry) → Option ℕ
  first_number held [] = None
  first_number held ((n, e) ∷ xs) = cond (is_waiting e.status && not (held e || false)) (Some n) (first_number (past held e) xs)

  abbrev number_at : List (ℕ × Entry) → Option ℕ → Option ℕ
  number_at xs o = elim o [ None ↦ None | Some i ↦ slice_get (map (λ (x : ℕ × Entry). x.0) xs) i ]

  one_later : (x : ℕ × Entry) (xs : List (ℕ × Entry)) (o : Option ℕ) → number_at (x ∷ xs) (option_map suc o) ≡ number_at xs o
  one_later x xs None = refl
  one_later x xs (Some i) = refl

  past_shifted : (held : Entry → Bool) (e : Entry) (es : List Entry)
      → Shifted (may_run_past held (e ∷ es)) (may_run_past (past held e) es)
  past_shifted held e es i d =
      ap (λ (b : Bool). is_waiting d.status && not b) (or_joined (held d) (holds_back place bits e d) (list_any (λ c. holds_back place bits c d) (take i es)))

  -- the recursion finds the number of what a scan finds
  pub first_is_scanned : (held : Entry → Bool) (xs : List (ℕ × Entry))
      → number_at xs (position (may_run_past held (entries_of xs)) (enumerate_from 0 (entries_of xs))) ≡ first_number held xs
  first_is_scanned held [] = refl
  first_is_scanned held ((n, e) ∷ xs) = step (first_is_scanned (past held e) xs) (may_run_past held (entries_of ((n, e) ∷ xs)) (0, e)) refl
    where
      step : number_at xs (position (may_run_past (past held e) (entries_of xs)) (enumerate_from 0 (entries_of xs))) ≡ first_number (past held e) xs → (b : Bool) → may_run_past held (e ∷ entries_of xs) (0, e) ≡ b
          → number_at ((n, e) ∷ xs) (position (may_run_past held (e ∷ entries_of xs)) (enumerate_from 0 (e ∷ entries_of xs))) ≡ cond (may_run_past held (e ∷ entries_of xs) (0, e)) (Some n) (first_number (past held e) xs)
      step rest true is =
          ap (number_at ((n, e) ∷ xs)) (position-first (may_run_past held (e ∷ entries_of xs)) (0, e) (enumerate_from (0 + 1) (entries_of xs)) is)
          ∙ sym (ap (λ (b : Bool). cond b (Some n) (first_number (past held e) xs)) is)
      step rest false is =
          ap (number_at ((n, e) ∷ xs))
          (position-next (may_run_past held (e ∷ entries_of xs)) (0, e) (enumerate_from (0 + 1) (entries_of xs)) is
          ∙ ap (option_map suc) (position-shifted (may_run_past held (e ∷ entries_of xs)) (may_run_past (past held e) (entries_of xs)) 0 (entries_of xs) (past_shifted held e (entries_of xs))))
          ∙ (one_later (n, e) xs (position (may_run_past (past held e) (entries_of xs)) (enumerate_from 0 (entries_of xs)))
          ∙ (rest ∙ sym (ap (λ (b : Bool). cond b (Some n) (first_number (past held e) xs)) is)))

  -- two tests that hold back the same entries find the same number
  pub held_alike : (h k : Entry → Bool) (xs : List (ℕ × Entry)) → ((d : Entry) → h d ≡ k d) → first_number h xs ≡ first_number k xs
  held_alike h k [] same = refl
  held_alike h k ((n, e) ∷ xs) same =
      ap₂ (λ (b : Bool) (o : Option ℕ). cond (is_waiting e.status && not (b || false)) (Some n) o) (same e)
      (held_alike (past h e) (past k e) xs (λ d. ap (λ (b : Bool). b || holds_back place bits e d) (same d)))

  or_none : (a b : Bool) → b ≡ false → a ≡ (a || b)
  or_none true b none = refl
  or_none false b none = sym none

  left_out : (held : Entry → Bool) (xs : List (ℕ × Entry)) → first_number held (left_of xs) ≡ first_number held xs
  left_out held [] = refl
  left_out held ((n, e) ∷ xs) = step (left_out held xs) (left_out (past held e) xs) (is_gone e.status) refl
    where
      step : first_number held (left_of xs) ≡ first_number held xs → first_number (past held e) (left_of xs) ≡ first_number (past held e) xs → (b : Bool) → is_gone e.status ≡ b
          → first_number held (cond (not (is_gone e.status)) ((n, e) ∷ left_of xs) (left_of xs)) ≡ cond (is_waiting e.status && not (held e || false)) (Some n) (first_number (past held e) xs)
      step same same_later true is =
          ap (λ (b : Bool). first_number held (cond (not b) ((n, e) ∷ left_of xs) (left_of xs))) is
          ∙ (same
          ∙ (held_alike held (past held e) xs (λ d. or_none (held d) (holds_back place bits e d) (gone_holds_none_back place bits e d is))
          ∙ sym (ap (λ (b : Bool). cond b (Some n) (first_number (past held e) xs)) (and_left (is_waiting e.status) (not (held e || false)) (not_waiting e.status is)))))
      step same same_later false is =
          ap (λ (b : Bool). first_number held (cond (not b) ((n, e) ∷ left_of xs) (left_of xs))) is
          ∙ ap (λ (o : Option ℕ). cond (is_waiting e.status && not (held e || false)) (Some n) o) same_later

  -- entries that are gone can be left out
  pub gone_entries_do_not_matter : (numbered : List (ℕ × Entry))
      → scan_numbered place bits (left_of numbered) ≡ scan_numbered place bits numbered
  gone_entries_do_not_matter numbered =
      first_is_scanned (λ d. false) (left_of numbered)
      ∙ (left_out (λ d. false) numbered ∙ sym (first_is_scanned (λ d. false) numbered))
