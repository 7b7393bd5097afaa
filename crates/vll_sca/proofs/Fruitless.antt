-- A scan that finds nothing still finds nothing once a waiting entry runs, or once one that does not wait is added at
-- the end.
use Rattle.std.proofs.Common.{◌≡◌, ℕ, zero, suc, Bool, true, false, not, ◌&&◌, ◌||◌, cond, List, [], ◌∷◌, ◌++◌, slice_get, slice_set, Option, Some, None, refl, sym, ap, ◌∙◌, subst}
use Rattle.vll_sca.proofs.Common.{true≢false, none-some, same_Some, Entry, Status, Running, Waiting, is_waiting, is_gone, hash_conflict, scan_numbered}
use Rattle.vll_sca.proofs.Leaving.{past, first_number, first_is_scanned, held_alike}

-- an entry that runs
abbrev pub running : Entry → Entry
running e = record { claims = e.claims; status = Running }

none_behind : (b : Bool) (n : ℕ) (o : Option ℕ) → cond b (Some n) o ≡ None → o ≡ None
none_behind true n o none = absurd (none-some n (sym none))
none_behind false n o none = none

none_with : (b : Bool) (n : ℕ) (o p : Option ℕ) → (o ≡ None → p ≡ None) → cond b (Some n) o ≡ None → cond b (Some n) p ≡ None
none_with true n o p later none = absurd (none-some n (sym none))
none_with false n o p later none = later none

left_while_waiting : (s : Status) → is_waiting s ≡ true → true ≡ not (is_gone s)
left_while_waiting Waiting waits = refl
left_while_waiting other waits = absurd (true≢false (sym waits))

module _ (place : ℕ → ℕ) (bits : ℕ) where
  -- an entry holds back the same entries while it waits and while it runs
  past_running : (held : Entry → Bool) (e d : Entry) → is_waiting e.status ≡ true → past place bits held (running e) d ≡ past place bits held e d
  past_running held e d waits = ap (λ (b : Bool). held d || (b && hash_conflict place bits e d)) (left_while_waiting e.status waits)

  pushed : (held : Entry → Bool) (xs : List (ℕ × Entry)) (n : ℕ) (e : Entry) → is_waiting e.status ≡ false
      → first_number place bits held xs ≡ None → first_number place bits held (xs ++ (n, e) ∷ []) ≡ None
  pushed held [] n e idle none = ap (λ (b : Bool). cond (b && not (held e || false)) (Some n) None) idle
  pushed held ((m, d) ∷ xs) n e idle none =
      none_with (is_waiting d.status && not (held d || false)) m (first_number place bits (past place bits held d) xs) (first_number place bits (past place bits held d) (xs ++ (n, e) ∷ []))
      (pushed (past place bits held d) xs n e idle) none

  started : (held : Entry → Bool) (xs : List (ℕ × Entry)) (i n : ℕ) (e : Entry) → slice_get xs i ≡ Some (n, e) → is_waiting e.status ≡ true
      → first_number place bits held xs ≡ None → first_number place bits held (slice_set xs i (n, running e)) ≡ None
  started held [] i n e at waits none = none
  started held ((m, d) ∷ xs) zero n e at waits none =
      let here : (m, d) ≡ (n, e) = same_Some (m, d) (n, e) at in
      let rest : first_number place bits (past place bits held e) xs ≡ None =
      none_behind (is_waiting e.status && not (held e || false)) n (first_number place bits (past place bits held e) xs)
      (subst (λ (x : ℕ × Entry). first_number place bits held (x ∷ xs) ≡ None) here none)
      in
      held_alike place bits (past place bits held (running e)) (past place bits held e) xs (λ c. past_running held e c waits) ∙ rest
  started held ((m, d) ∷ xs) (suc i) n e at waits none =
      none_with (is_waiting d.status && not (held d || false)) m (first_number place bits (past place bits held d) xs) (first_number place bits (past place bits held d) (slice_set xs i (n, running e)))
      (started (past place bits held d) xs i n e at waits) none

  -- one more that does not wait is added at the end
  pub none_after_push : (xs : List (ℕ × Entry)) (n : ℕ) (e : Entry) → is_waiting e.status ≡ false
      → scan_numbered place bits xs ≡ None → scan_numbered place bits (xs ++ (n, e) ∷ []) ≡ None
  none_after_push xs n e idle none =
      first_is_scanned place bits (λ d. false) (xs ++ (n, e) ∷ [])
      ∙ pushed (λ d. false) xs n e idle (sym (first_is_scanned place bits (λ d. false) xs) ∙ none)

  -- one that waited runs
  pub none_after_start : (xs : List (ℕ × Entry)) (i n : ℕ) (e : Entry) → slice_get xs i ≡ Some (n, e) → is_waiting e.status ≡ true
      → scan_numbered place bits xs ≡ None → scan_numbered place bits (slice_set xs i (n, running e)) ≡ None
  none_after_start xs i n e at waits none =
      first_is_scanned place bits (λ d. false) (slice_set xs i (n, running e))
      ∙ started (λ d. false) xs i n e at waits (sym (first_is_scanned place bits (λ d. false) xs) ∙ none)
