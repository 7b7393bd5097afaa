-- The first entry that may run, as a loop over the entries finds it by the marks.
use Rattle.std.proofs.Common.{◌≡◌, ℕ, ◌+◌, ◌<◌, ◌≤◌, Bool, true, false, not, ◌&&◌, List, [], length, map, take, get_or, Option, Some, None, unwrap_or, sym, ap, ◌∙◌, zero-add, arith, lt-ltb, le-ltb, inl, inr}
use Rattle.vll_sca.proofs.Common.{list_any, enumerate_from, position_or_len, cases_eq, cond-true, cond-false, get_or_default, length-enumerate_from, get_or-enumerate_from, Entry, ClaimMarks, Gone, is_waiting, hashed, may_run, scan, HasRoom, IsClear, meets, with_claims, claims_left}
use Rattle.std.proofs.lemmas.List.Sums.{position_or_len_is}
use Rattle.vll_sca.proofs.Meeting.{meets_is_held}
use Rattle.vll_sca.proofs.Scanning.{scanned_within}

module _ (place : ℕ → ℕ) (bits : ℕ) (entries : List Entry) where
  -- none of the first i entries may run
  abbrev pub NoneBefore : ℕ → Type 0
  NoneBefore i = (k : ℕ) (d : Entry) → k < i → may_run place bits entries (k, get_or entries k d) ≡ false

  enumerated : (k : ℕ) (d : ℕ × Entry) → k < length entries → get_or (enumerate_from 0 entries) k d ≡ (k, get_or entries k d.1)
  enumerated k d within = get_or-enumerate_from 0 entries k d within ∙ ap (λ (n : ℕ). (n, get_or entries k d.1)) (zero-add k)

  -- the place of the first that may run, from what a loop knows when it ends
  first_is : (i : ℕ) (e : Entry) → i ≤ length entries → NoneBefore i → (i < length entries → may_run place bits entries (i, get_or entries i e) ≡ true)
      → position_or_len (may_run place bits entries) (enumerate_from 0 entries) ≡ i
  first_is i e within none here =
      position_or_len_is (may_run place bits entries) (enumerate_from 0 entries) i (0, e) (rw length-enumerate_from within)
      (λ k below. ap (may_run place bits entries) (enumerated k (0, e) (omega (arith, below, within))) ∙ none k e below)
      (λ inside. let there : i < length entries = rw length-enumerate_from at inside in ap (may_run place bits entries) (enumerated i (0, e) there) ∙ here there)

  pub found_here : (i : ℕ) (e : Entry) → i < length entries → e ≡ get_or entries i e → NoneBefore i → may_run place bits entries (i, e) ≡ true
      → Some i ≡ scan place bits entries
  found_here i e within here none runs =
      let first = first_is i e (omega arith) none (λ _. ap (λ (d : Entry). may_run place bits entries (i, d)) (sym here) ∙ runs) in
      sym (rw (first, length-enumerate_from 0 entries) (cond-true _ _ _ (lt-ltb i (length entries) within)))

  pub none_found : (i : ℕ) → length entries ≤ i → i ≤ length entries → NoneBefore i → None ≡ scan place bits entries
  none_found i past within none =
      let no_entry : Entry = record { claims = []; status = Gone } in
      let first = first_is i no_entry within none (λ inside. absurd (omega (arith, inside, past))) in
      sym (rw (first, length-enumerate_from 0 entries) (cond-false _ _ _ (le-ltb i (length entries) past)))

  pub none_before_next : (i : ℕ) (e : Entry) → i < length entries → e ≡ get_or entries i e → NoneBefore i → may_run place bits entries (i, e) ≡ false → NoneBefore (i + 1)
  none_before_next i e within here none not_here k d below =
      elim (cases_eq k i) [
        | inl same ↦
            rw same
            (ap (λ (x : Entry). may_run place bits entries (i, x)) (get_or_default entries i d e within ∙ sym here) ∙ not_here)
        | inr other ↦ none k d (omega arith)
      ]

  -- an entry that waits, and whose claims meet no mark of the entries before it, may run; and no other
  pub clear_may_run : (i : ℕ) (e : Entry) (before m : ClaimMarks) (clear : Bool) → IsClear before → HasRoom bits before
      → m ≡ with_claims true (map (hashed place bits) (claims_left (take i entries))) before
      → clear ≡ (is_waiting e.status && not (list_any (meets m) (map (hashed place bits) e.claims))) → clear ≡ may_run place bits entries (i, e)
  clear_may_run i e before m clear none_marked room so_far is =
      is ∙ ap (λ met. is_waiting e.status && not met)
      (ap (λ n. list_any (meets n) (map (hashed place bits) e.claims)) so_far ∙ meets_is_held place bits (take i entries) e before none_marked room)

  -- what a scan passes is within the entries
  pub passed_within : (found : Option ℕ) → found ≡ scan place bits entries → unwrap_or found (length entries) ≤ length entries
  passed_within None is = omega arith
  passed_within (Some i) is = let below : i < length entries = scanned_within place bits entries i (sym is) in omega arith
