-- What the contention analysis reads of the calls of tickets, and what it finds among them.
use Rattle.std.proofs.Common.{◌≡◌, ℕ, zero, suc, Bool, true, false, not, cond, List, [], ◌∷◌, length, map, refl, sym, ap, ap₂, ◌∙◌, arith, slice_get, get_or, Option, Some, None, zero-add}
use Rattle.vll_core.proofs.Common.{filter, enumerate_from, range_with_len, option_map, fill_by_all, length-enumerate_from, get_or-enumerate_from, none-some, same_Some, slice_get-map, get_or_from_slice_get, Entry, Status, Gone, is_gone, scan, scan_numbered, Line, seen, is_left_at, left_among, entry_at, entries_at, numbered}
use Rattle.vll_core.proofs.Analysed.{seen_length}

-- ---- the entry of a ticket

entry_status : (ls : List Line) (ss : List Status) (t : ℕ) → length ls ≡ length ss → (entry_at ls ss t).status ≡ get_or ss t Gone
entry_status [] [] t same = refl
entry_status [] (s ∷ ss) t same = absurd (omega (arith, same))
entry_status (l ∷ ls) [] t same = absurd (omega (arith, same))
entry_status (l ∷ ls) (s ∷ ss) zero same = refl
entry_status (l ∷ ls) (s ∷ ss) (suc t) same = entry_status ls ss t (omega (arith, same))

entry_claims : (ls : List Line) (ss : List Status) (t : ℕ) (l : Line) → length ls ≡ length ss → slice_get ls t ≡ Some l → (entry_at ls ss t).claims ≡ l.call.claims
entry_claims [] ss t l same at = absurd (none-some l at)
entry_claims (k ∷ ls) [] t l same at = absurd (omega (arith, same))
entry_claims (k ∷ ls) (s ∷ ss) zero l same at = ap (λ (m : Line). m.call.claims) (same_Some k l at)
entry_claims (k ∷ ls) (s ∷ ss) (suc t) l same at = entry_claims ls ss t l (omega (arith, same)) at

pub status_at : (ls : List Line) (ss : List Status) (ts : List ℕ) (i t : ℕ) (s : Status) → length ls ≡ length ss → slice_get ts i ≡ Some t → slice_get ss t ≡ Some s
    → option_map (λ (e : Entry). e.status) (slice_get (entries_at ls ss ts) i) ≡ Some s
status_at ls ss ts i t s same ticket at =
    ap (option_map (λ (e : Entry). e.status)) (slice_get-map (entry_at ls ss) ts i ∙ ap (option_map (entry_at ls ss)) ticket)
    ∙ ap Some (entry_status ls ss t same ∙ get_or_from_slice_get ss t s Gone at)

pub claims_at : (ls : List Line) (ss : List Status) (ts : List ℕ) (i t : ℕ) (l : Line) → length ls ≡ length ss → slice_get ts i ≡ Some t → slice_get ls t ≡ Some l
    → option_map (λ (e : Entry). e.claims) (slice_get (entries_at ls ss ts) i) ≡ Some l.call.claims
claims_at ls ss ts i t l same ticket at =
    ap (option_map (λ (e : Entry). e.claims)) (slice_get-map (entry_at ls ss) ts i ∙ ap (option_map (entry_at ls ss)) ticket)
    ∙ ap Some (entry_claims ls ss t l same at)

-- ---- entries beside their tickets

numbers : (ls : List Line) (ss : List Status) (ts : List ℕ) → map (λ (x : ℕ × Entry). x.0) (numbered ls ss ts) ≡ ts
numbers ls ss [] = refl
numbers ls ss (t ∷ ts) = ap (λ (us : List ℕ). t ∷ us) (numbers ls ss ts)

entries : (ls : List Line) (ss : List Status) (ts : List ℕ) → map (λ (x : ℕ × Entry). x.1) (numbered ls ss ts) ≡ entries_at ls ss ts
entries ls ss [] = refl
entries ls ss (t ∷ ts) = ap (λ (es : List Entry). entry_at ls ss t ∷ es) (entries ls ss ts)

-- those that are left
pub numbered_left : (ls : List Line) (ss : List Status) (ts : List ℕ) → length ls ≡ length ss
    → filter (λ (x : ℕ × Entry). not (is_gone x.1.status)) (numbered ls ss ts) ≡ numbered ls ss (left_among ss ts)
numbered_left ls ss [] same = refl
numbered_left ls ss (t ∷ ts) same =
    ap₂ (λ (b : Bool) (xs : List (ℕ × Entry)). cond b ((t, entry_at ls ss t) ∷ xs) xs) (ap (λ (s : Status). not (is_gone s)) (entry_status ls ss t same)) (numbered_left ls ss ts same)
    ∙ by_test (is_left_at ss t)
  where
    by_test : (b : Bool) → cond b ((t, entry_at ls ss t) ∷ numbered ls ss (left_among ss ts)) (numbered ls ss (left_among ss ts)) ≡ numbered ls ss (cond b (t ∷ left_among ss ts) (left_among ss ts))
    by_test true = refl
    by_test false = refl

-- all of them
pub numbered_all : (ls : List Line) (ss : List Status) → length ls ≡ length ss → enumerate_from 0 (seen ls ss) ≡ numbered ls ss (range_with_len 0 (length ss))
numbered_all ls ss same =
    let none : Entry = record { claims = []; status = Gone } in
    fill_by_all (λ (t : ℕ). (t, entry_at ls ss t)) (enumerate_from 0 (seen ls ss)) (length ss) (0, none) (length-enumerate_from 0 (seen ls ss) ∙ seen_length ls ss same)
    (λ t within.
    get_or-enumerate_from 0 (seen ls ss) t (0, none) (let long = seen_length ls ss same in omega (arith, within, long))
    ∙ ap (λ (n : ℕ). (n, entry_at ls ss t)) (zero-add t))

-- ---- what a scan of the entries finds, by its ticket

abbrev ticket_at : List ℕ → Option ℕ → Option ℕ
ticket_at ts o = elim o [ None ↦ None | Some i ↦ slice_get ts i ]

module _ (place : ℕ → ℕ) (bits : ℕ) (ls : List Line) (ss : List Status) (ts us : List ℕ) (found : Option ℕ) (same : us ≡ ts) (told : found ≡ scan place bits (entries_at ls ss us)) where
  scan_told : scan_numbered place bits (numbered ls ss ts) ≡ ticket_at ts found
  scan_told =
      ap₂ (λ (vs : List ℕ) (es : List Entry). ticket_at vs (scan place bits es)) (numbers ls ss ts) (entries ls ss ts)
      ∙ ap (ticket_at ts) (sym (told ∙ ap (λ (vs : List ℕ). scan place bits (entries_at ls ss vs)) same))

  pub scan_none : found ≡ None → None ≡ scan_numbered place bits (numbered ls ss ts)
  scan_none none = sym (scan_told ∙ ap (ticket_at ts) none)

  pub scan_some : (i : ℕ) (o : Option ℕ) → found ≡ Some i → o ≡ slice_get ts i → o ≡ scan_numbered place bits (numbered ls ss ts)
  scan_some i o some at = at ∙ sym (scan_told ∙ ap (ticket_at ts) some)
