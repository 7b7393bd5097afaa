-- What the contention analysis sees of the entries by ticket, where one changes.
use Rattle.std.proofs.Common.{◌≡◌, ℕ, zero, suc, ◌+◌, List, [], ◌∷◌, ◌++◌, length, map, refl, ap, ap₂, ◌∙◌, arith, slice_get, slice_set, Some}
use Rattle.vll_core.proofs.Common.{enumerate_from, length-map, map-append, none-some, same_Some, Entry, Status, Line, analysed, paired, seen}
use Rattle.vll_core.proofs.Entries.{paired_push, length_paired}

pub seen_statuses : (ls : List Line) (ss : List Status) → length ls ≡ length ss → map (λ (e : Entry). e.status) (seen ls ss) ≡ ss
seen_statuses [] [] same = refl
seen_statuses [] (s ∷ ss) same = absurd (omega (arith, same))
seen_statuses (l ∷ ls) [] same = absurd (omega (arith, same))
seen_statuses (l ∷ ls) (s ∷ ss) same = ap (λ (rs : List Status). s ∷ rs) (seen_statuses ls ss (omega (arith, same)))

pub seen_length : (ls : List Line) (ss : List Status) → length ls ≡ length ss → length (seen ls ss) ≡ length ss
seen_length ls ss same = length-map (paired ls ss) analysed ∙ length_paired ls ss same

-- the entry of a ticket
pub record SeenAt (ls : List Line) (ss : List Status) (t : ℕ) (s : Status) : Type 0 where
  pub entry : Entry
  pub at : slice_get (seen ls ss) t ≡ Some entry
  pub status : entry.status ≡ s

pub seen_at : (ls : List Line) (ss : List Status) (t : ℕ) (s : Status) → length ls ≡ length ss → slice_get ss t ≡ Some s → SeenAt ls ss t s
seen_at ls [] t s same at = absurd (none-some s at)
seen_at [] (r ∷ ss) t s same at = absurd (omega (arith, same))
seen_at (l ∷ ls) (r ∷ ss) zero s same at = record { entry = record { claims = l.call.claims; status = r }; at = refl; status = same_Some r s at }
seen_at (l ∷ ls) (r ∷ ss) (suc t) s same at =
    let rest : SeenAt ls ss t s = seen_at ls ss t s (omega (arith, same)) at in
    record { entry = rest.entry; at = rest.at; status = rest.status }

pub seen_set : (ls : List Line) (ss : List Status) (t : ℕ) (s : Status) (e : Entry) → slice_get (seen ls ss) t ≡ Some e
    → seen ls (slice_set ss t s) ≡ slice_set (seen ls ss) t (record { claims = e.claims; status = s })
seen_set [] ss t s e at = absurd (none-some e at)
seen_set (l ∷ ls) [] t s e at = absurd (none-some e at)
seen_set (l ∷ ls) (r ∷ ss) zero s e at = ap (λ (d : Entry). record { claims = d.claims; status = s } ∷ seen ls ss) (same_Some (record { claims = l.call.claims; status = r }) e at)
seen_set (l ∷ ls) (r ∷ ss) (suc t) s e at = ap (λ (ds : List Entry). record { claims = l.call.claims; status = r } ∷ ds) (seen_set ls ss t s e at)

pub seen_push : (ls : List Line) (ss : List Status) (l : Line) (s : Status) → length ls ≡ length ss
    → seen (ls ++ l ∷ []) (ss ++ s ∷ []) ≡ seen ls ss ++ record { claims = l.call.claims; status = s } ∷ []
seen_push ls ss l s same = ap (map analysed) (paired_push ls ss l s same) ∙ map-append analysed (paired ls ss) (record { line = l; status = s } ∷ [])

-- the entries by ticket, each beside its ticket

next_at : (k i : ℕ) → (k + 1) + i ≡ k + suc i
next_at k i = omega arith

pub numbered_at : (k : ℕ) (es : List Entry) (i : ℕ) (e : Entry) → slice_get es i ≡ Some e → slice_get (enumerate_from k es) i ≡ Some (k + i, e)
numbered_at k [] i e at = absurd (none-some e at)
numbered_at k (d ∷ es) zero e at = ap₂ (λ (n : ℕ) (c : Entry). Some (n, c)) (let same : k ≡ k + 0 = omega arith in same) (same_Some d e at)
numbered_at k (d ∷ es) (suc i) e at = numbered_at (k + 1) es i e at ∙ ap (λ (n : ℕ). Some (n, e)) (next_at k i)

pub numbered_set : (k : ℕ) (es : List Entry) (i : ℕ) (e : Entry) → enumerate_from k (slice_set es i e) ≡ slice_set (enumerate_from k es) i (k + i, e)
numbered_set k [] i e = refl
numbered_set k (d ∷ es) zero e = ap (λ (n : ℕ). (n, e) ∷ enumerate_from (k + 1) es) (let same : k ≡ k + 0 = omega arith in same)
numbered_set k (d ∷ es) (suc i) e =
    ap (λ ys. (k, d) ∷ ys) (numbered_set (k + 1) es i e ∙ ap (λ (n : ℕ). slice_set (enumerate_from (k + 1) es) i (n, e)) (next_at k i))

pub numbered_push : (k : ℕ) (es : List Entry) (e : Entry) → enumerate_from k (es ++ e ∷ []) ≡ enumerate_from k es ++ (k + length es, e) ∷ []
numbered_push k [] e = ap (λ (n : ℕ). (n, e) ∷ []) (let same : k ≡ k + 0 = omega arith in same)
numbered_push k (d ∷ es) e =
    ap (λ ys. (k, d) ∷ ys) (numbered_push (k + 1) es e ∙ ap (λ (n : ℕ). enumerate_from (k + 1) es ++ (n, e) ∷ []) (next_at k (length es)))
