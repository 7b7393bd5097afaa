-- What a worker has in hand, step by step.
use Rattle.std.proofs.Common.{◌≡◌, ◌<◌, ◌≤◌, ℕ, List, [], ◌∷◌, ◌++◌, length, sym, ap, ◌∙◌, arith}
use Rattle.std.specs.Prelude.{IsPermutation, sum_by}
use Rattle.std.proofs.lemmas.List.{length-append, length-map, map-append}
use Rattle.std.proofs.lemmas.List.Sorted.{IsPermutation-map, sum_by-IsPermutation}
use Rattle.std.proofs.lemmas.List.Sums.{sum_by-append, sum_by-cons}
use Rattle.atomic_table.specs.Seated.{TableId}
use Rattle.crossbeam_queue.specs.Passes.{IsSamePass, Pass, view}
use Rattle.vll_tokens.specs.declared.pool.Hand.{Hand}
use Rattle.vll_tokens.specs.Pool.{AreSame, HasInHand, HoldsMore, HoldsOne, IsPassIn, IsPut, IsTaken, joined, new_hand}
use Rattle.vll_tokens.specs.Shown.{TokenShown}
use Rattle.vll_tokens.specs.Tokens.{clients_of}
use Rattle.vll_tokens.proofs.Same.{as_many, same_front, same_rest}

abbrev pub PoolPass : Type 0
PoolPass = Pass TokenShown Hand

pub same_in : (table : TableId) (old new : PoolPass) → IsPassIn table old → IsSamePass old new → IsPassIn table new
same_in table old new of same = (same.0 ∙ of.0, same.2 ∙ of.1)

-- the same view, and the same tokens in hand
pub still : (table : TableId) (old new : PoolPass) (tokens : List TokenShown) → HasInHand table old tokens → IsSamePass old new → view new ≡ view old → HasInHand table new tokens
still table old new tokens hand same is = record { of = same_in table old new hand.of same; holds = λ h. ap (λ (v : Hand). sum_by h v.holds) is ∙ hand.holds h }

pub taken : (table : TableId) (old new : PoolPass) (t : TokenShown) (kept : List TokenShown) → HasInHand table old kept → IsSamePass old new
    → IsTaken t.client (view old) (view new) → HasInHand table new (t ∷ kept)
taken table old new t kept hand same is = record {
  of = same_in table old new hand.of same;
  holds = λ h. let a = is.holds h in let b = sum_by-cons h t.client (view old).holds in let c = hand.holds h in let d = sum_by-cons h t.client (clients_of kept) in omega (arith, a, b, c, d);
}

pub one_held : (table : TableId) (p : PoolPass) (t : TokenShown) (rest : List TokenShown) → HasInHand table p (t ∷ rest) → HoldsOne (view p).holds t.client
one_held table p t rest hand = record { others = clients_of rest; same = hand.holds }

pub given : (table : TableId) (old new : PoolPass) (t : TokenShown) (rest : List TokenShown) → HasInHand table old (t ∷ rest) → IsSamePass old new
    → IsPut t.client (view old) (view new) → HasInHand table new rest
given table old new t rest hand same is = record {
  of = same_in table old new hand.of same;
  holds = same_rest t.client (view new).holds (clients_of rest) (λ h. sym (is.holds h) ∙ hand.holds h);
}

-- a token that is kept after others
pub more_held : (table : TableId) (p : PoolPass) (t : TokenShown) (rest kept : List TokenShown) → HasInHand table p (t ∷ (rest ++ kept)) → HoldsMore (view p).holds t.client (clients_of kept)
more_held table p t rest kept hand = record {
  others = clients_of rest;
  same = λ h.
      let both : clients_of (rest ++ kept) ≡ clients_of rest ++ clients_of kept = map-append (λ (u : TokenShown). u.client) rest kept in
      hand.holds h ∙ ap (λ (l : List ℕ). sum_by h (t.client ∷ l)) both ∙ sym (same_front t.client (clients_of rest) (clients_of kept) h);
}

-- the same tokens, with one of them after the others
to_back : (t : TokenShown) (rest kept : List TokenShown) → AreSame (clients_of (t ∷ (rest ++ kept))) (clients_of (rest ++ (kept ++ t ∷ [])))
to_back t rest kept h =
    let client = λ (u : TokenShown). u.client in
    let a : sum_by h (clients_of (rest ++ kept)) ≡ sum_by h (clients_of rest ++ clients_of kept) = ap (sum_by h) (map-append client rest kept) in
    let b : sum_by h (clients_of (rest ++ (kept ++ t ∷ []))) ≡ sum_by h (clients_of rest ++ clients_of (kept ++ t ∷ [])) = ap (sum_by h) (map-append client rest (kept ++ t ∷ [])) in
    let c : sum_by h (clients_of (kept ++ t ∷ [])) ≡ sum_by h (clients_of kept ++ t.client ∷ []) = ap (sum_by h) (map-append client kept (t ∷ [])) in
    let d = sum_by-append h (clients_of rest) (clients_of kept) in
    let e = sum_by-append h (clients_of rest) (clients_of (kept ++ t ∷ [])) in
    let f = sum_by-append h (clients_of kept) (t.client ∷ []) in
    let g = sum_by-cons h t.client (clients_of (rest ++ kept)) in
    let i = sum_by-cons h t.client [] in
    omega (arith, a, b, c, d, e, f, g, i)

pub put_by : (table : TableId) (old new : PoolPass) (t : TokenShown) (rest kept now : List TokenShown) → HasInHand table old (t ∷ (rest ++ kept)) → IsSamePass old new → view new ≡ view old
    → now ≡ kept ++ t ∷ [] → HasInHand table new (rest ++ now)
put_by table old new t rest kept now hand same is more =
    let there = still table old new (t ∷ (rest ++ kept)) hand same is in
    record { of = there.of; holds = λ h. there.holds h ∙ to_back t rest kept h ∙ ap (λ (l : List TokenShown). sum_by h (clients_of (rest ++ l))) (sym more) }

-- the same tokens in another order
pub reordered : (table : TableId) (p : PoolPass) (old new : List TokenShown) → HasInHand table p old → IsPermutation old new → HasInHand table p new
reordered table p old new hand moved = record {
  of = hand.of;
  holds = λ h. hand.holds h ∙ sym (sum_by-IsPermutation h (clients_of old) (clients_of new) (IsPermutation-map (λ (u : TokenShown). u.client) old new moved));
}

-- what two workers have in hand, in one hand
pub joined_hands : (table : TableId) (old new other : PoolPass) (kept more : List TokenShown) → HasInHand table old kept → HasInHand table other more → IsSamePass old new
    → view new ≡ joined (view old) (view other) → HasInHand table new (more ++ kept)
joined_hands table old new other kept more own theirs same is = record {
  of = same_in table old new own.of same;
  holds = λ h.
      let v : sum_by h (view new).holds ≡ sum_by h ((view old).holds ++ (view other).holds) = ap (λ (w : Hand). sum_by h w.holds) is in
      let a = sum_by-append h (view old).holds (view other).holds in
      let b = own.holds h in let c = theirs.holds h in
      let d : sum_by h (clients_of (more ++ kept)) ≡ sum_by h (clients_of more ++ clients_of kept) = ap (sum_by h) (map-append (λ (u : TokenShown). u.client) more kept) in
      let e = sum_by-append h (clients_of more) (clients_of kept) in
      omega (arith, v, a, b, c, d, e);
}

-- a new pass has nothing in hand
pub nothing_held : (table : TableId) (p : PoolPass) (kept : List TokenShown) → IsPassIn table p → view p ≡ new_hand → kept ≡ [] → HasInHand table p kept
nothing_held table p kept of is none = record { of = of; holds = λ h. ap (λ (v : Hand). sum_by h v.holds) is ∙ sym (ap (λ (l : List TokenShown). sum_by h (clients_of l)) none) }

-- while a token is in hand, fewer are kept than there are
pub fewer_kept : (holds : List ℕ) (client n capacity : ℕ) (kept : List TokenShown) → HoldsMore holds client (clients_of kept) → length holds ≤ n → n ≤ capacity → length kept < capacity
fewer_kept holds client n capacity kept more few room =
    let a = as_many holds (more.others ++ client ∷ clients_of kept) more.same in
    let b = length-append more.others (client ∷ clients_of kept) in
    let c : length (clients_of kept) ≡ length kept = length-map kept (λ (u : TokenShown). u.client) in
    omega (arith, a, b, c, few, room)

-- another form of a client's token, in the place of the one in hand
pub renewed : (table : TableId) (p : PoolPass) (t new : TokenShown) (rest : List TokenShown) → HasInHand table p (t ∷ rest) → new.client ≡ t.client → HasInHand table p (new ∷ rest)
renewed table p t new rest hand whose = record {
  of = hand.of;
  holds = λ h. hand.holds h ∙ ap (λ (c : ℕ). sum_by h (c ∷ clients_of rest)) (sym whose);
}
