-- What a worker has in hand while it works, step by step.
use Rattle.std.proofs.Common.{◌≡◌, ◌<◌, List, [], ◌∷◌, ◌++◌, sym, subst}
use Rattle.std.specs.Prelude.{IsPermutation}
use Rattle.std.proofs.lemmas.List.Elements.{All-cons, All-head, All-tail}
use Rattle.std.proofs.lemmas.List.Sorted.{All-permutation, IsPermutation-append_left, IsPermutation-middle, IsPermutation-sym}
use Rattle.atomic_table.specs.Seated.{TableId}
use Rattle.crossbeam_queue.specs.Passes.{IsSamePass, view}
use Rattle.vll_tokens.specs.declared.pool.Hand.{Hand}
use Rattle.vll_tokens.specs.Pool.{HasInHand, HoldsMore, HoldsOne, IsPut, IsTaken, Working}
use Rattle.vll_workers.specs.Private.Work.{IsAtWork}
use Rattle.vll_tokens.specs.Shown.{TokenShown}
use Rattle.vll_tokens.specs.Tokens.{IsOf, clients_of}
use Rattle.vll_tokens.proofs.Hands.{given, more_held, one_held, put_by, renewed, reordered, still, taken}

-- a token more is taken
pub one_more : (handed : List TokenShown) (table : TableId) (old new : Working) (ts : List TokenShown) (t : TokenShown) → IsAtWork handed table old ts → new.kept ≡ old.kept → IsSamePass old.pass new.pass
    → IsOf handed t → IsTaken t.client (view old.pass) (view new.pass) → IsAtWork handed table new (t ∷ ts)
one_more handed table old new ts t at kept same own is = record {
  hand = subst (λ (k : List TokenShown). HasInHand table new.pass (t ∷ (ts ++ k))) (sym kept) (taken table old.pass new.pass t (ts ++ old.kept) at.hand same is);
  own = All-cons (IsOf handed) t ts own at.own;
  part = subst (λ n. 0 < n) (sym is.parts) at.part;
}

-- none is
pub as_before : (handed : List TokenShown) (table : TableId) (old new : Working) (ts : List TokenShown) → IsAtWork handed table old ts → new.kept ≡ old.kept → IsSamePass old.pass new.pass
    → view new.pass ≡ view old.pass → IsAtWork handed table new ts
as_before handed table old new ts at kept same is = record {
  hand = subst (λ (k : List TokenShown). HasInHand table new.pass (ts ++ k)) (sym kept) (still table old.pass new.pass (ts ++ old.kept) at.hand same is);
  own = at.own;
  part = subst (λ (v : Hand). 0 < v.parts) (sym is) at.part;
}

-- one of them leaves its stack, and others are on the next one
pub popped : (handed : List TokenShown) (table : TableId) (w : Working) (before ts others : List TokenShown) (t : TokenShown) → IsAtWork handed table w (before ++ others) → before ≡ t ∷ ts
    → IsAtWork handed table w (t ∷ (ts ++ others))
popped handed table w before ts others t at is = subst (λ (l : List TokenShown). IsAtWork handed table w (l ++ others)) is at

-- it is put on the next stack
pub set_aside : (handed : List TokenShown) (table : TableId) (w : Working) (ts others new : List TokenShown) (t : TokenShown) → IsAtWork handed table w (t ∷ (ts ++ others)) → new ≡ t ∷ others
    → IsAtWork handed table w (ts ++ new)
set_aside handed table w ts others new t at is =
    let moved : IsPermutation (t ∷ (ts ++ others)) (ts ++ t ∷ others) = IsPermutation-sym (ts ++ t ∷ others) (t ∷ (ts ++ others)) (IsPermutation-middle ts t others) in
    let aside : IsAtWork handed table w (ts ++ t ∷ others) = record {
      hand = reordered table w.pass ((t ∷ (ts ++ others)) ++ w.kept) ((ts ++ t ∷ others) ++ w.kept) at.hand (IsPermutation-append_left w.kept (t ∷ (ts ++ others)) (ts ++ t ∷ others) moved);
      own = All-permutation (IsOf handed) (t ∷ (ts ++ others)) (ts ++ t ∷ others) moved at.own;
      part = at.part;
    } in
    subst (λ (l : List TokenShown). IsAtWork handed table w (ts ++ l)) (sym is) aside

-- one that was set aside is taken back
pub taken_back : (handed : List TokenShown) (table : TableId) (w : Working) (ts others rest : List TokenShown) (t : TokenShown) → IsAtWork handed table w (ts ++ others) → others ≡ t ∷ rest
    → IsAtWork handed table w ((t ∷ ts) ++ rest)
taken_back handed table w ts others rest t at is =
    let aside : IsAtWork handed table w (ts ++ t ∷ rest) = subst (λ (l : List TokenShown). IsAtWork handed table w (ts ++ l)) is at in
    let moved : IsPermutation (ts ++ t ∷ rest) (t ∷ (ts ++ rest)) = IsPermutation-middle ts t rest in
    record {
      hand = reordered table w.pass ((ts ++ t ∷ rest) ++ w.kept) ((t ∷ (ts ++ rest)) ++ w.kept) aside.hand (IsPermutation-append_left w.kept (ts ++ t ∷ rest) (t ∷ (ts ++ rest)) moved);
      own = All-permutation (IsOf handed) (ts ++ t ∷ rest) (t ∷ (ts ++ rest)) moved aside.own;
      part = aside.part;
    }

pub own_of : (handed : List TokenShown) (table : TableId) (w : Working) (ts : List TokenShown) (t : TokenShown) → IsAtWork handed table w (t ∷ ts) → IsOf handed t
own_of handed table w ts t at = All-head (IsOf handed) t ts at.own

pub held : (handed : List TokenShown) (table : TableId) (w : Working) (ts : List TokenShown) (t : TokenShown) → IsAtWork handed table w (t ∷ ts) → HoldsOne (view w.pass).holds t.client
held handed table w ts t at = one_held table w.pass t (ts ++ w.kept) at.hand

pub held_more : (handed : List TokenShown) (table : TableId) (w : Working) (ts : List TokenShown) (t : TokenShown) → IsAtWork handed table w (t ∷ ts) → HoldsMore (view w.pass).holds t.client (clients_of w.kept)
held_more handed table w ts t at = more_held table w.pass t ts w.kept at.hand

-- calls of it began
pub renewed_at_work : (handed : List TokenShown) (table : TableId) (w : Working) (ts : List TokenShown) (t new : TokenShown) → IsAtWork handed table w (t ∷ ts) → IsOf handed new → new.client ≡ t.client
    → IsAtWork handed table w (new ∷ ts)
renewed_at_work handed table w ts t new at own whose = record {
  hand = renewed table w.pass t new (ts ++ w.kept) at.hand whose;
  own = All-cons (IsOf handed) new ts own (All-tail (IsOf handed) t ts at.own);
  part = at.part;
}

-- it goes back to the pool
pub one_put : (handed : List TokenShown) (table : TableId) (old new : Working) (ts : List TokenShown) (t : TokenShown) → IsAtWork handed table old (t ∷ ts) → new.kept ≡ old.kept → IsSamePass old.pass new.pass
    → IsPut t.client (view old.pass) (view new.pass) → IsAtWork handed table new ts
one_put handed table old new ts t at kept same is = record {
  hand = subst (λ (k : List TokenShown). HasInHand table new.pass (ts ++ k)) (sym kept) (given table old.pass new.pass t (ts ++ old.kept) at.hand same is);
  own = All-tail (IsOf handed) t ts at.own;
  part = subst (λ n. 0 < n) (sym is.parts) at.part;
}

-- the worker keeps it
pub one_kept : (handed : List TokenShown) (table : TableId) (old new : Working) (ts : List TokenShown) (t : TokenShown) → IsAtWork handed table old (t ∷ ts) → new.kept ≡ old.kept ++ t ∷ [] → IsSamePass old.pass new.pass
    → view new.pass ≡ view old.pass → IsAtWork handed table new ts
one_kept handed table old new ts t at kept same is = record {
  hand = put_by table old.pass new.pass t ts old.kept new.kept at.hand same is kept;
  own = All-tail (IsOf handed) t ts at.own;
  part = subst (λ (v : Hand). 0 < v.parts) (sym is) at.part;
}
