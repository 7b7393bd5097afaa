use Rattle.std.proofs.Common.{◌≡◌, ℕ, ◌++◌, List, length, take, drop, ◌∙◌, ap, sym, arith}
use Rattle.vll_core.proofs.Common.{append-nil, drop_all, take_all, left_among}
use Rattle.vll_core.proofs.queue.window.Window.drop_gone.Goals as goal

-- what stands in a list that was written over, of the same length
written_over : (k n : ℕ) (xs ys : List ℕ) → length xs ≡ length ys → n ≡ length ys → take k (take n (xs ++ drop (length xs) ys)) ≡ take k xs
written_over k n xs ys same long =
    ap (take k)
    (ap (λ zs. take n (xs ++ zs)) (drop_all (length xs) ys (omega (arith, same)))
    ∙ (ap (take n) (append-nil xs) ∙ take_all n xs (omega (arith, same, long))))

pub gather_left-kept-requires-clause-below : goal.gather_left-kept-requires-clause-below
gather_left-kept-requires-clause-below c = rw c.deref_mut.ensures.value c.requires.tickets.below

pub gather_left-kept-requires-clause-first : goal.gather_left-kept-requires-clause-first
gather_left-kept-requires-clause-first c = rw c.deref_mut.ensures.value c.requires.first

pub returns-clause-left : goal.returns-clause-left
returns-clause-left c =
    c.truncate.ensures.items
    ∙ (written_over c.gather_left-kept.result c.args.self.now.tickets.len c.gather_left-kept.new.tickets c.args.self.now.tickets.items
    (c.gather_left-kept.ensures.length ∙ ap length c.deref_mut.ensures.value) (sym c.deref_mut.ensures.len ∙ ap length c.deref_mut.ensures.value)
    ∙ (c.gather_left-kept.ensures.left ∙ ap (left_among c.args.statuses.now) c.deref_mut.ensures.value))
