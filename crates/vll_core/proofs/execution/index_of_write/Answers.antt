use Rattle.std.proofs.Common.{◌≡◌, suc, true, false, filter, drop, slice_get, refl, sym, ap, ◌∙◌, arith}
use Rattle.vll_core.proofs.Common.{option_map_or, is_write}
use Rattle.vll_core.proofs.AtWork.{write_here, write_behind, write_passed, none_left}
use Rattle.vll_core.proofs.execution.index_of_write.Goals as goal
use Rattle.vll_core.proofs.execution.index_of_write.Goals.{then-is_write+else-left-eq0, else-is_write}

pub loop-i-init : goal.loop-i-init
loop-i-init c = refl

pub returns-then-left-eq0-clause-claim : goal.returns-then-left-eq0-clause-claim
returns-then-left-eq0-clause-claim c =
    let claims = c.args.claims.now in
    let writes : option_map_or is_write (slice_get claims c.loop-i.i) false ≡ true = cc in
    sym (write_here claims c.loop-i.i writes)
    ∙ (ap (slice_get (filter is_write (drop c.loop-i.i claims))) (sym c.if-left-eq0.true) ∙ c.loop-i.invariant)

pub loop-i-preserved : goal.loop-i-preserved
loop-i-preserved c =
    let claims = c.args.claims.now in
    elim c.if-is_write.branch [
      | then-is_write+else-left-eq0 w ↦
          let writes : option_map_or is_write (slice_get claims c.loop-i.i) false ≡ true = cc in
          let left = c.if-is_write.left in
          let one : suc left ≡ c.loop-i.left = let is = w.left-is in let some = w.if-left-eq0.false in omega arith in
          sym (write_behind claims c.loop-i.i left writes)
          ∙ (ap (slice_get (filter is_write (drop c.loop-i.i claims))) one ∙ c.loop-i.invariant)
      | else-is_write w ↦
          let reads : option_map_or is_write (slice_get claims c.loop-i.i) false ≡ false = cc in
          sym (ap (λ cs. slice_get cs c.if-is_write.left) (write_passed claims c.loop-i.i (omega arith) reads))
          ∙ (ap (slice_get (filter is_write (drop c.loop-i.i claims))) w.left-is ∙ c.loop-i.invariant)
    ]

pub returns-clause-claim : goal.returns-clause-claim
returns-clause-claim c =
    let claims = c.args.claims.now in
    sym (sym c.loop-i.invariant ∙ ap (λ cs. slice_get cs c.loop-i.left) (none_left claims c.loop-i.i (omega arith)))
