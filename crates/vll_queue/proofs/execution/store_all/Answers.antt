use Rattle.std.proofs.Common.{◌≡◌, true, Some, filter, length, slice_get, slice_index, sym, ap, ◌∙◌, rules, arith}
use Rattle.std.proofs.lemmas.Grind.{common_steps}
use Rattle.vll_record.specs.Headline.Claim.{is_write}
use Rattle.vll_proc.specs.Headline.Serial.{apply}
use Rattle.vll_core.specs.State.{writes}
use Rattle.vll_counters.specs.Shown.{PassShown, record_of}
use Rattle.vll_counters.specs.Steps.{records_before_pass}
use Rattle.vll_queue.proofs.Working.{next_at, next_write}
use Rattle.vll_queue.proofs.execution.store_all.Goals as goal

pub store-requires-clause-next : goal.store-requires-clause-next
store-requires-clause-next c =
    let i = c.loop-claim.invariant in
    let writes_it : is_write c.in-Some.claim ≡ true = search rules in
    ap (λ (s : PassShown). record_of (slice_get (writes s.pass.call) s.pass.stores)) i.pass
    ∙ (λ k. record_of (slice_get (filter is_write (c.requires.claims k)) (length (filter is_write c.loop-claim.yielded))))
    ∙ ap record_of (next_write c.loop-claim.yielded c.loop-claim.claim-iterator c.next.new.self c.args.claims.now c.in-Some.claim i.all c.in-Some.ensures.steps writes_it)

pub store-requires-clause-value : goal.store-requires-clause-value
store-requires-clause-value c =
    let i = c.loop-claim.invariant in
    let at : slice_get c.args.claims.now c.loop-claim.cell ≡ Some c.in-Some.claim = next_at c.loop-claim.yielded c.loop-claim.claim-iterator c.next.new.self c.args.claims.now c.in-Some.claim c.loop-claim.cell i.all c.in-Some.ensures.steps i.count in
    c.get.ensures ∙ (c.requires.frame c.loop-claim.cell c.in-Some.claim at).1
    ∙ sym (ap (λ (s : PassShown). slice_index (apply c.args.words.now.base.procs s.pass.call (records_before_pass c.args.words.now.base s.pass)).records c.in-Some.claim.id) i.pass)

pub loop-claim-preserved : goal.loop-claim-preserved
loop-claim-preserved c = grind (arith, common_steps)
