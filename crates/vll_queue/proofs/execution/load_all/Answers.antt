use Rattle.std.proofs.Common.{◌≡◌, ℕ, ◌+◌, List, [], ◌∷◌, ◌++◌, Some, length, slice_get, slice_index, sym, ap, ◌∙◌, subst, append_assoc, length-append, arith}
use Rattle.std.proofs.lemmas.List.{length-set}
use Rattle.std.proofs.lemmas.Option.{slice_get_within}
use Rattle.vll_record.specs.declared.claim.Claim.{Claim}
use Rattle.vll_core.specs.Private.Execution.{HoldsFirst}
use Rattle.vll_counters.specs.Shown.{PassShown}
use Rattle.vll_counters.specs.Steps.{records_before_pass}
use Rattle.vll_queue.proofs.Working.{next_at, held_next, held_all, loaded_more}
use Rattle.vll_queue.proofs.execution.load_all.Goals as goal

pub loop-claim-preserved : goal.loop-claim-preserved
loop-claim-preserved c =
    let i = c.loop-claim.invariant in
    let claims = c.args.claims.now in
    let before = records_before_pass c.args.words.now.base c.args.seat.now.pass in
    let cell = c.loop-claim.cell in
    let claim = c.in-Some.claim in
    let yielded = c.loop-claim.yielded in
    let at : slice_get claims cell ≡ Some claim = next_at yielded c.loop-claim.claim-iterator c.next.new.self claims claim cell i.all c.in-Some.ensures.steps i.count in
    let low = slice_get_within claims cell claim at in
    let value = c.load.ensures.value.serial ∙ ap (λ (s : PassShown). slice_index (records_before_pass c.args.words.now.base s.pass) claim.id) i.pass in record {
      all = append_assoc yielded (claim ∷ []) c.next.new.self ∙ ap (λ (cs : List Claim). yielded ++ cs) (sym c.in-Some.ensures.steps) ∙ i.all;
      count = ap (λ (n : ℕ). n + 1) i.count ∙ sym (length-append yielded (claim ∷ []));
      pass = loaded_more c.args.seat.now c.loop-claim.seat c.load.new.pass cell c.load.result i.pass c.load.ensures.pass;
      whole = ap length c.put.ensures ∙ length-set c.loop-claim.frame cell c.load.result ∙ i.whole;
      held = subst (λ (cells : List ℕ). HoldsFirst (cell + 1) cells claims before) (sym c.put.ensures)
          (held_next c.loop-claim.frame claims before cell c.load.result claim c.requires.few (omega (arith, low)) i.whole i.held at value);
    }

pub returns-clause-frame : goal.returns-clause-frame
returns-clause-frame c =
    let i = c.loop-claim.invariant in
    held_all c.args.words.now.base c.args.seat.now.pass c.loop-claim.yielded c.loop-claim.claim-iterator c.args.claims.now c.loop-claim.frame c.loop-claim.cell i.all c.in-None.ensures.steps.0 i.count c.requires.there i.held
