use Rattle.std.proofs.Common.{◌∙◌, ◌++◌, suc, [], ◌∷◌, ap, drop, refl, sym}
use Rattle.vll_fault_path.specs.Parts as part
use Rattle.vll_fault_path.specs.Parts.{HasParts, Placed, at, first_part}
use Rattle.vll_fault_path.specs.declared.piece.Step.TheVariants as step
use Rattle.vll_fault_path.proofs.Parts.{ends, goes_on, part-fails}
use Rattle.std.proofs.Math.Seq.{drop-cons}
use Rattle.std.proofs.lemmas.List.{drop_all}
use Rattle.vll_record.specs.declared.claim.Mode.TheVariants.{Read}
use Rattle.vll_proc.specs.declared.syntax.KeyAt.TheVariants.{Fixed}
use Rattle.vll_proc.specs.declared.syntax.KeyDecl.{KeyDecl}
use Rattle.std.specs.Prelude.{get_or}
use Rattle.vll_fault_path.specs.Parts.{keys_from}
use Rattle.vll_fault_path.proofs.part.push_keys.Goals as goal

pub returns-then-not-key_passes : goal.returns-then-not-key_passes
returns-then-not-key_passes c =
    let test = c.args.test.now in
    let before = c.loop-i.before in
    let keys = c.args.keys.now in
    let i = c.loop-i.i in
    let none : KeyDecl = record { mode = Read; at = Fixed 0 } in
    let key = get_or keys i none in
    let found = at (step.Key i) (part.key i key) in
    goes_on test c.args.start (part.keys keys) (keys_from 0 keys) c.args.steps.now.items c.push.new.self.items c.push.new.self.items (before, found) (part.of_keys keys)
    (sym c.loop-i.invariant.parts ∙ ap (λ ks. first_part test before (keys_from i ks)) (drop-cons keys i none c.loop-i-test.true)
    ∙ part-fails test before found (keys_from (suc i) (drop (suc i) keys)) (sym c.key_passes.ensures ∙ c.if-not-key_passes.true))
    (c.in_ok-push.ensures.items ∙ ap (λ xs. xs ++ step.Key i ∷ []) c.loop-i.invariant.steps)
    (ends test before (part.key i key) [] c.push.new.self.items c.push.new.self.items (part.of_key i key) refl refl)

pub returns : goal.returns
returns c =
    let test = c.args.test.now in
    ends test c.args.start (part.keys c.args.keys.now) (keys_from 0 c.args.keys.now) c.args.steps.now.items c.loop-i.steps.items (part.of_keys c.args.keys.now)
    (sym c.loop-i.invariant.parts ∙ ap (λ ks. first_part test c.loop-i.before (keys_from c.loop-i.i ks)) (drop_all c.loop-i.i c.args.keys.now c.loop-i-test.false)) c.loop-i.invariant.steps
