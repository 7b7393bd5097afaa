use Rattle.std.proofs.Common.{◌≡◌, ◌∙◌, ℕ, false, List, [], ◌∷◌, Result, Err, ap, refl, subst, subst₂, sym}
use Rattle.vll_fault_path.specs.Parts as part
use Rattle.vll_fault_path.specs.Parts.{HasParts, Placed, at, first_part}
use Rattle.vll_fault_path.specs.declared.piece.Step.TheVariants as step
use Rattle.vll_check.specs.declared.piece.Before.{Before}
use Rattle.vll_check.specs.declared.piece.Piecewise.{Piecewise}
use Rattle.vll_check.specs.Pieces.{list_passes}
use Rattle.vll_fault_path.specs.declared.part.Behind.{Behind}
use Rattle.vll_fault_path.specs.declared.part.Stop.{Stop}
use Rattle.vll_fault_path.specs.declared.part.Stop.TheVariants.{Fault}
use Rattle.vll_fault_path.specs.declared.piece.Step.{Step}
use Rattle.vll_fault_path.specs.Parts.{statements_from}
use Rattle.vll_fault_path.proofs.Parts.{ends, into, goes_on, part-fails, part-passes}
use Rattle.vll_fault_path.proofs.Tests.{none_counted}
use Rattle.std.specs.Prelude.{OnOk}
use Rattle.vll_proc.specs.declared.syntax.KeyDecl.{KeyDecl}
use Rattle.vll_proc.specs.declared.syntax.Proc.{Proc}
use Rattle.vll_proc.specs.declared.syntax.Stmt.{Stmt}
use Rattle.vll_fault_path.specs.Private.{EndsList, LeadsOn}
use Rattle.vll_fault_path.proofs.part.push_parts.Goals as goal

whole_has : (p : Proc) (keys : List KeyDecl) (body : List Stmt) → keys ≡ p.keys → body ≡ p.body → HasParts (part.whole p) (at step.Args part.args ∷ at step.Keys (part.keys keys) ∷ at step.Body (part.list body) ∷ [])
whole_has p keys body same also = subst₂ (λ ks sts. HasParts (part.whole p) (at step.Args part.args ∷ at step.Keys (part.keys ks) ∷ at step.Body (part.list sts) ∷ [])) (sym same) (sym also) (part.of_whole p)

pub returns-then-not-args_pass : goal.returns-then-not-args_pass
returns-then-not-args_pass c =
    let test = c.args.test.now in
    let before = c.new-before.result in
    let procedure = test.procedure in
    let arguments = at step.Args part.args in
    let keys = at step.Keys (part.keys c.as_slice-keys.result.now) in
    let body = at step.Body (part.list c.as_slice-body.result.now) in
    let has = whole_has procedure c.as_slice-keys.result.now c.as_slice-body.result.now c.as_slice-keys.ensures c.as_slice-body.ensures in
    subst (λ b. LeadsOn test b (part.whole procedure) c.args.steps.now.items c.push.new.self.items) c.new-before.ensures
    (goes_on test before (part.whole procedure) (arguments ∷ keys ∷ body ∷ []) c.args.steps.now.items c.push.new.self.items c.push.new.self.items (before, arguments) has (part-fails test before arguments (keys ∷ body ∷ []) (sym c.args_pass.ensures ∙ c.if-not-args_pass.true)) c.in_ok-push.ensures.items
    (ends test before part.args [] c.push.new.self.items c.push.new.self.items part.of_args refl refl))

pub returns-then-not-keys_pass : goal.returns-then-not-keys_pass
returns-then-not-keys_pass c =
    let test = c.args.test.now in
    let before = c.new-before.result in
    let procedure = test.procedure in
    let arguments = at step.Args part.args in
    let keys = at step.Keys (part.keys c.as_slice-keys.result.now) in
    let body = at step.Body (part.list c.as_slice-body.result.now) in
    let has = whole_has procedure c.as_slice-keys.result.now c.as_slice-body.result.now c.as_slice-keys.ensures c.as_slice-body.ensures in
    subst (λ b. OnOk c.push_keys.result (LeadsOn test b (part.whole procedure) c.args.steps.now.items c.push_keys.new.steps.items)) c.new-before.ensures
    (into c.push_keys.result test before (part.whole procedure) (arguments ∷ keys ∷ body ∷ []) (before, keys) c.args.steps.now.items c.push-then-not-keys_pass.new.self.items c.push_keys.new.steps.items has
    (part-passes test before arguments (keys ∷ body ∷ []) (sym c.args_pass.ensures ∙ c.if-not-args_pass.false) ∙ part-fails test before keys (body ∷ []) (sym c.keys_pass.ensures ∙ c.if-not-keys_pass.true)) c.in_ok-push-2.ensures.items c.push_keys.ensures)

part_ends : (r : Result Behind Stop) (n : ℕ) → r ≡ Err (Fault n) → (t : Piecewise) (b : Before) (sts : List Stmt) (old new : List Step) → EndsList t b sts r old new → (list_passes t.fault t.procedure b sts ≡ false) × LeadsOn t b (part.list sts) old new
part_ends r n is t b sts old new ended = subst (λ (x : Result Behind Stop). EndsList t b sts x old new) is ended

pub returns-then-list_passes : goal.returns-then-list_passes
returns-then-list_passes c =
    let test = c.args.test.now in
    let before = c.new-before.result in
    let procedure = test.procedure in
    let arguments = at step.Args part.args in
    let keys = at step.Keys (part.keys c.as_slice-keys.result.now) in
    let body = at step.Body (part.list c.as_slice-body.result.now) in
    let has = whole_has procedure c.as_slice-keys.result.now c.as_slice-body.result.now c.as_slice-keys.ensures c.as_slice-body.ensures in
    let first = part-passes test before arguments (keys ∷ body ∷ []) (sym c.args_pass.ensures ∙ c.if-not-args_pass.false) ∙ part-passes test before keys (body ∷ []) (sym c.keys_pass.ensures ∙ c.if-not-keys_pass.false) in
    subst (λ b. LeadsOn test b (part.whole procedure) c.args.steps.now.items c.args.steps.now.items) c.new-before.ensures
    (ends test before (part.whole procedure) (arguments ∷ keys ∷ body ∷ []) c.args.steps.now.items c.args.steps.now.items has (first ∙ part-passes test before body [] (sym c.list_passes.ensures ∙ c.if-list_passes.true)) refl)

pub returns-then-is_counted : goal.returns-then-is_counted
returns-then-is_counted c =
    let test = c.args.test.now in
    let before = c.new-before.result in
    let procedure = test.procedure in
    let arguments = at step.Args part.args in
    let keys = at step.Keys (part.keys c.as_slice-keys.result.now) in
    let body = at step.Body (part.list c.as_slice-body.result.now) in
    let has = whole_has procedure c.as_slice-keys.result.now c.as_slice-body.result.now c.as_slice-keys.ensures c.as_slice-body.ensures in
    let first = part-passes test before arguments (keys ∷ body ∷ []) (sym c.args_pass.ensures ∙ c.if-not-args_pass.false) ∙ part-passes test before keys (body ∷ []) (sym c.keys_pass.ensures ∙ c.if-not-keys_pass.false) in
    subst (λ b. LeadsOn test b (part.whole procedure) c.args.steps.now.items c.push-then-is_counted.new.self.items) c.new-before.ensures
    (goes_on test before (part.whole procedure) (arguments ∷ keys ∷ body ∷ []) c.args.steps.now.items c.push-then-is_counted.new.self.items c.push-then-is_counted.new.self.items (before, body) has
    (first ∙ part-fails test before body [] (sym c.list_passes.ensures ∙ c.if-list_passes.false)) c.in_ok-push-3.ensures.items
    (ends test before (part.list c.as_slice-body.result.now) (statements_from 0 c.as_slice-body.result.now) c.push-then-is_counted.new.self.items c.push-then-is_counted.new.self.items (part.of_list c.as_slice-body.result.now)
    (none_counted test before 0 c.as_slice-body.result.now (sym c.is_counted.ensures ∙ c.if-is_counted.true)) refl))

pub returns-in-Ok : goal.returns-in-Ok
returns-in-Ok c =
    let test = c.args.test.now in
    let before = c.new-before.result in
    let procedure = test.procedure in
    let arguments = at step.Args part.args in
    let keys = at step.Keys (part.keys c.as_slice-keys.result.now) in
    let body = at step.Body (part.list c.as_slice-body.result.now) in
    let has = whole_has procedure c.as_slice-keys.result.now c.as_slice-body.result.now c.as_slice-keys.ensures c.as_slice-body.ensures in
    let first = part-passes test before arguments (keys ∷ body ∷ []) (sym c.args_pass.ensures ∙ c.if-not-args_pass.false) ∙ part-passes test before keys (body ∷ []) (sym c.keys_pass.ensures ∙ c.if-not-keys_pass.false) in
    let ended = c.in-Ok.ensures in
    subst (λ b. LeadsOn test b (part.whole procedure) c.args.steps.now.items c.step_back.new.steps.items) c.new-before.ensures
    (ends test before (part.whole procedure) (arguments ∷ keys ∷ body ∷ []) c.args.steps.now.items c.step_back.new.steps.items has (first ∙ part-passes test before body [] ended.1)
    (c.step_back.ensures c.args.steps.now.items step.Body (ended.0 ∙ c.in_ok-push-4.ensures.items)))

pub returns-in-Err-Fault : goal.returns-in-Err-Fault
returns-in-Err-Fault c =
    let test = c.args.test.now in
    let before = c.new-before.result in
    let procedure = test.procedure in
    let arguments = at step.Args part.args in
    let keys = at step.Keys (part.keys c.as_slice-keys.result.now) in
    let body = at step.Body (part.list c.as_slice-body.result.now) in
    let has = whole_has procedure c.as_slice-keys.result.now c.as_slice-body.result.now c.as_slice-keys.ensures c.as_slice-body.ensures in
    let first = part-passes test before arguments (keys ∷ body ∷ []) (sym c.args_pass.ensures ∙ c.if-not-args_pass.false) ∙ part-passes test before keys (body ∷ []) (sym c.keys_pass.ensures ∙ c.if-not-keys_pass.false) in
    let ended = part_ends c.search_list.result c.in-Err-Fault.number (c.in-Err-Fault.is ∙ ap Err c.in-Err-Fault.field-0-is) test before c.as_slice-body.result.now c.push-2.new.self.items c.search_list.new.steps.items c.search_list.ensures in
    subst (λ b. LeadsOn test b (part.whole procedure) c.args.steps.now.items c.search_list.new.steps.items) c.new-before.ensures
    (goes_on test before (part.whole procedure) (arguments ∷ keys ∷ body ∷ []) c.args.steps.now.items c.push-2.new.self.items c.search_list.new.steps.items (before, body) has
    (first ∙ part-fails test before body [] ended.0) c.in_ok-push-4.ensures.items ended.1)
