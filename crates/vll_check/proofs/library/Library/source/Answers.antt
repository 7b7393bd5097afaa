use Rattle.std.proofs.Common.{◌≡◌, ℕ, Option, Some, None, IfNone, slice_get, subst, refl, ap, sym, ◌∙◌, rules}
use Rattle.vll_check.proofs.Common.{check_fault, source, source_by, named_by, key_at, IsReady}
use Rattle.vll_check.proofs.Fitting.{found_passed, ready_without}
use Rattle.vll_check.proofs.library.Library.source.Goals as goal

pub source_for-requires-clause-checked : goal.source_for-requires-clause-checked
source_for-requires-clause-checked c =
    let procedure = c.proc.result.now in
    ap (λ n. check_fault n procedure) c.records.ensures.records
    ∙ found_passed c.args.self.now c.args.call.now.number procedure c.records.ensures.catalog (search rules)

pub returns-in_err-place-clause-ready : goal.returns-in_err-place-clause-ready
returns-in_err-place-clause-ready c =
    let library = c.args.self.now in
    let call = c.args.call.now in
    let nowhere : c.source.result ≡ None = search rules in
    let at : slice_get library.procs call.number ≡ Some c.in_ok-checked.checked.now.procedure = search rules in
    let none : source library call ≡ None = ap (λ p. source_by library.records p call) at ∙ ap (λ place. named_by library.records call (key_at c.in_ok-checked.checked.now.procedure.keys place)) (sym c.source.ensures ∙ nowhere) in
    let back : None ≡ c.from_residual-in_err-place.result = search rules in
    subst (λ o. IfNone o (IsReady library call)) back (ready_without library call c.checked.ensures.catalog c.requires none)

pub returns-clause-ready : goal.returns-clause-ready
returns-clause-ready c =
    let library = c.args.self.now in
    let call = c.args.call.now in
    let is : c.source_for.result ≡ source library call = search rules in
    by_source c.source_for.result (λ none. ready_without library call c.records.ensures.catalog c.requires (sym is ∙ none))
  where
    by_source : (o : Option ℕ) → (o ≡ None → IsReady c.args.self.now c.args.call.now) → IfNone o (IsReady c.args.self.now c.args.call.now)
    by_source None ready = ready refl
    by_source (Some r) ready = tt
