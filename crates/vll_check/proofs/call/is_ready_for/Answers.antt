use Rattle.std.proofs.Common.{◌≡◌, ◌∙◌, ℕ, Some, Ok, Err, ap, sym, take, rules}
use Rattle.vll_check.proofs.Common.{false≢true, found_by, call_to}
use Rattle.vll_check.proofs.Fitting.{any, any_is, fault_made, made_number, ready_own, same_Ok}
use Rattle.vll_check.proofs.call.is_ready_for.Goals as goal

pub returns-in-Ok : goal.returns-in-Ok
returns-in-Ok c =
    let n = c.args.records in
    let p = c.args.procedure.now in
    let call = c.args.call.now in
    let args = c.in-Some.args.now in
    let made = c.in-Ok.made in
    let w : ℕ = c.unwrap_or.result in
    let own : args ≡ take call.arg_count call.args = search rules in
    let answer : call_to n call.number (Some p) args ≡ Ok made = search rules in
    let found : c.found_for.result ≡ found_by n (Some p) made w = search rules in
    let kept : (v : ℕ) → call.found ≡ Some v → w ≡ v = λ v is. search rules in (
      λ t.
          let same : c.found_for.result ≡ call = search rules in
          (made, w, ((args, ap (λ k. call_to n k (Some p) args) (made_number n call.number p args made answer) ∙ answer), sym same ∙ found)),
      λ h.
          let has = ready_own n p call w kept h.0 h.1 h.2.0 h.2.1 in
          let same_made : made ≡ has.made = same_Ok made has.made (sym answer ∙ ap (call_to n call.number (Some p)) own ∙ has.own) in
          let same : c.found_for.result ≡ call = found ∙ ap (λ m. found_by n (Some p) m w) same_made ∙ sym has.found in
          search rules,
    )

pub returns-in-Err : goal.returns-in-Err
returns-in-Err c =
    let n = c.args.records in
    let p = c.args.procedure.now in
    let call = c.args.call.now in
    let args = c.in-Some.args.now in
    let own : args ≡ take call.arg_count call.args = search rules in
    let answer : call_to n call.number (Some p) args ≡ Err c.in-Err.field-0 = search rules in (
      λ t. absurd (false≢true t),
      λ h.
          let has = ready_own n p call (any call.found) (any_is call.found) h.0 h.1 h.2.0 h.2.1 in
          absurd (fault_made c.in-Err.field-0 has.made (sym answer ∙ ap (call_to n call.number (Some p)) own ∙ has.own)),
    )
