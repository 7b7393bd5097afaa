use Rattle.std.proofs.Common.{◌≡◌, ◌↔◌, IsTrue, rules, sym, ap, ◌∙◌, eqb-true}
use Rattle.vll_record.proofs.Common.{Decides-eqb, slice_eq-Decides}
use Rattle.vll_record.proofs.Same.{same_answer, same-from_fields, fields_from_same}
use Rattle.vll_record.proofs.claims.ClaimsPartialEq.eq.Goals.{then-self-other, else-self-other}
use Rattle.vll_record.proofs.claims.ClaimsPartialEq.eq.Goals as goal

same_in_both : (c : goal.After-eq-then-eq) → IsTrue c.eq-then-eq.result ↔ (c.args.self.now ≡ c.args.other.now)
same_in_both c =
    let a = c.self.inside in
    let b = c.other.inside in
    let ids = slice_eq-Decides Decides-eqb a.ids b.ids c.eq-then-eq.result c.eq-then-eq.ensures in
    let len : a.len ≡ b.len = elim c.if-self-other.branch [
      | then-self-other w ↦ w.if-self-other.true
      | else-self-other w ↦ eqb-true a.len b.len (sym w.value-is ∙ c.if-eq.true)
    ] in
    let writes : a.modes.writes ≡ b.modes.writes = elim c.if-self-other.branch [
      | then-self-other w ↦ eqb-true a.modes.writes b.modes.writes (sym w.eq.ensures ∙ sym w.value-is ∙ c.if-eq.true)
      | else-self-other w ↦ absurd (w.if-self-other.false len)
    ] in (
      λ yes. same-from_fields a b c.args.self.now c.args.other.now c.self.view_is c.other.view_is len writes (ids.0 yes),
      λ same. ids.1 (ap (λ i. i.ids) (fields_from_same a b c.args.self.now c.args.other.now c.self.invariant c.other.invariant c.self.view_is c.other.view_is same)),
    )

pub returns-then-eq-clause-same : goal.returns-then-eq-clause-same
returns-then-eq-clause-same c = same_in_both c

pub returns-then-eq-clause-value : goal.returns-then-eq-clause-value
returns-then-eq-clause-value c = same_answer c.eq-then-eq.result c.args.self.now c.args.other.now (same_in_both c)

pub returns-else-eq-clause-value : goal.returns-else-eq-clause-value
returns-else-eq-clause-value c =
    let same : IsTrue c.if-self-other.value ↔ (c.args.self.now ≡ c.args.other.now) = search rules in
    same_answer c.if-self-other.value c.args.self.now c.args.other.now same
