use Rattle.std.proofs.Common.{ℕ, ◌<◌, List, [], ◌∷◌, ◌++◌, length, sym, ap, ◌∙◌, subst, arith}
use Rattle.std.proofs.lemmas.Grind.{common_steps}
use Rattle.vll_lines.specs.Request.{AreRequests, IsLine}
use Rattle.vll_lines.specs.Lines.{lines_in}
use Rattle.vll_lines.specs.declared.request.Request.{Request}
use Rattle.vll_lines.proofs.Cuts.{asked_last}
use Rattle.vll_lines.proofs.round.end_line.Goals as goal

pub returns-in_ok-push-clause-requests : goal.returns-in_ok-push-clause-requests
returns-in_ok-push-clause-requests c = λ line stands none.
    let tail : List ℕ = c.args.tail.now.items in
    let one : Request = c.in_ok-line_asked.field-0 in
    let is : IsLine c.args.library.now c.args.clients tail one = subst (λ (l : List ℕ). IsLine c.args.library.now c.args.clients l one) c.as_slice.ensures.value c.in_ok-line_asked.ensures in
    let some : 0 < length tail = let e = c.is_empty.ensures in let t = c.if-not-is_empty.true in grind arith in
    subst (AreRequests c.args.library.now c.args.clients (lines_in line)) (sym (c.in_ok-push.ensures ∙ ap (λ (xs : List Request). xs ++ one ∷ []) c.requires.requests))
    (asked_last c.args.library.now c.args.clients tail line one stands none some is)

pub returns-else-not-is_empty-clause-tail : goal.returns-else-not-is_empty-clause-tail
returns-else-not-is_empty-clause-tail c = grind (arith, common_steps)
