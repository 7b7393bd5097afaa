use Rattle.std.proofs.Common.{ℕ, List, ◌∷◌, ◌++◌, [], sym, subst}
use Rattle.vll_lines.specs.Private.Cutting.{Cuts}
use Rattle.vll_lines.specs.declared.request.Request.{Request}
use Rattle.vll_lines.proofs.Cuts.{cuts_join, cuts_none, cuts_one}
use Rattle.vll_lines.proofs.cutting.cut.Goals as goal

pub lines-init : goal.lines-init
lines-init c = cuts_none c.args.library.now c.args.clients c.args.bytes.now c.args.requests.now.items

pub lines-preserved : goal.lines-preserved
lines-preserved c =
    let library = c.args.library.now in
    let clients = c.args.clients in
    let l = c.lines in
    let line : List ℕ = c.in-Some.line.now in
    let more : List ℕ = c.in-Some.more.now in
    let one : Request = c.in_ok-line_asked.field-0 in
    let first = cuts_one library clients line more l.requests.items one c.in-Some.ensures.some.1 c.in_ok-line_asked.ensures in
    let from_rest : Cuts library clients l.rest.now l.requests.items (l.requests.items ++ one ∷ []) more = subst (λ (r : List ℕ). Cuts library clients r l.requests.items (l.requests.items ++ one ∷ []) more) (sym c.in-Some.ensures.some.0) first in
    cuts_join library clients c.args.bytes.now l.rest.now more c.args.requests.now.items l.requests.items c.push.new.requests.items l.invariant
    (subst (λ (n : List Request). Cuts library clients l.rest.now l.requests.items n more) (sym c.in_ok-push.ensures) from_rest)
