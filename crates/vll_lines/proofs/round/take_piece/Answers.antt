use Rattle.std.proofs.Common.{◌≡◌, ℕ, List, ◌∷◌, ◌++◌, sym, ap, ◌∙◌, subst, append_assoc, rules}
use Rattle.vll_lines.specs.Request.{IsLine}
use Rattle.vll_lines.specs.Private.Cutting.{Cuts}
use Rattle.vll_lines.specs.declared.request.Request.{Request}
use Rattle.vll_lines.proofs.Cuts.{cuts_join, cuts_one, line_stands}
use Rattle.vll_lines.proofs.Lines.{no_feed_after}
use Rattle.vll_lines.proofs.round.take_piece.Goals as goal

pub returns-clause-some : goal.returns-clause-some
returns-clause-some c = λ ok line stands none.
    let library = c.args.library.now in
    let clients = c.args.clients in
    let bytes : List ℕ = c.args.bytes.now in
    let end : List ℕ = c.in-Some.end.now in
    let rest : List ℕ = c.in-Some.rest.now in
    let old : List Request = c.args.requests.now.items in
    let one : Request = c.in_ok-line_asked.field-0 in
    let whole : List ℕ = line ++ end in
    let tail : List ℕ = c.grow-2.new.line.items in
    let is : IsLine library clients tail one = subst (λ (l : List ℕ). IsLine library clients l one) c.as_slice.ensures.value c.in_ok-line_asked.ensures in
    let first = cuts_one library clients whole rest old one (no_feed_after line end none c.in-Some.ensures.some.1) (line_stands library clients tail whole one (c.in_ok-grow-2.ensures line stands) is) in
    let cut_bytes : line ++ bytes ≡ whole ++ 10 ∷ rest = ap (λ (l : List ℕ). line ++ l) c.in-Some.ensures.some.0 ∙ sym (append_assoc line end (10 ∷ rest)) in
    cuts_join library clients (line ++ bytes) rest c.cut.new.tail.items old c.push.new.requests.items c.cut.new.requests.items
    (subst (λ (b : List ℕ). Cuts library clients b old c.push.new.requests.items rest) (sym cut_bytes)
    (subst (λ (n : List Request). Cuts library clients (whole ++ 10 ∷ rest) old n rest) (sym c.in_ok-push.ensures) first))
    c.in_ok-cut.ensures.cuts

pub returns-clause-none : goal.returns-clause-none
returns-clause-none c = search rules
