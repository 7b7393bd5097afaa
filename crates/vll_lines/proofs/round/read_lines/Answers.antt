use Rattle.std.proofs.Common.{◌≡◌, List, ◌++◌, take, sym, ap, ◌∙◌, subst, refl, rules, IfErr, Result, Ok, Err}
use Rattle.vll_lines.specs.Lines.{IsBroken}
use Rattle.vll_lines.specs.Private.Cutting.{Cuts}
use Rattle.vll_lines.specs.declared.request.Request.{Request}
use Rattle.vll_lines.specs.declared.round.Round.{Round}
use Rattle.vll_lines.specs.declared.round.RoundFault.{RoundFault}
use Rattle.vll_lines.specs.declared.round.RoundFault.TheVariants as fault
use Rattle.vll_lines.proofs.Cuts.{begun_more, begun_none, broken_memory, round_more}
use Rattle.vll_lines.proofs.Fitting.{asked_fit, asked_low}
use Rattle.vll_lines.proofs.round.read_lines.Goals as goal

pub loop-init : goal.loop-init
loop-init g c = (tt, tt, c.new-requests.ensures.items, c.requires.source, begun_none (g.S.Source.remaining c.args.source.now) c.args.tail.now.items c.requires.tail)

pub loop-preserved : goal.loop-preserved
loop-preserved g c =
    let known = g.S.Source.remaining in
    let before = c.loop.invariant in
    let none = c.in_ok-take_piece.ensures.none (ap Ok c.if-branch.false) in (
      tt,
      tt,
      none.0 ∙ before.2,
      c.in-Ok.ensures.ok ∙ before.3,
      begun_more (known c.args.source.now) (known c.loop.source) (known c.read.new.self) c.args.tail.now.items c.loop.tail.items c.take_piece.new.tail.items (take c.in-Ok.count c.read.new.buf) before.4
          c.in-Ok.ensures.bytes.0 none.1 none.2,
    )

pub returns-then-branch-clause-round : goal.returns-then-branch-clause-round
returns-then-branch-clause-round g c =
    let known = g.S.Source.remaining in
    let before = c.loop.invariant in
    let begun = before.4 in
    let library = c.args.library.now in
    let some = c.in_ok-take_piece.ensures.some (ap Ok c.if-branch.true) (c.args.tail.now.items ++ begun.bytes) begun.stands begun.unended in
    let cuts =
    subst (λ (old : List Request). Cuts library c.args.clients ((c.args.tail.now.items ++ begun.bytes) ++ take c.in-Ok.count c.read.new.buf) old c.take_piece.new.requests.items c.take_piece.new.tail.items)
    before.2 some in
    round_more library c.args.clients (known c.args.source.now) (known c.loop.source) (known c.read.new.self) c.args.tail.now.items c.loop.tail.items c.take_piece.new.tail.items
    (take c.in-Ok.count c.read.new.buf) _ begun c.in-Ok.ensures.bytes.0 refl cuts

pub returns-then-branch-clause-fits : goal.returns-then-branch-clause-fits
returns-then-branch-clause-fits g c = let round = returns-then-branch-clause-round g c in asked_fit c.args.library.now c.args.clients round.lines c.take_piece.new.requests.items round.requests

pub returns-then-branch-clause-clients : goal.returns-then-branch-clause-clients
returns-then-branch-clause-clients g c = let round = returns-then-branch-clause-round g c in asked_low c.args.library.now c.args.clients round.lines c.take_piece.new.requests.items round.requests

pub returns-then-count-eq0-clause-clients : goal.returns-then-count-eq0-clause-clients
returns-then-count-eq0-clause-clients g c =
    let begun = c.loop.invariant.4 in
    asked_low c.args.library.now c.args.clients _ c.end_line.new.requests.items (c.in_ok-end_line.ensures.requests (c.args.tail.now.items ++ begun.bytes) begun.stands begun.unended)

pub returns-then-count-eq0-clause-fits : goal.returns-then-count-eq0-clause-fits
returns-then-count-eq0-clause-fits g c =
    let begun = c.loop.invariant.4 in
    asked_fit c.args.library.now c.args.clients _ c.end_line.new.requests.items (c.in_ok-end_line.ensures.requests (c.args.tail.now.items ++ begun.bytes) begun.stands begun.unended)

pub returns-in_err-take_piece-clause-err : goal.returns-in_err-take_piece-clause-err
returns-in_err-take_piece-clause-err g c =
    let known = g.S.Source.remaining in
    let broken =
    broken_memory (known c.args.source.now) (known c.loop.source) (known c.read.new.self) c.args.tail.now.items c.loop.tail.items (take c.in-Ok.count c.read.new.buf) c.loop.invariant.4 c.in-Ok.ensures.bytes.0 in
    let is : c.from_residual-in_err-take_piece.result ≡ Err fault.NoMemory = search rules in
    subst (λ (r : Result Round RoundFault). IfErr r (IsBroken (known c.args.source.now) (known c.read.new.self))) (sym is) broken
