use Rattle.std.proofs.Common.{arith}
use Rattle.std.proofs.lemmas.Bool.{eqb-true}
use Rattle.vll_lines.proofs.Lines.{cut_at, no_feed, no_feed_before}
use Rattle.vll_lines.proofs.cutting.first_line.Goals as goal

pub returns-in_err-length-clause-none : goal.returns-in_err-length-clause-none
returns-in_err-length-clause-none c = rw c.from_residual.ensures (no_feed c.args.bytes.now (λ k low. c.in_err-length.ensures k (omega arith) low))

pub returns-clause-some : goal.returns-clause-some
returns-clause-some c =
    let bytes = c.args.bytes.now in
    let k = c.in_ok-length.length in
    let first = c.in_ok-length.ensures in (
      cut_at bytes k first.0.high (eqb-true _ _ first.1),
      no_feed_before bytes k (λ i low. first.0.before i (omega arith) low),
    )
