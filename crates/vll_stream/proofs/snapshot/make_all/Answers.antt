use Rattle.std.proofs.Common.{length, refl}
use Rattle.std.proofs.lemmas.Option.{slice_get_read}
use Rattle.vll_check.specs.Calls.{IsReady}
use Rattle.vll_core.specs.declared.line.Line.{Line}
use Rattle.vll_core.proofs.Places.{all_at}
use Rattle.vll_stream.proofs.snapshot.make_all.Goals as goal

pub make-requires-clause-ready : goal.make-requires-clause-ready
make-requires-clause-ready c =
    let lines = c.args.lines.now in
    let i = c.loop-line.line-index in
    all_at (λ (l : Line). IsReady c.args.library.now l.call) lines i c.line-item.result c.requires.ready
    (slice_get_read lines (length lines) i c.line-item.result refl c.loop-line-test.true c.line-item.is)
