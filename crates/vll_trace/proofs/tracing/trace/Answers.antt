use Rattle.std.proofs.Common.{string_bytes, subst}
use Rattle.std.specs.Io.KnownBytes.{Appends}
use Rattle.vll_scenario.specs.Streams.{AppendsBeginning}
use Rattle.vll_trace.proofs.Retraced.{holding}
use Rattle.vll_trace.proofs.tracing.trace.Goals as goal

pub returns-in-Ok-clause-ok : goal.returns-in-Ok-clause-ok
returns-in-Ok-clause-ok g c =
    let old = g.S.Sink.contents c.args.writer.now in
    let new = g.S.Sink.contents c.write_text.new.writer in
    holding c.args.scenario (string_bytes c.in_ok-text.text) (Appends old new) c.in_ok-text.ensures.traced (subst (Appends old new) c.as_bytes.ensures.value c.in-Ok.ensures.ok)

pub returns-clause-write : goal.returns-clause-write
returns-clause-write g c is =
    let old = g.S.Sink.contents c.args.writer.now in
    let new = g.S.Sink.contents c.write_text.new.writer in
    holding c.args.scenario (string_bytes c.in_ok-text.text) (AppendsBeginning old new) c.in_ok-text.ensures.traced (subst (AppendsBeginning old new) c.as_bytes.ensures.value c.in-Err.ensures.err)
