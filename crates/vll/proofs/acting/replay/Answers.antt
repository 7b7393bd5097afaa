use Rattle.std.proofs.Common.{◌∙◌, subst}
use Rattle.vll_scenario.specs.Streams.{AppendsBeginning}
use Rattle.vll.proofs.acting.replay.Goals as goal

pub returns-clause-write : goal.returns-clause-write
returns-clause-write g c is =
    subst (AppendsBeginning (g.W.Sink.contents c.args.writer.now) (g.W.Sink.contents c.write_text.new.writer)) (c.as_bytes.ensures.value ∙ c.in-Ok.ensures.text) c.in-Err.ensures.err
