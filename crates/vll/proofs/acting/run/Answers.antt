use Rattle.std.proofs.Common.{◌≡◌, Err, ap, subst}
use Rattle.std.specs.Io.KnownBytes.{Appends}
use Rattle.vll_scenario.specs.Headline.Setup.{Setup}
use Rattle.vll_scenario.specs.Options.{with_options}
use Rattle.vll_scenario.specs.Streams.{AppendsBeginning}
use Rattle.vll_server.specs.Headline.Serve.{Serves}
use Rattle.vll_server.specs.declared.fault.ServeFault.TheVariants as serve_fault
use Rattle.vll.proofs.acting.run.Goals as goal

pub returns-in-Ok-clause-ok : goal.returns-in-Ok-clause-ok
returns-in-Ok-clause-ok g c =
    let P : Setup → Type 0 = λ s. Serves s (Appends (g.W.Sink.contents c.args.writer.now) (g.W.Sink.contents c.serve.new.writer)) in
    subst P {y = with_options c.args.options.engine c.args.scenario} c.chosen-scenario.ensures.scenario c.in-Ok.ensures.ok

pub returns-in-Err-clause-write : goal.returns-in-Err-clause-write
returns-in-Err-clause-write g c is =
    let same : c.in-Err.why ≡ serve_fault.Write = cc is in
    let P : Setup → Type 0 = λ s. Serves s (AppendsBeginning (g.W.Sink.contents c.args.writer.now) (g.W.Sink.contents c.serve.new.writer)) in
    subst P {y = with_options c.args.options.engine c.args.scenario} c.chosen-scenario.ensures.scenario (c.in-Err.ensures.write (ap Err same))
