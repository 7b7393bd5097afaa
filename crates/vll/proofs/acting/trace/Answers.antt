use Rattle.std.proofs.Common.{◌≡◌, ◌∙◌, ap, subst, sym}
use Rattle.std.specs.Io.KnownBytes.{Appends}
use Rattle.vll_explain.specs.declared.explaining.Parsed.{Parsed}
use Rattle.vll_scenario.specs.Headline.Setup.{Setup}
use Rattle.vll_scenario.specs.Options.{with_options}
use Rattle.vll_scenario.specs.declared.engine_options.EngineOptions.{EngineOptions}
use Rattle.vll_trace.specs.Traced.{IsTreeOf, Traces}
use Rattle.vll.proofs.acting.trace.Goals as goal

settled : (o : EngineOptions) (read s t : Setup) → s ≡ record read { config = s.config } → t ≡ with_options o s → t ≡ record read { config = t.config }
settled o read s t same is =
    is ∙ ap (λ (x : Setup). record x { config = (with_options o s).config }) same ∙ ap (λ (x : Setup). record read { config = x.config }) (sym is)

-- the options change the settings of what was read
of_options : (o : EngineOptions) (p : Parsed) (t : Setup) → t ≡ with_options o p.scenario → IsTreeOf p.tree p.scenario → IsTreeOf p.tree t
of_options o p t is (few, read, is_read, same) = (few, read, is_read, settled o read p.scenario t same is)

pub trace-requires-clause-tree : goal.trace-requires-clause-tree
trace-requires-clause-tree g c κs lives = of_options c.args.options.engine c.args.parsed c.chosen-scenario.result.0 c.chosen-scenario.ensures.scenario c.requires.tree

pub returns-in-Ok-clause-ok : goal.returns-in-Ok-clause-ok
returns-in-Ok-clause-ok g c =
    let old = g.W.Sink.contents c.args.writer.now in
    let new = g.W.Sink.contents c.trace.new.writer in
    subst (λ (s : Setup). Traces s (Appends old new)) c.chosen-scenario.ensures.scenario c.in-Ok.ensures.ok
