use Rattle.std.proofs.Common.{arith, refl, string_bytes, subst}
use Rattle.std.proofs.lemmas.Grind.{common_steps}
use Rattle.vll_replay.specs.Headline.Text.{Text}
use Rattle.vll_scenario.specs.Headline.Setup.{Setup}
use Rattle.vll_server.specs.Headline.Serve.{IsServed}
use Rattle.vll_trace.specs.Traced.{IsTrace}
use Rattle.vll_trace.proofs.Retraced.{retraced}
use Rattle.vll_trace.proofs.tracing.text_of_trace.Goals as goal

pub returns-clause-traced : goal.returns-clause-traced
returns-clause-traced g c =
    let closed = c.in-Ok.closed in
    let text = string_bytes c.in_ok-text.text in
    let made = c.in_ok-scenario.ensures in
    let read = c.requires.tree.1 in
    let ran = record read { config = c.in_ok-scenario.config } in
    let served = subst (λ (s : Setup). IsServed s closed) made.scenario c.in-Ok.ensures.ok in
    let traced = c.in_ok-is_taken.ensures.taken (grind (arith, common_steps)) read c.requires.tree.2 in
    let same = subst (λ (t : Text). IsTrace ran closed t) c.as_str.ensures.value traced in
    (closed, served, text, retraced c.args.scenario read c.in_ok-scenario.config closed text c.requires.tree.3 made.cap made.bits same, refl)
