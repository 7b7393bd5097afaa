use Rattle.std.proofs.Common.{◌≡◌, ◌∙◌, arith, ap, ap₂, subst, sym, true}
use Rattle.std.proofs.lemmas.Grind.{common_steps}
use Rattle.vll_sca.specs.Placing.{placing}
use Rattle.vll_core.specs.Machine.{answers, opened, run}
use Rattle.vll_core.specs.Shown.{opening_of}
use Rattle.vll_replay.specs.Replay.{opening_for}
use Rattle.vll_replay.specs.ReplayText.{state_text}
use Rattle.vll_scenario.specs.Headline.Setup.{Setup}
use Rattle.serde_json.specs.View.{view}
use Rattle.serde_json.proofs.Nesting.{depth-read}
use Rattle.vll_trace.proofs.Repeated.{alike_are_one}
use Rattle.vll_trace.specs.Traced.{AreGranted, end_of}
use Rattle.vll_trace.proofs.tracing.is_taken.Goals as goal

-- what was read nests no deeper than the reader allows
pub are_alike-requires-clause-other : goal.are_alike-requires-clause-other
are_alike-requires-clause-other c = depth-read c.args.text.now (view c.in_ok-again.again) c.in_ok-again.ensures.tree.1

pub returns-clause-taken : goal.returns-clause-taken
returns-clause-taken c is read of_tree =
    let setup = c.in_ok-again.scenario in
    let core = c.in_ok-core.core in
    let again = c.in_ok-again.again in
    let alike = c.in_ok-are_alike.ensures (grind (arith, common_steps)) in
    let one = alike_are_one (view c.args.tree.now) (view again) read setup alike of_tree c.in_ok-again.ensures.scenario in
    let same : c.from_parts.result ≡ setup = grind (arith, common_steps) in
    let o : opening_of placing core ≡ opening_for setup = c.in_ok-core.ensures.opening ∙ ap opening_for same in
    let s : core.state ≡ opened setup.scripts = c.in_ok-core.ensures.state ∙ ap (λ (x : Setup). opened x.scripts) same in
    let es : c.as_slice.result.now ≡ setup.schedule = c.as_slice.ensures ∙ c.in_ok-core.ensures.schedule ∙ ap (λ (x : Setup). x.schedule) same in
    let taken : c.takes_all.result ≡ true = grind (arith, common_steps) in
    let told : answers (opening_of placing core) core.state c.as_slice.result.now ≡ answers (opening_for setup) (opened setup.scripts) setup.schedule = cc in
    let ran : run (opening_of placing core) core.state c.as_slice.result.now ≡ end_of setup = cc in
    let after = c.takes_all.ensures.state taken in
    let left = ap (λ k. k.state) after ∙ ran in
    let base = ap (λ k. k.base) after ∙ ap (λ p. p.base) o in
    record {
      few = c.in_ok-again.ensures.few;
      tree = view again;
      is_tree = c.in_ok-again.ensures.tree;
      setup = setup;
      is_setup = c.in_ok-again.ensures.scenario;
      again = record {
        records = sym one.records;
        procs = sym one.procs;
        scripts = sym one.scripts;
        placing = sym one.placing;
        cap = grind (arith, common_steps);
        bits = grind (arith, common_steps);
      };
      granted = subst AreGranted told (c.takes_all.ensures.granted taken);
      ended = sym (ap₂ state_text base left) ∙ c.ends_alike.ensures.alike is;
    }
