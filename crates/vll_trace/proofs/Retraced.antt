-- What is a trace of other settings is one of the scenario that a tree describes, and what holds of a trace's text.
use Rattle.std.proofs.Common.{◌≡◌, ◌∙◌, ap, subst, sym}
use Rattle.vll_core.specs.declared.config.Config.{Config}
use Rattle.vll_queue.specs.declared.closed.Closed.{Closed}
use Rattle.vll_replay.specs.Headline.Text.{Text}
use Rattle.vll_scenario.specs.Headline.Setup.{Setup}
use Rattle.vll_trace.specs.Traced.{IsTrace, Traces}

-- `read` is what the tree describes, the settings are those of the scenario, but for the limit
pub retraced : (s read : Setup) (config : Config) (closed : Closed) (text : Text) → s ≡ record read { config = s.config } → config.cap ≡ s.config.cap → config.bits ≡ s.config.bits
    → IsTrace (record read { config = config }) closed text → IsTrace s closed text
retraced s read config closed text same cap bits t = record {
  few = t.few;
  tree = t.tree;
  is_tree = t.is_tree;
  setup = t.setup;
  is_setup = t.is_setup;
  again = record {
    records = t.again.records ∙ sym (ap (λ (x : Setup). x.records) same);
    procs = t.again.procs ∙ sym (ap (λ (x : Setup). x.procs) same);
    scripts = t.again.scripts ∙ sym (ap (λ (x : Setup). x.scripts) same);
    placing = t.again.placing ∙ sym (ap (λ (x : Setup). x.placing) same);
    cap = t.again.cap ∙ cap;
    bits = t.again.bits ∙ bits;
  };
  granted = t.granted;
  ended = t.ended;
}

-- what holds of the text holds of a trace
pub holding : (s : Setup) (text : Text) (Holds : Text → Type 0) → Traces s (λ t. t ≡ text) → Holds text → Traces s Holds
holding s text Holds (closed, served, t, traced, is) holds = (closed, served, t, traced, subst Holds (sym is) holds)
