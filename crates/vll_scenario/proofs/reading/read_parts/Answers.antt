use Rattle.serde_json.specs.View.{view}
use Rattle.vll_scenario.proofs.Answering.{shape_reads_nothing}
use Rattle.vll_scenario.proofs.reading.read_parts.Goals as goal

pub returns-clause-failed : goal.returns-clause-failed
returns-clause-failed g c =
    (λ e. absurd (shape_reads_nothing c.shape_of.result (view c.in_ok-tree.tree) c.shape_of.ensures e), λ failed. let impossible = c.in_ok-tree.ensures.failed.1 failed in cc)
