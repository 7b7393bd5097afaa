use Rattle.vll_scenario.specs.Scenario.{parts_at, scenario_at, setup_of}
use Rattle.vll_scenario.proofs.Answering.{reads_further, reads_tell, setup_reads_nothing}
use Rattle.vll_scenario.proofs.reading.read_scenario.Goals as goal

-- what was read has parts, and the scenario that they give is answered
pub returns-clause-told : goal.returns-clause-told
returns-clause-told g c =
    reads_tell scenario_at _ _ c.setup_of.result (reads_further parts_at setup_of _ _ c.in_ok-parts.parts c.setup_of.result c.in_ok-parts.ensures.parts c.setup_of.ensures)

pub returns-clause-failed : goal.returns-clause-failed
returns-clause-failed g c =
    (λ e. absurd (setup_reads_nothing c.setup_of.result c.in_ok-parts.parts c.setup_of.ensures e), λ failed. let impossible = c.in_ok-parts.ensures.failed.1 failed in cc)
