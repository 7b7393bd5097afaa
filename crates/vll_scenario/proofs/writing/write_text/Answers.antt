use Rattle.std.proofs.Common.{arith, rules}
use Rattle.std.proofs.lemmas.Grind.{common_steps}
use Rattle.vll_scenario.proofs.Written.{HasWritten-more}
use Rattle.vll_scenario.proofs.writing.write_text.Goals as goal

pub pieces-preserved : goal.pieces-preserved
pieces-preserved g c = record {
  fine = grind (arith, common_steps, c.in-Ok.ensures.ok);
  written = HasWritten-more _ _ _ _ _ c.in-Ok.count c.pieces.invariant.written c.in-Ok.ensures.bytes;
}

pub returns-in_default-clause-ok : goal.returns-in_default-clause-ok
returns-in_default-clause-ok g c = search rules

pub returns-in_default-clause-failed : goal.returns-in_default-clause-failed
returns-in_default-clause-failed g c = search rules
