use Rattle.std.proofs.Common.{Some}
use Rattle.serde_json.specs.View.{view}
use Rattle.vll_scenario.specs.Syntax.{expr_at}
use Rattle.vll_scenario.proofs.Forms.{branch-other_word}
use Rattle.vll_scenario.proofs.reading.syntax.statement.branch_of.Goals as goal

pub returns-in_default : goal.returns-in_default
returns-in_default c = branch-other_word c.args.word.now (expr_at (view c.args.test.now)) (Some c.args.first) (Some c.args.second) c.in_default.not-if
