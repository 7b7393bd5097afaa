use Rattle.vll_core.proofs.AtWork.{loading_first}
use Rattle.vll_core.proofs.execution.Execution.new.Goals as goal

pub returns-clause-at_work : goal.returns-clause-at_work
returns-clause-at_work c = λ procs records is made known.
    c.run_if_loaded.ensures.at_work procs records is made known (loading_first c.args.call.now.claims records _ c.blank-execution.ensures.loads c.blank-execution.ensures.frame c.blank-execution.ensures.reply)
