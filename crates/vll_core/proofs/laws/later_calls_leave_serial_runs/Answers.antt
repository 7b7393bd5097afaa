use Rattle.vll_core.proofs.SerialRun.{later_leave_states, later_leave_answers}
use Rattle.vll_core.proofs.laws.later_calls_leave_serial_runs.Goals as goal

pub returns-clause-states : goal.returns-clause-states
returns-clause-states c = later_leave_states

pub returns-clause-answers : goal.returns-clause-answers
returns-clause-answers c = later_leave_answers
