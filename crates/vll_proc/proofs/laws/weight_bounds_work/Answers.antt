-- Each cost is at most the weight, whichever lists run.
use Rattle.vll_proc.proofs.Costs.{few_steps, few_turns, few_tests, is_light}
use Rattle.vll_proc.proofs.laws.weight_bounds_work.Goals as goal

pub returns-clause-steps : goal.returns-clause-steps
returns-clause-steps c = few_steps

pub returns-clause-turns : goal.returns-clause-turns
returns-clause-turns c = few_turns

pub returns-clause-tests : goal.returns-clause-tests
returns-clause-tests c = few_tests

pub returns-clause-most : goal.returns-clause-most
returns-clause-most c = is_light
