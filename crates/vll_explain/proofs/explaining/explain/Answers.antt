use Rattle.std.proofs.Common.{rules}
use Rattle.vll_explain.proofs.explaining.explain.Goals as goal

-- the search as it is made without an answer: a goal that it does not prove is refused at its first try
pub returns-clause-ok : goal.returns-clause-ok
returns-clause-ok g c = search rules
