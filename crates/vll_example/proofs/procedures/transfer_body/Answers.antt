use Rattle.std.proofs.Common.{rules}
use Rattle.vll_example.proofs.procedures.transfer_body.Goals as goal

pub returns : goal.returns
returns c = search rules
