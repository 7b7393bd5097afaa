use Rattle.std.proofs.Common.{rules}
use Rattle.vll_sca.proofs.place.place_modulo.Goals as goal

pub returns-clause-place : goal.returns-clause-place
returns-clause-place c = search rules
