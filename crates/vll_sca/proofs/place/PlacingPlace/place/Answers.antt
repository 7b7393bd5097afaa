use Rattle.std.proofs.Common.{rules}
use Rattle.vll_sca.proofs.place.PlacingPlace.place.Goals as goal

pub returns-in-Spread : goal.returns-in-Spread
returns-in-Spread c = search rules
