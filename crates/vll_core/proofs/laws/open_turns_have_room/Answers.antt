use Rattle.vll_core.proofs.laws.open_turns_have_room.Goals as goal
use Rattle.vll_core.proofs.Reached.{turn_has_room}

pub returns : goal.returns
returns c = turn_has_room
