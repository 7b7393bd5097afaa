use Rattle.std.proofs.Common.{◌≡◌, take}
use Rattle.vll_draw.specs.Taped.{phases_in}
use Rattle.vll_draw.proofs.tape.phases_of.Given as goal

-- the phases of the tickets so far
abbrev pub invariant-loop-ticket : goal.invariant-loop-ticket
invariant-loop-ticket l = l.phases.items ≡ take l.ticket (phases_in l.core.state)
