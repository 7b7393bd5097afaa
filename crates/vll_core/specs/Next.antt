-- What an event acts on, in the state in which it is made.
use Rattle.std.specs.Prelude.{Option, Some, None, slice_get}
use Rattle.vll_record.specs.declared.claim.Claim.{Claim}
use Rattle.vll_core.specs.declared.event.Event.{Event}
use Rattle.vll_core.specs.declared.event.Event.TheVariants as event
use Rattle.vll_core.specs.declared.line.Line.{Line}
use Rattle.vll_core.specs.State.{Entered, State, Turn}
use Rattle.vll_core.specs.Machine.{running}
use Rattle.vll_core.specs.Moves.{turn_request, entry_store, entry_release}

-- the next claim that an entry loads
abbrev pub entry_load : Option Entered → Option Claim
entry_load None = None
entry_load (Some e) = slice_get e.call.claims e.loads

-- the claim that an event acts on: the next one that the open turn requests, or that a running call loads, stores or
-- releases
abbrev pub claim_of : State → Event → Option Claim
claim_of s event.Claim = turn_request s.turn
claim_of s (event.Load t) = entry_load (running s t)
claim_of s (event.Store t) = entry_store (running s t)
claim_of s (event.Release t) = entry_release (running s t)
claim_of s other = None

-- the line that the call of an open turn gets
abbrev pub line_of_turn : Turn → Line
line_of_turn turn = record { client = turn.client; call = turn.call; reply = None }
