-- The steps that the plain machine takes for a list of events, as an observer sees them.
use Rattle.std.specs.Prelude.{List, [], ◌∷◌, Result}
use Rattle.vll_core.specs.declared.event.Event.{Event}
use Rattle.vll_core.specs.declared.seen.Seen.{Seen}
use Rattle.vll_core.specs.declared.refusal.Refusal.{Refusal}
use Rattle.vll_core.specs.State.{Opening, State}
use Rattle.vll_core.specs.Machine.{state_after, step, answer_of}

-- an event, with the state before it, its answer, and the state after it
pub record Step : Type 0 where
  pub before : State
  pub event : Event
  pub answer : Result Seen Refusal
  pub after : State

-- the step for an event
abbrev pub step_of : Opening → State → Event → Step
step_of o s e = record { before = s; event = e; answer = answer_of (step o s e); after = state_after s (step o s e) }

-- the steps for a list of events
abbrev pub steps : Opening → State → List Event → List Step
steps o s [] = []
steps o s (e ∷ es) = step_of o s e ∷ steps o (state_after s (step o s e)) es
