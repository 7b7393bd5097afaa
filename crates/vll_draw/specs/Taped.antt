-- What a tape has kept of the steps that it has seen.
use Rattle.std.specs.Prelude.{◌≡◌, ℕ, ◌-◌, ◌^◌, ◌≤◌, List, [], ◌∷◌, Option, Some, None, length, map, min}
use Rattle.vll_sca.specs.declared.status.Status.{Status}
use Rattle.vll_sca.specs.declared.status.Status.TheVariants as status
use Rattle.vll_core.specs.declared.event.Event.{Event}
use Rattle.vll_core.specs.State.{Entered, Opening, State}
use Rattle.vll_core.specs.Shown.{AreWords}
use Rattle.vll_core.specs.Moves.{IsReached}
use Rattle.vll_core.specs.Next.{claim_of}
use Rattle.vll_replay.specs.Steps.{Step}
use Rattle.vll_draw.specs.Columns.{AreColumns, window}
use Rattle.vll_scenario.specs.declared.event_range.EventRange.{EventRange}
use Rattle.vll_draw.specs.declared.picture.drawing.Phase.{Phase}
use Rattle.vll_draw.specs.declared.picture.drawing.Phase.TheVariants as phase
use Rattle.vll_draw.specs.declared.picture.drawing.Standing.{Standing}
use Rattle.vll_draw.specs.declared.tape.Tape.{Tape}

-- the steps that are drawn
abbrev pub drawn : EventRange → List Step → List Step
drawn w past = window w.from w.count past

-- how far a call with this status has come; without a status it has not entered
abbrev pub phase_of : Option Status → Phase
phase_of None = phase.Outside
phase_of (Some status.Waiting) = phase.Waiting
phase_of (Some status.Running) = phase.Running
phase_of (Some status.Gone) = phase.Gone

-- how far each entered call has come
abbrev pub phases_in : State → List Phase
phases_in s = map (λ (e : Entered). phase_of (Some e.status)) s.entries

-- the words of a state that lawful moves reach, and how far each of its calls has come
pub record Stands (o : Opening) (s : State) (standing : Standing) : Type 0 where
  pub reached : IsReached o s
  pub words : AreWords o.base s standing.words.items
  pub phases : standing.phases.items ≡ phases_in s

-- the number of steps, a column for each that is drawn, and what stood before the first of these
pub record HasTaped (o : Opening) (w : EventRange) (past : List Step) (t : Tape) : Type 0 where
  pub events : t.events ≡ min (length past) (2 ^ 64 - 1)
  pub ahead : t.ahead ≡ w.from - length past
  pub most : t.most ≡ w.count
  pub columns : AreColumns o.base (drawn w past) t.columns.items
  pub standing : (s : Step) (more : List Step) → drawn w past ≡ s ∷ more → Stands o s.before t.standing

-- if the next step is the first one that is drawn, what stood before it was kept
abbrev pub StandsBefore : Opening → EventRange → List Step → State → Tape → Type 0
StandsBefore o w past s t = w.from ≤ length past → drawn w past ≡ [] → Stands o s t.standing

-- besides these, what the machine has shown before an event
pub record Tapes (o : Opening) (w : EventRange) (past : List Step) (s : State) (e : Event) (t : Tape) : Type 0 where
  pub taped : HasTaped o w past t
  pub claim : t.claim ≡ claim_of s e
  pub before : StandsBefore o w past s t
