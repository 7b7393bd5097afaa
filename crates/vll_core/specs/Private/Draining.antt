-- What is left to do in a state, and the events that reduce it.
use Rattle.std.specs.Prelude.{◌≡◌, ℕ, ◌+◌, ◌*◌, ◌-◌, false, length, Option, Some, None, if◌then◌else◌}
use Rattle.std.specs.List.{sum_by}
use Rattle.std.specs.Result.{IsOk}
use Rattle.vll_sca.specs.Headline.Status.{is_waiting}
use Rattle.vll_sca.specs.Status.{is_gone}
use Rattle.vll_core.specs.declared.event.Event.{Event}
use Rattle.vll_core.specs.State.{Opening, Entered, Turn, State, writes}
use Rattle.vll_core.specs.Machine.{step}
use Rattle.vll_core.specs.Drain.{begins_or_scans}

-- an event that is not refused, and is not Find, Enter or Scan
pub record IsNext (o : Opening) (s : State) (e : Event) : Type 0 where
  pub other : begins_or_scans e ≡ false
  pub taken : IsOk (step o s e)

-- the steps that a call has left: to begin, its loads, stores and releases, and to end
abbrev pub steps_left : Entered → ℕ
steps_left e =
    if is_gone e.status then 0
    else (if is_waiting e.status then 1 else 0) + (length e.call.claims - e.loads) + (length (writes e.call) - e.stores) + (length e.call.claims - e.releases) + 1

-- the requests that an open turn has left, its admission, and the most steps of its call
abbrev pub turn_left : Option Turn → ℕ
turn_left None = 0
turn_left (Some turn) = (length turn.call.claims - turn.requested) + 1 + (3 * length turn.call.claims + 2)

-- the most steps left in a state; a call that aborts makes no stores
abbrev pub left : State → ℕ
left s = sum_by steps_left s.entries + turn_left s.turn
