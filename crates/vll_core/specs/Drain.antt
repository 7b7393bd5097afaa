-- Draining a machine: an open turn is closed and each call finished, by events other than Find, Enter and Scan.
use Rattle.std.specs.Prelude.{◌≡◌, ℕ, ◌+◌, ◌*◌, Bool, true, false, List, length, Option, Some, None, All, is_ok, slice_index, if◌then◌else◌}
use Rattle.std.specs.List.{sum_by}
use Rattle.vll_proc.specs.Headline.Serial.{end}
use Rattle.vll_sca.specs.Status.{is_gone}
use Rattle.vll_core.specs.declared.event.Event.{Event}
use Rattle.vll_core.specs.declared.event.Event.TheVariants as event
use Rattle.vll_core.specs.Headline.State.{Base}
use Rattle.vll_core.specs.State.{Opening, Entered, Turn, State, entered, counter, value}
use Rattle.vll_core.specs.Machine.{answers, run}

-- an event is Find, Enter or Scan
abbrev pub begins_or_scans : Event → Bool
begins_or_scans (event.Find client) = true
begins_or_scans (event.Enter client) = true
begins_or_scans event.Scan = true
begins_or_scans other = false

-- `made` events lead from `s` to `next`: none of them is Find, Enter or Scan, and none is refused
pub record IsDrained (o : Opening) (s next : State) (made : ℕ) : Type 0 where
  pub events : List Event
  pub number : length events ≡ made
  pub others : All (λ e. begins_or_scans e ≡ false) events
  pub taken : All (λ answer. is_ok answer ≡ true) (answers o s events)
  pub leads : run o s events ≡ next

-- every call is gone and no turn is open: each record has the value that the calls give it one at a time in order of
-- entry, and each counter is 0
pub record IsAtEnd (o : Base) (s : State) : Type 0 where
  pub closed : s.turn ≡ None
  pub gone : All (λ (e : Entered). is_gone e.status ≡ true) s.entries
  pub values : (r : ℕ) → value o s r ≡ slice_index (end o.procs (entered s) o.records) r
  pub counters : (r : ℕ) → counter s r ≡ 0

-- the most events that it takes to finish a call: three for each of its claims, plus two
abbrev pub most_of : Entered → ℕ
most_of e = if is_gone e.status then 0 else 3 * length e.call.claims + 2

-- the most events that it takes to close a turn and finish its call: four for each of its claims, plus three
abbrev pub most_of_turn : Option Turn → ℕ
most_of_turn None = 0
most_of_turn (Some turn) = 4 * length turn.call.claims + 3

-- the most events that bring a machine to its end
abbrev pub most_events : State → ℕ
most_events s = sum_by most_of s.entries + most_of_turn s.turn
