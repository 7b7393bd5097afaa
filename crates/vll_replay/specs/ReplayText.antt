-- The text of a replay: a line for each event of the schedule, and the outcome of the state at its end.
use Rattle.std.specs.Prelude.{ℕ, List, ◌∷◌, [], ◌++◌, map, Result, Ok, Err, Bool, true, false, codes}
use Rattle.std.specs.List.{flat_map, enumerate_from}
use Rattle.std.specs.Fmt.{decimal}
use Rattle.vll_proc.specs.declared.call.Call.{Call}
use Rattle.vll_proc.specs.declared.call.Reply.{Reply}
use Rattle.vll_sca.specs.declared.status.Status.{Status}
use Rattle.vll_sca.specs.declared.status.Status.TheVariants.{Running, Waiting, Gone}
use Rattle.vll_core.specs.declared.event.Event.{Event}
use Rattle.vll_core.specs.declared.seen.Seen.{Seen}
use Rattle.vll_core.specs.declared.seen.Seen.TheVariants.{Found, Opened, Claimed, Free, Blocked, Run, Loaded, Stored, Released, Replied}
use Rattle.vll_core.specs.declared.refusal.Refusal.{Refusal}
use Rattle.vll_core.specs.declared.refusal.Refusal.TheVariants.{TurnOpen, NoTurn, NoCall, Spent, Busy, NotRunning, OutOfStep, Idle}
use Rattle.vll_core.specs.Headline.State.{Base}
use Rattle.vll_core.specs.State.{Opening, Entered, State, reply_at, value, counter}
use Rattle.vll_core.specs.Machine.{opened, answers, run}
use Rattle.vll_proc.specs.Headline.Text.{reply_text}
use Rattle.vll_replay.specs.Headline.Text.{Text, outcome_text}

-- whether a request was granted
abbrev pub grant_text : Bool → Text
grant_text true = codes " granted"
grant_text false = codes " denied"

-- what an event saw
abbrev pub seen_text : Seen → Text
seen_text (Found v) = codes "found " ++ decimal v
seen_text Opened = codes "opened"
seen_text (Claimed old granted) = codes "claimed " ++ decimal old ++ grant_text granted
seen_text (Free t) = codes "free " ++ decimal t
seen_text (Blocked t) = codes "blocked " ++ decimal t
seen_text (Run t) = codes "run " ++ decimal t
seen_text (Loaded v) = codes "loaded " ++ decimal v
seen_text Stored = codes "stored"
seen_text (Released old) = codes "released " ++ decimal old
seen_text (Replied r) = codes "replied " ++ reply_text r

-- why an event was refused
abbrev pub refusal_text : Refusal → Text
refusal_text TurnOpen = codes "turn open"
refusal_text NoTurn = codes "no turn"
refusal_text NoCall = codes "no call"
refusal_text Spent = codes "spent"
refusal_text Busy = codes "busy"
refusal_text NotRunning = codes "not running"
refusal_text OutOfStep = codes "out of step"
refusal_text Idle = codes "idle"

-- the answer to an event
abbrev pub event_text : Result Seen Refusal → Text
event_text (Ok seen) = seen_text seen
event_text (Err why) = codes "refused " ++ refusal_text why

-- the line of an event, with its number
abbrev pub event_line : ℕ × Result Seen Refusal → Text
event_line (i, told) = decimal i ++ 32 ∷ event_text told ++ 10 ∷ []

-- the words of a call's state: its reply once it is gone, else its status
abbrev pub status_text : Status → Reply → Text
status_text Gone reply = reply_text reply
status_text Running reply = codes "running"
status_text Waiting reply = codes "waiting"

-- an entered call's client, and the words of the call's state
abbrev pub call_words : Base → State → ℕ × Entered → ℕ × Text
call_words b s (t, e) = (e.client, status_text e.status (reply_at b s t e))

-- the outcome of a state
abbrev pub state_text : Base → State → Text
state_text b s =
    outcome_text (map (call_words b s) (enumerate_from 0 s.entries)) (map (λ (p : ℕ × ℕ). (value b s p.0, counter s p.0)) (enumerate_from 0 b.records))

-- a line for each event of the schedule, and the outcome of the state at its end
abbrev pub replay_text : Opening → List (List Call) → List Event → Text
replay_text o scripts events =
    flat_map event_line (enumerate_from 0 (answers o (opened scripts) events)) ++ state_text o.base (run o (opened scripts) events)
