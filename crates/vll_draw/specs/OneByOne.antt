-- The schedule that is drawn of a scenario without one: each call of the scripts is made alone, one after the other.
use Rattle.std.specs.Prelude.{ℕ, suc, List, [], ◌∷◌, ◌++◌, map, length, replicate, take, Some, None, is_some, slice_index, if◌then◌else◌}
use Rattle.vll_proc.specs.declared.call.Call.{Call}
use Rattle.vll_proc.specs.declared.call.Reply.{Reply}
use Rattle.vll_proc.specs.Headline.Serial.{Made, apply}
use Rattle.vll_check.specs.Headline.Calls.{source, with_found}
use Rattle.vll_check.specs.Headline.Catalog.{Catalog}
use Rattle.vll_core.specs.declared.event.Event.{Event}
use Rattle.vll_core.specs.declared.event.Event.TheVariants as event
use Rattle.vll_core.specs.State.{is_aborted, writes}
use Rattle.vll_scenario.specs.declared.limits.TheConstants.{MOST_EVENTS}
use Rattle.vll_scenario.specs.Headline.Setup.{Setup, catalog_of}

-- the calls of scripts, client by client, each client's in its own order
abbrev pub by_clients : ℕ → List (List Call) → List Made
by_clients client [] = []
by_clients client (script ∷ more) = map (λ (call : Call). (client, call)) script ++ by_clients (suc client) more

-- a call as it enters: if it has an indirect key, with the value that its source holds
abbrev pub entering : Catalog → List ℕ → Call → Call
entering c records call = elim (source c call) [ None ↦ call | Some r ↦ with_found c call (slice_index records r) ]

-- how often the source of a call is loaded: once if the call has one
abbrev pub finds : Catalog → Call → ℕ
finds c call = if is_some (source c call) then 1 else 0

-- how many stores a call makes: one for each record that it claims for writing, none if it aborts
abbrev pub stores : Call → Reply → ℕ
stores call reply = if is_aborted reply then 0 else length (writes call)

-- the events of a call from its entry until it waits or runs, with these numbers of finds and claims
abbrev pub entry_of : ℕ → ℕ → ℕ → List Event
entry_of client found claims = replicate found (event.Find client) ++ (event.Enter client ∷ []) ++ replicate claims event.Claim ++ (event.Admit ∷ [])

-- the events of a running call until its end, with these numbers of claims and stores
abbrev pub run_of : ℕ → ℕ → ℕ → List Event
run_of t claims stored =
    replicate claims (event.Load t) ++ replicate stored (event.Store t) ++ replicate claims (event.Release t) ++ (event.Finish t ∷ [])

-- the events of a call that is made alone, with a ticket and a reply
abbrev pub alone : ℕ → ℕ → ℕ → Call → Reply → List Event
alone client found t call reply = entry_of client found (length call.claims) ++ run_of t (length call.claims) (stores call reply)

-- the events of calls that are made one after the other, from a ticket on
abbrev pub one_by_one : Catalog → List ℕ → ℕ → List Made → List Event
one_by_one c records t [] = []
one_by_one c records t (made ∷ more) =
    let call = entering c records made.1 in
    let after = apply c.procs call records in
    alone made.0 (finds c made.1) t call after.reply ++ one_by_one c after.records (suc t) more

-- the schedule for a scenario without one: of as many calls as may enter, and at most as many events as a schedule has
abbrev pub schedule_for : Setup → List Event
schedule_for s = take MOST_EVENTS (one_by_one (catalog_of s) s.records 0 (take s.config.limit (by_clients 0 s.scripts)))

-- a schedule if it has events, else another one
abbrev pub or_else : List Event → List Event → List Event
or_else [] other = other
or_else (e ∷ es) other = e ∷ es

-- the scenario that is drawn: with its own schedule if that has events, else with its calls one after the other
abbrev pub with_schedule : Setup → Setup
with_schedule s = record s { schedule = or_else s.schedule (schedule_for s) }
