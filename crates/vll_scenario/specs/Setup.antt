-- The limits and the invariant of a scenario.
use Rattle.std.specs.Prelude.{◌≡◌, ◌≤◌, Bool, ◌&&◌, nat_le, List, length, map, sum_by, All, None}
use Rattle.std.specs.Global.{Vec}
use Rattle.vll_proc.specs.declared.call.Call.{Call}
use Rattle.vll_proc.specs.declared.syntax.Proc.{Proc}
use Rattle.vll_check.specs.Calls.{Fits}
use Rattle.vll_core.specs.declared.config.TheConstants.{MOST_CALLS}
use Rattle.vll_core.specs.declared.event.Event.{Event}
use Rattle.vll_core.specs.Faults.{open_fault}
use Rattle.vll_scenario.specs.declared.scenario.ScenarioParts.{ScenarioParts}
use Rattle.vll_scenario.specs.declared.limits.TheConstants.{MOST_CLIENTS, MOST_EVENTS, MOST_PROCS}
use Rattle.vll_scenario.specs.Headline.Setup.{Setup, catalog_of}

-- scripts as lists of calls
abbrev pub lists_of : List (Vec Call) → List (List Call)
lists_of scripts = map (λ (v : Vec Call). v.items) scripts

-- whether the numbers of procedures, clients, calls and events are within a scenario's limits
abbrev pub has_sizes : {C : Type 0} → List Proc → List (List C) → List Event → Bool
has_sizes procs scripts schedule =
    nat_le (length procs) MOST_PROCS && nat_le (length scripts) MOST_CLIENTS && nat_le (sum_by length scripts) MOST_CALLS && nat_le (length schedule) MOST_EVENTS

-- the numbers of procedures, clients, calls and events are within a scenario's limits
pub record HasSizes {C : Type 0} (procs : List Proc) (scripts : List (List C)) (schedule : List Event) : Type 0 where
  pub few_procs : length procs ≤ MOST_PROCS
  pub few_clients : length scripts ≤ MOST_CLIENTS
  pub few_calls : sum_by length scripts ≤ MOST_CALLS
  pub few_events : length schedule ≤ MOST_EVENTS

-- a scenario with these parts
abbrev pub setup_with : ScenarioParts → Setup
setup_with p = record {
  records = p.records.items;
  procs = p.library.procs;
  scripts = lists_of p.scripts.items;
  config = p.config;
  placing = p.placing;
  schedule = p.schedule;
}

-- the invariant of a scenario: its sizes are within limits, a machine opens for it, and its library makes each call
pub record IsSetup (s : Setup) : Type 0 where
  pub sizes : HasSizes s.procs s.scripts s.schedule
  pub openable : open_fault (length s.records) s.config ≡ None
  pub fits : All (λ script. All (Fits (catalog_of s)) script) s.scripts
