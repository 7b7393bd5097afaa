use Rattle.std.proofs.Common.{◌≡◌, ◌≤◌, ◌++◌, drop, length, take}
use Rattle.vll_scenario.specs.declared.limits.TheConstants.{MOST_EVENTS}
use Rattle.vll_draw.specs.OneByOne.{one_by_one}
use Rattle.vll_draw.proofs.one_by_one.schedule_for.Given as goal

-- the events so far, and those of the calls that are left
abbrev pub invariant-loop-ticket : goal.invariant-loop-ticket
invariant-loop-ticket l =
    (length l.schedule ≤ MOST_EVENTS)
    × (length l.records.items ≡ length l.parts.records.items)
    × (take MOST_EVENTS (l.schedule ++ one_by_one l.parts.library l.records.items l.ticket (drop l.ticket l.calls))
    ≡ take MOST_EVENTS (one_by_one l.parts.library l.parts.records.items 0 l.calls))
