use Rattle.std.proofs.Common.{◌≡◌, ◌++◌, drop}
use Rattle.vll_scenario.specs.Setup.{lists_of}
use Rattle.vll_draw.specs.OneByOne.{by_clients}
use Rattle.vll_draw.proofs.one_by_one.by_clients.Given as goal

-- the calls so far, and those of the scripts that are left
abbrev pub invariant-loop-client : goal.invariant-loop-client
invariant-loop-client l = l.calls.items ++ by_clients l.client (lists_of (drop l.client l.scripts)) ≡ by_clients 0 (lists_of l.scripts)
