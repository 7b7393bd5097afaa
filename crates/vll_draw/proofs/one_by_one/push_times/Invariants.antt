use Rattle.std.proofs.Common.{◌≡◌, ◌++◌, replicate}
use Rattle.vll_draw.proofs.one_by_one.push_times.Given as goal

-- the event was appended so often
abbrev pub invariant-loop : goal.invariant-loop
invariant-loop l = l.schedule ≡ l.initial.schedule ++ replicate l.counter l.event
