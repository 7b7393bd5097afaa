-- The procedures left are not checked yet; the fault so far is the first one of the others, which otherwise are in the
-- list, last one first.
use Rattle.std.proofs.Common.{◌≡◌, ◌++◌, None, length, map, drop, reverse}
use Rattle.std.specs.List.{All}
use Rattle.vll_check.specs.Entry.{Entry}
use Rattle.vll_scenario.specs.Scenario.{first_check_from}
use Rattle.vll_scenario.proofs.reading.setup.checked_of.Given as goal

abbrev pub invariant-loop-procedure : goal.invariant-loop-procedure
invariant-loop-procedure l = record {
  left : l.initial.procs ≡ l.procs ++ drop (length l.procs) l.initial.procs;
  fault : first_check_from l.records (length l.procs) (drop (length l.procs) l.initial.procs) ≡ l.first;
  passed : l.first ≡ None → map (λ (e : Entry). e.procedure) l.checked.items ≡ reverse (drop (length l.procs) l.initial.procs);
  records : All (λ (e : Entry). e.records ≡ l.records) l.checked.items;
}

abbrev pub decreases-loop-procedure : goal.decreases-loop-procedure
decreases-loop-procedure l = length l.procs
