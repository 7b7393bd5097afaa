-- The calls of the lines that are left lead to the records after all of them.
use Rattle.std.proofs.Common.{◌≡◌, drop, length}
use Rattle.vll_proc.specs.Headline.Serial.{end}
use Rattle.vll_counters.specs.Headline.Views.{calls_in}
use Rattle.vll_stream.proofs.snapshot.make_all.Given as goal

abbrev pub invariant-loop-line : goal.invariant-loop-line
invariant-loop-line l =
    (l.library.records ≡ length l.records)
    × (end l.library.procs (calls_in (drop l.line-index l.lines)) l.records ≡ end l.library.procs (calls_in l.lines) l.initial.records)
