-- The epochs so far are one part, and the next engine goes on after them.
use Rattle.std.proofs.Common.{◌≡◌, ◌≤◌, [], false, length}
use Rattle.vll_queue.specs.Shown.{name_of}
use Rattle.vll_sca.specs.Placing.{placing}
use Rattle.vll_scenario.specs.declared.limits.TheConstants.{MOST_CLIENTS}
use Rattle.vll_lines.specs.Counts.{none_counted}
use Rattle.vll_lines.specs.Lines.{has_feed}
use Rattle.vll_stream.specs.Private.Callers.{IsSnapshot}
use Rattle.vll_stream.specs.Private.Parts.{place_of}
use Rattle.vll_stream.specs.Private.Told.{IsSoFar, first_engine}
use Rattle.vll_stream.proofs.serving.serve_stream.Given as goal

abbrev pub ghosts-run_epoch : goal.ghosts-run_epoch
ghosts-run_epoch g a = record { engine = name_of placing a.opening }

abbrev pub invariant-loop : goal.invariant-loop
invariant-loop g l =
    (goal.iterator-loop g).can_next l.iterator' × (goal.iterator-loop g).is_finite l.iterator'
    × IsSnapshot (name_of placing l.opening) [] l.snapshot × (g.S.Source.failed l.reader ≡ false) × (g.W.Sink.failed l.writer ≡ false) × (has_feed l.tail.items ≡ false)
    × IsSoFar (first_engine l.fn.scenario)
    (place_of g.S.Source.remaining g.W.Sink.contents l.fn.reader [] l.fn.writer none_counted)
    (place_of g.S.Source.remaining g.W.Sink.contents l.reader l.tail.items l.writer l.counts) l.opening
    × (length l.fn.scenario.scripts ≤ MOST_CLIENTS)
