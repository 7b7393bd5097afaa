-- The rounds so far are one part, which the calls of the clients answer.
use Rattle.std.proofs.Common.{◌≡◌, false}
use Rattle.vll_queue.specs.Shown.{library_of}
use Rattle.vll_lines.specs.Lines.{has_feed}
use Rattle.vll_stream.specs.Private.Callers.{AreCallers, made_so_far}
use Rattle.vll_stream.specs.Private.Parts.{IsPart, place_of}
use Rattle.vll_stream.proofs.epoch.serve_rounds.Given as goal

abbrev pub invariant-loop : goal.invariant-loop
invariant-loop g l =
    let e = g.N.Name.engine in
    (goal.iterator-loop g).can_next l.iterator' × (goal.iterator-loop g).is_finite l.iterator'
    × AreCallers e l.callers × (g.S.Source.failed l.reader ≡ false) × (g.W.Sink.failed l.writer ≡ false) × (has_feed l.tail.items ≡ false)
    × IsPart (library_of e) e.clients e.base.records (made_so_far l.callers) false
    (place_of g.S.Source.remaining g.W.Sink.contents l.initial.reader l.initial.tail.items l.initial.writer l.initial.callers.counts)
    (place_of g.S.Source.remaining g.W.Sink.contents l.reader l.tail.items l.writer l.callers.counts)
