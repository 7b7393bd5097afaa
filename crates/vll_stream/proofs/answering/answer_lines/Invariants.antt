-- The lines so far are answered by the calls so far.
use Rattle.std.proofs.Common.{take}
use Rattle.vll_stream.specs.Private.Callers.{AreCallers, made_so_far}
use Rattle.vll_stream.specs.Private.Told.{AnswersLines}
use Rattle.vll_stream.proofs.answering.answer_lines.Given as goal

abbrev pub invariant-loop-request : goal.invariant-loop-request
invariant-loop-request g l =
    let e = g.N.Name.engine in
    AreCallers e l.callers × AnswersLines e (made_so_far l.initial.callers) (made_so_far l.callers) (take l.request-index l.requests) l.initial.callers.counts l.text.items l.callers.counts
