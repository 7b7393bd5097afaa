use Rattle.std.proofs.Common.{◌≡◌, false, length}
use Rattle.vll_scenario.proofs.Written.{HasWritten}
use Rattle.vll_scenario.proofs.writing.write_text.Given as goal

abbrev pub invariant-pieces : goal.invariant-pieces
invariant-pieces g l = record {
  fine : g.W.Sink.failed l.writer ≡ false;
  written : HasWritten (g.W.Sink.contents l.fn.writer) (g.W.Sink.contents l.writer) l.fn.text l.rest;
}

abbrev pub decreases-pieces : goal.decreases-pieces
decreases-pieces g l = length l.rest
