use Rattle.std.proofs.Common.{◌≡◌, ◌+◌, ◌-◌, ◌≤◌, false, length}
use Rattle.std.specs.Io.KnownBytes.{Consumes}
use Rattle.vll_scenario.specs.declared.reading.bytes.TheConstants.{PIECE}
use Rattle.vll_scenario.specs.declared.limits.TheConstants.{MOST_BYTES}
use Rattle.vll_scenario.proofs.reading.bytes.read_bytes.Given as goal

abbrev pub invariant-pieces : goal.invariant-pieces
invariant-pieces g l = record {
  fine : g.S.Source.failed l.source ≡ false;
  read : Consumes (g.S.Source.remaining l.fn.source) (g.S.Source.remaining l.source) l.bytes.items;
  few : length l.bytes.items ≤ MOST_BYTES + PIECE;
}

abbrev pub decreases-pieces : goal.decreases-pieces
decreases-pieces g l = MOST_BYTES + 1 - length l.bytes.items
