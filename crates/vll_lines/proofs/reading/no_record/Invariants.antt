-- The keys so far name records that are there.
use Rattle.std.proofs.Common.{◌≡◌, drop}
use Rattle.vll_lines.specs.Request.{no_record}
use Rattle.vll_lines.proofs.reading.no_record.Given as goal

abbrev pub invariant-loop-key : goal.invariant-loop-key
invariant-loop-key l = no_record l.records l.args l.keys ≡ no_record l.records l.args (drop l.key-index l.keys)
