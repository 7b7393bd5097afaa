use Rattle.std.proofs.Common.{◌≡◌, ◌++◌, length}
use Rattle.vll_record.specs.declared.claims.TheConstants.{MOST_CLAIMS}
use Rattle.vll_core.specs.Private.Execution.{HoldsFirst}
use Rattle.vll_counters.specs.Shown.{passed}
use Rattle.vll_counters.specs.Steps.{records_before_pass}
use Rattle.vll_queue.proofs.execution.load_all.Given as goal

-- the records of the claims that the loop has got so far are loaded, each into its claim's cell
abbrev pub invariant-loop-claim : goal.invariant-loop-claim
invariant-loop-claim l = record {
  all : l.yielded ++ l.claim-iterator ≡ l.claims;
  count : l.cell ≡ length l.yielded;
  pass : l.seat ≡ passed l.initial.seat (record l.initial.seat.pass { loads = l.cell; loaded = l.seat.pass.loaded });
  whole : length l.frame ≡ MOST_CLAIMS;
  held : HoldsFirst l.cell l.frame l.claims (records_before_pass l.words.base l.initial.seat.pass);
}
