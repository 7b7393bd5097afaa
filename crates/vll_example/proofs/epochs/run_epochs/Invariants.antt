-- The next engine is the bank's, and the journals so far are one serial run.
use Rattle.std.proofs.Common.{◌≡◌, map}
use Rattle.vll_sca.specs.Placing.{placing}
use Rattle.vll_queue.specs.Shown.{name_of}
use Rattle.vll_example.specs.Bank.{procedures}
use Rattle.vll_example.proofs.SoFar.{AreSoFar}
use Rattle.vll_example.proofs.epochs.run_epochs.Given as goal

abbrev pub ghosts-run_epoch : goal.ghosts-run_epoch
ghosts-run_epoch g a = record { engine = name_of placing a.opening }

abbrev pub invariant-loop : goal.invariant-loop
invariant-loop g l = record {
  procedures : l.now.library.procs ≡ procedures;
  limit : l.now.config.limit ≡ 20;
  so_far : AreSoFar l.fn.opening.records (map (λ j. j.items) l.journals.items) l.now.records;
}
