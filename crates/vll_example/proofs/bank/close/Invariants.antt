-- The property is the total at the opening.
use Rattle.std.proofs.Common.{length, sum}
use Rattle.vll_example.specs.Bank.{HoldInTotal}
use Rattle.vll_example.proofs.bank.close.Given as goal

abbrev pub ghosts-invariants_carry_over : goal.ghosts-invariants_carry_over
ghosts-invariants_carry_over g a = record { holds = HoldInTotal (length g.N.Name.engine.base.records) (sum g.N.Name.engine.base.records) }
