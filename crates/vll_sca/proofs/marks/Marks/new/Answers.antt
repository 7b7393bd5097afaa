-- As many words as the places need, and all are 0.
use Rattle.std.proofs.Common.{arith}
use Rattle.vll_sca.proofs.Words.{length-bits_of, bits_of_zeros}
use Rattle.vll_sca.proofs.marks.Marks.new.Goals as goal

pub returns-clause-room : goal.returns-clause-room
returns-clause-room c = omega (arith, length-bits_of c.in_ok-words.words.items, c.in_ok-words.ensures.len, c.in_ok-words.words.ok.0)

pub returns-clause-clear : goal.returns-clause-clear
returns-clause-clear c = rw (c.in_ok-words.ensures.items_if_clones_equal (λ y e. e)) (bits_of_zeros _)
