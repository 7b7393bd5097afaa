-- As many words as before, and all are 0.
use Rattle.std.proofs.Common.{length, ap, arith}
use Rattle.vll_sca.proofs.Words.{length-bits_of, bits_of_zeros}
use Rattle.vll_sca.proofs.marks.Marks.clear_all.Goals as goal

pub returns-clause-room : goal.returns-clause-room
returns-clause-room c =
    omega (arith, length-bits_of c.fill.new.self.items, length-bits_of c.self.inside.words.items, ap length c.self.view_is, c.fill.ensures.len, c.fill.new.self.ok.0, c.self.inside.words.ok.0)

pub returns-clause-clear : goal.returns-clause-clear
returns-clause-clear c = rw (c.fill.ensures.items (λ y e. e)) (bits_of_zeros _)
