-- The bit of the place in its word.
use Rattle.std.proofs.Common.{◌≡◌, ◌*◌, ◌/◌, ◌%◌, ◌<◌, ◌∙◌, length, get_or, sym, ap, eqb, arith}
use Rattle.vll_sca.proofs.Common.{get_or_read, bit_at}
use Rattle.vll_sca.proofs.Words.{length-bits_of, get_or-bits_of, bit_set}
use Rattle.vll_sca.proofs.marks.Marks.is_set.Goals as goal

pub index-requires : goal.index-requires
index-requires c =
    omega (arith, length-bits_of c.self.inside.words.items, ap length c.self.view_is, c.self.inside.words.ok.0)

pub returns : goal.returns
returns c =
    let words = c.self.inside.words.items in
    let within : c.args.place < 64 * length words = omega (arith, length-bits_of words, ap length c.self.view_is) in
    let read : c.index.result.now ≡ get_or words (c.args.place / 64) 0 =
    get_or_read words (c.args.place / 64) _ (omega arith) c.index.ensures 0 in
    rw (← c.self.view_is)
    (bit_set c.index.result.now (c.args.place % 64) (omega arith)
    ∙ ap (λ x. eqb (bit_at x (c.args.place % 64)) 1) read
    ∙ sym (get_or-bits_of words c.args.place within))
