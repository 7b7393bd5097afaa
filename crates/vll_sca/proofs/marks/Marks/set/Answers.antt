-- The bit of the place in its word is 1 from now on.
use Rattle.std.proofs.Common.{◌≡◌, ◌*◌, ◌/◌, ◌<◌, length, get_or, ap, arith}
use Rattle.vll_sca.proofs.Common.{get_or_read}
use Rattle.vll_sca.proofs.Words.{length-bits_of, bits_of-set}
use Rattle.vll_sca.proofs.marks.Marks.set.Goals as goal

pub index-word-requires : goal.index-word-requires
index-word-requires c =
    omega (arith, length-bits_of c.self.inside.words.items, ap length c.self.view_is, c.self.inside.words.ok.0)

pub index_mut-requires : goal.index_mut-requires
index_mut-requires c =
    omega (arith, length-bits_of c.self.inside.words.items, ap length c.self.view_is, c.self.inside.words.ok.0)

pub returns : goal.returns
returns c =
    let words = c.self.inside.words.items in
    let within : c.args.place < 64 * length words = omega (arith, length-bits_of words, ap length c.self.view_is) in
    let read : c.index-word.result.now ≡ get_or words (c.args.place / 64) 0 =
    get_or_read words (c.args.place / 64) _ (omega arith) c.index-word.ensures 0 in
    rw (← c.self.view_is) (bits_of-set words c.args.place c.index-word.result.now within read)
