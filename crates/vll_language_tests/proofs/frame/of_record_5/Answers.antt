-- The claims and the cells are those that the keys ask for.
use Rattle.std.proofs.Common.{refl}
use Rattle.vll_language_tests.proofs.frame.of_record_5.Goals as goal

pub returns : goal.returns
returns c = (
  6,
  record {
    count = refl;
    made = rw (c.requires.args, c.requires.keys, c.add.ensures, c.new-claims.ensures) refl;
    led = rw (c.requires.keys) refl;
  },
)
