-- Each claim that is added makes at most one more.
use Rattle.std.proofs.Common.{◌<◌, length}
use Rattle.vll_language_tests.proofs.claims.each_place_up_to_the_last_has_its_mode.Given as goal

abbrev pub invariant-loop-id : goal.invariant-loop-id
invariant-loop-id g l = length l.claims < l.id
