-- None of the claims so far meets a mark.
use Rattle.std.proofs.Common.{◌≡◌, false, map, take}
use Rattle.vll_sca.proofs.Common.{list_any, hashed, meets}
use Rattle.vll_sca.proofs.claim_marks.ClaimMarks.meets.Given as goal

abbrev pub invariant-loop-i : goal.invariant-loop-i
invariant-loop-i g l = list_any (meets l.self) (map (hashed (g.H.Place.place_of l.hash) l.bits) (take l.i l.claims)) ≡ false
