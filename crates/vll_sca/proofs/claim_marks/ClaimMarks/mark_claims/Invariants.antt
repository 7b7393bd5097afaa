-- The places of the claims so far are marked, or cleared.
use Rattle.std.proofs.Common.{◌≡◌, map, take}
use Rattle.vll_sca.proofs.Common.{hashed, HasRoom, with_claims}
use Rattle.vll_sca.proofs.claim_marks.ClaimMarks.mark_claims.Given as goal

abbrev pub invariant-loop-i : goal.invariant-loop-i
invariant-loop-i g l = record {
  so_far : l.self ≡ with_claims l.marked (map (hashed (g.H.Place.place_of l.hash) l.bits) (take l.i l.claims)) l.fn.self;
  room : HasRoom l.bits l.self;
}
