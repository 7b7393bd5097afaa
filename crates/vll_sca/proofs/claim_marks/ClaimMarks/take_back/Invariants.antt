-- The places of the entries so far are cleared.
use Rattle.std.proofs.Common.{◌≡◌, false, map, take}
use Rattle.vll_sca.proofs.Common.{hashed, HasRoom, with_claims, claims_left}
use Rattle.vll_sca.proofs.claim_marks.ClaimMarks.take_back.Given as goal

abbrev pub invariant-loop-i : goal.invariant-loop-i
invariant-loop-i g l = record {
  so_far : l.self ≡ with_claims false (map (hashed (g.H.Place.place_of l.hash) l.bits) (claims_left (take l.i (g.E.Entries.entries_of l.entries)))) l.fn.self;
  room : HasRoom l.bits l.self;
}
