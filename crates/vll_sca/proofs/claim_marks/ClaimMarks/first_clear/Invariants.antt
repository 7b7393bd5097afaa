-- None of the entries so far may run, and the places of those that are left are marked.
use Rattle.std.proofs.Common.{◌≡◌, true, take, map}
use Rattle.vll_sca.proofs.Common.{hashed, HasRoom, with_claims, claims_left}
use Rattle.vll_sca.proofs.Finding.{NoneBefore}
use Rattle.vll_sca.proofs.claim_marks.ClaimMarks.first_clear.Given as goal

abbrev pub invariant-loop-i : goal.invariant-loop-i
invariant-loop-i g l = record {
  none : NoneBefore (g.H.Place.place_of l.hash) l.bits (g.E.Entries.entries_of l.entries) l.i;
  so_far : l.self ≡ with_claims true (map (hashed (g.H.Place.place_of l.hash) l.bits) (claims_left (take l.i (g.E.Entries.entries_of l.entries)))) l.fn.self;
  room : HasRoom l.bits l.self;
}
