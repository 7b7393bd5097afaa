-- One more entry.
use Rattle.std.proofs.Common.{◌<◌, false, length, arith}
use Rattle.vll_sca.proofs.Common.{hashed}
use Rattle.vll_sca.proofs.Meeting.{entry_at, entry_is_marked}
use Rattle.vll_sca.proofs.claim_marks.ClaimMarks.take_back.Goals as goal

pub loop-i-preserved : goal.loop-i-preserved
loop-i-preserved g c =
    let es = g.E.Entries.entries_of c.args.entries.now in
    let held = c.loop-i.invariant in
    let within : c.loop-i.i < length es = omega (arith, c.loop-i-test.true, c.requires.within) in
    let step = entry_is_marked false (hashed (g.H.Place.place_of c.args.hash.now) c.args.bits) es c.loop-i.i (record { claims = c.claims.result.now; status = c.status.result })
    c.args.self.now c.loop-i.self c.mark.new.self c.args.bits
    within (entry_at es c.loop-i.i c.status.result c.claims.result.now c.status.ensures c.claims.ensures) held.so_far held.room c.mark.ensures in
    record { so_far = step.so_far; room = step.room }
