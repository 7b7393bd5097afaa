-- One more claim.
use Rattle.vll_sca.proofs.Common.{hashed}
use Rattle.vll_sca.proofs.Meeting.{claim_is_marked, no_claim_is_left}
use Rattle.vll_sca.proofs.claim_marks.ClaimMarks.mark_claims.Goals as goal
use Rattle.vll_sca.proofs.claim_marks.ClaimMarks.mark_claims.Goals.{in-Some, in_default}

pub loop-i-preserved : goal.loop-i-preserved
loop-i-preserved g c =
    let h = hashed (g.H.Place.place_of c.args.hash.now) c.args.bits in
    let held = c.loop-i.invariant in
    elim c.match-get.branch [
      | in-Some w ↦
          let marked = rw (w.mark_at.ensures, w.place_modulo.ensures.place) at w.self-is in
          let step = claim_is_marked c.args.marked h c.args.claims.now c.loop-i.i c.args.self.now c.loop-i.self c.match-get.self c.args.bits
          w.in-Some.claim w.in-Some.ensures held.so_far held.room marked in
          record { so_far = step.so_far; room = step.room }
      | in_default w ↦
          let step = no_claim_is_left c.args.marked h c.args.claims.now c.loop-i.i c.args.self.now c.loop-i.self c.match-get.self c.args.bits
          w.in_default.ensures held.so_far held.room w.self-is in
          record { so_far = step.so_far; room = step.room }
    ]
