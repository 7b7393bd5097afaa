-- A claim that meets a mark decides the answer; one that meets none is passed over.
use Rattle.vll_sca.proofs.Common.{hashed, meets}
use Rattle.vll_sca.proofs.Steps.{any_at, none_at, none_past}
use Rattle.vll_sca.proofs.claim_marks.ClaimMarks.meets.Goals as goal
use Rattle.vll_sca.proofs.claim_marks.ClaimMarks.meets.Goals.{in-Some+else-meets_at, in_default}

pub returns-then-meets_at : goal.returns-then-meets_at
returns-then-meets_at g c =
    let h = hashed (g.H.Place.place_of c.args.hash.now) c.args.bits in
    any_at (meets c.args.self.now) h c.args.claims.now c.loop-i.i c.in-Some.claim c.in-Some.ensures
    (rw c.place_modulo.ensures.place at c.if-meets_at.ensures)

pub loop-i-preserved : goal.loop-i-preserved
loop-i-preserved g c =
    let h = hashed (g.H.Place.place_of c.args.hash.now) c.args.bits in
    elim c.match-get.branch [
      | in-Some+else-meets_at w ↦
          none_at (meets c.args.self.now) h c.args.claims.now c.loop-i.i w.in-Some.claim w.in-Some.ensures
          (rw w.place_modulo.ensures.place at w.if-meets_at.ensures) c.loop-i.invariant
      | in_default w ↦ none_past (meets c.args.self.now) h c.args.claims.now c.loop-i.i w.in_default.ensures c.loop-i.invariant
    ]
