use Rattle.std.proofs.Common.{◌≡◌, ◌<◌, Some, length, slice_get, slice_index, slice_set, refl, sym, ap, ◌∙◌, arith}
use Rattle.std.proofs.lemmas.List.{length-set}
use Rattle.vll_record.specs.declared.claim.Claim.{Claim}
use Rattle.vll_core.proofs.Places.{all_at, entry_at}
use Rattle.vll_serial.proofs.PutBack.{put_first, put_last, put_next}
use Rattle.vll_serial.proofs.alone.put_back.Goals as goal
use Rattle.vll_serial.proofs.alone.put_back.Goals.{in-Some, in-None}

pub loop-i-init : goal.loop-i-init
loop-i-init c = (refl, put_first c.args.frame.now c.args.claims.now c.args.records.now)

pub bounds-records-claim-inside : goal.bounds-records-claim-inside
bounds-records-claim-inside c =
    let claim = c.in-Some.claim in
    let at : slice_get c.args.claims.now c.loop-i.i ≡ Some claim = sym c.get.ensures ∙ c.in-Some.is in
    let low = all_at (λ (d : Claim). d.id < length c.args.records.now) c.args.claims.now c.loop-i.i claim c.requires at in
    let same = c.loop-i.invariant.0 in
    let view = c.claim.view_is in
    grind (arith, low, same, view)

pub loop-i-preserved : goal.loop-i-preserved
loop-i-preserved c = elim c.match-get.branch [
  | in-Some w ↦
      let frame = c.args.frame.now in
      let claims = c.args.claims.now in
      let claim = w.in-Some.claim in
      let at : slice_get claims c.loop-i.i ≡ Some claim = sym c.get.ensures ∙ w.in-Some.is in
      let view = w.claim.view_is in
      let got = w.get-in-Some.ensures in
      let set = w.records-is in
      let is : c.match-get.records ≡ slice_set c.loop-i.records claim.id (slice_index frame c.loop-i.i) = grind (arith, view, got, set) in (
        ap length is ∙ (length-set c.loop-i.records claim.id (slice_index frame c.loop-i.i) ∙ c.loop-i.invariant.0),
        put_next frame claims c.loop-i.i c.args.records.now c.loop-i.records c.match-get.records claim at is c.loop-i.invariant.1,
      )
  | in-None w ↦
      let there = entry_at c.args.claims.now c.loop-i.i (omega arith) in
      absurd (cc (sym there.1 ∙ (sym c.get.ensures ∙ w.in-None.is)))
]

pub returns : goal.returns
returns c = put_last c.args.frame.now c.args.claims.now c.loop-i.i c.args.records.now c.loop-i.records (omega arith) c.loop-i.invariant.1
