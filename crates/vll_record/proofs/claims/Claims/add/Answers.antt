use Rattle.std.proofs.Common.{◌≡◌, ◌≢◌, slice_get, Some, subst, sym, ◌∙◌, eqb-true}
use Rattle.vll_record.proofs.Common.{Claim, MOST_CLAIMS, IsRising}
use Rattle.vll_record.proofs.WithClaim.{IsRising-with_claim, with_claim-set, with_claim-insert, apart_from_other, apart_from_none, room_from_absent, IsPlaceOf-is}
use Rattle.vll_record.proofs.claims.Claims.add.Goals.{in_default-via-in-Some+else-eq, in_default-via-in_default}
use Rattle.vll_record.proofs.claims.Claims.add.Goals as goal

pub returns-in-Some : goal.returns-in-Some
returns-in-Some c =
    let cs = c.args.self.now in
    let found = sym c.get.ensures ∙ c.in-Some.is in
    let same = eqb-true c.in-Some.held.id c.args.claim.id (sym c.eq.ensures ∙ c.if-eq.true) in
    let put = with_claim-set c.args.claim c.in-Some.held cs c.place_of-place.result (IsPlaceOf-is c.args.claim.id cs c.place_of-place.result c.place_of-place.ensures.place) found same in
    c.strengthen.ensures c.in-Some.held found ∙ sym put

pub insert-requires-clause-room : goal.insert-requires-clause-room
insert-requires-clause-room c =
    let cs = c.args.self.now in
    let place = c.place_of-place.result in
    let apart : (d : Claim) → slice_get cs place ≡ Some d → d.id ≢ c.args.claim.id =
    elim c.in_default.branch [
      | in_default-via-in-Some+else-eq w ↦ rw (← c.get.ensures) (apart_from_other c.args.claim.id c.get.result w.in-Some.held w.in-Some.is (sym w.eq.ensures ∙ w.if-eq.false))
      | in_default-via-in_default w ↦ rw (← c.get.ensures) (apart_from_none c.args.claim.id c.get.result w.in_default.is)
    ] in
    room_from_absent MOST_CLAIMS c.args.claim.id cs place c.place_of-place.ensures.rising (IsPlaceOf-is c.args.claim.id cs c.place_of-place.result c.place_of-place.ensures.place) apart c.requires

pub insert-requires-clause-within : goal.insert-requires-clause-within
insert-requires-clause-within c =
    (IsPlaceOf-is c.args.claim.id c.args.self.now c.place_of-place.result c.place_of-place.ensures.place).within

pub insert-requires-clause-rising : goal.insert-requires-clause-rising
insert-requires-clause-rising c =
    let cs = c.args.self.now in
    let place = c.place_of-place.result in
    let apart : (d : Claim) → slice_get cs place ≡ Some d → d.id ≢ c.args.claim.id =
    elim c.in_default.branch [
      | in_default-via-in-Some+else-eq w ↦ rw (← c.get.ensures) (apart_from_other c.args.claim.id c.get.result w.in-Some.held w.in-Some.is (sym w.eq.ensures ∙ w.if-eq.false))
      | in_default-via-in_default w ↦ rw (← c.get.ensures) (apart_from_none c.args.claim.id c.get.result w.in_default.is)
    ] in
    subst IsRising (with_claim-insert c.args.claim cs place (IsPlaceOf-is c.args.claim.id cs c.place_of-place.result c.place_of-place.ensures.place) apart) (IsRising-with_claim c.args.claim cs c.place_of-place.ensures.rising)

pub returns-in_default : goal.returns-in_default
returns-in_default c =
    let cs = c.args.self.now in
    let place = c.place_of-place.result in
    let apart : (d : Claim) → slice_get cs place ≡ Some d → d.id ≢ c.args.claim.id =
    elim c.in_default.branch [
      | in_default-via-in-Some+else-eq w ↦ rw (← c.get.ensures) (apart_from_other c.args.claim.id c.get.result w.in-Some.held w.in-Some.is (sym w.eq.ensures ∙ w.if-eq.false))
      | in_default-via-in_default w ↦ rw (← c.get.ensures) (apart_from_none c.args.claim.id c.get.result w.in_default.is)
    ] in
    c.insert.ensures ∙ sym (with_claim-insert c.args.claim cs place (IsPlaceOf-is c.args.claim.id cs c.place_of-place.result c.place_of-place.ensures.place) apart)
