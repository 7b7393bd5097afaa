-- The marks that were made are those that are taken back, whether an entry was found or not.
use Rattle.std.proofs.Common.{◌≡◌, ℕ, ◌≤◌, Option, true, false, map, take, length, unwrap_or, ◌∙◌, ap, sym, subst, arith}
use Rattle.vll_sca.proofs.Common.{hashed, HasRoom, IsClear, with_claims, claims_left, passed}
use Rattle.vll_sca.proofs.Finding.{passed_within}
use Rattle.vll_sca.proofs.Meeting.{HasRoom-with_claims, IsClear-taken_back}
use Rattle.vll_sca.proofs.bits.Bits.scan_among.Goals as goal

-- how many entries are passed, by how many there are
how_many : (found : Option ℕ) (passed n many : ℕ) → passed ≡ unwrap_or found n → n ≡ many → passed ≡ unwrap_or found many
how_many found passed n many is same = is ∙ ap (unwrap_or found) same

pub take_back-requires-clause-room : goal.take_back-requires-clause-room
take_back-requires-clause-room g c =
    let n = c.self.inside.count in
    let cs = map (hashed (g.H.Place.place_of c.args.hash.now) n) (claims_left (passed c.first_clear-found.result (g.E.Entries.entries_of c.args.entries.now))) in
    subst (HasRoom n) (sym c.first_clear-found.ensures.marked) (HasRoom-with_claims true cs n c.self.inside.marks c.self.invariant.room)

pub take_back-requires-clause-within : goal.take_back-requires-clause-within
take_back-requires-clause-within g c =
    let es = g.E.Entries.entries_of c.args.entries.now in
    subst (λ n. n ≤ length es) (sym (how_many c.first_clear-found.result _ _ _ c.unwrap_or-passed.ensures c.len.ensures)) (passed_within (g.H.Place.place_of c.args.hash.now) c.self.inside.count es c.first_clear-found.result c.first_clear-found.ensures.found)

pub invariant_of-self : goal.invariant_of-self
invariant_of-self g c =
    let n = c.self.inside.count in
    let es = g.E.Entries.entries_of c.args.entries.now in
    let cs = map (hashed (g.H.Place.place_of c.args.hash.now) n) (claims_left (passed c.first_clear-found.result es)) in
    let room : HasRoom n c.first_clear-found.new.self = subst (HasRoom n) (sym c.first_clear-found.ensures.marked) (HasRoom-with_claims true cs n c.self.inside.marks c.self.invariant.room) in
    record {
      few = c.self.invariant.few;
      room = record { some = room.some; writes = omega (arith, room.writes, c.clear_all.ensures.writes); reads = omega (arith, room.reads, c.clear_all.ensures.reads) };
      clear = c.clear_all.ensures.clear;
    }

pub invariant_of-self-else-passed-self : goal.invariant_of-self-else-passed-self
invariant_of-self-else-passed-self g c =
    let n = c.self.inside.count in
    let before = c.self.inside.marks in
    let es = g.E.Entries.entries_of c.args.entries.now in
    let h = hashed (g.H.Place.place_of c.args.hash.now) n in
    let cs = map h (claims_left (passed c.first_clear-found.result es)) in
    let after : c.take_back.new.self ≡ with_claims false cs (with_claims true cs before) =
    c.take_back.ensures
    ∙ (ap (λ k. with_claims false (map h (claims_left (take k es))) c.first_clear-found.new.self) (how_many c.first_clear-found.result _ _ _ c.unwrap_or-passed.ensures c.len.ensures) ∙ ap (with_claims false cs) c.first_clear-found.ensures.marked) in
    record {
      few = c.self.invariant.few;
      room = subst (HasRoom n) (sym after) (HasRoom-with_claims false cs n (with_claims true cs before) (HasRoom-with_claims true cs n before c.self.invariant.room));
      clear = subst IsClear (sym after) (IsClear-taken_back cs before c.self.invariant.clear);
    }
