-- An entry that may run is clear of the marks, and one that is passed is marked.
use Rattle.std.proofs.Common.{◌<◌, true, length, ◌∙◌, sym, arith}
use Rattle.vll_sca.proofs.Common.{Entry, hashed}
use Rattle.vll_sca.proofs.Meeting.{entry_at, entry_is_marked}
use Rattle.vll_sca.proofs.Finding.{found_here, none_found, none_before_next, clear_may_run}
use Rattle.vll_sca.proofs.claim_marks.ClaimMarks.first_clear.Goals as goal

pub returns-then-is_clear-clause-found : goal.returns-then-is_clear-clause-found
returns-then-is_clear-clause-found g c =
    let place = g.H.Place.place_of c.args.hash.now in
    let es = g.E.Entries.entries_of c.args.entries.now in
    let e : Entry = record { claims = c.claims-claims.result.now; status = c.status-status.result } in
    let within : c.loop-i.i < length es = omega (arith, c.loop-i-test.true, c.len-i-end.ensures) in
    let clear = clear_may_run place c.args.bits es c.loop-i.i e c.args.self.now c.loop-i.self c.is_clear.result
    c.requires.clear c.requires.room c.loop-i.invariant.so_far c.is_clear.ensures in
    found_here place c.args.bits es c.loop-i.i e within
    (entry_at es c.loop-i.i c.status-status.result c.claims-claims.result.now c.status-status.ensures c.claims-claims.ensures) c.loop-i.invariant.none
    (sym clear ∙ c.if-is_clear.true)

pub loop-i-preserved : goal.loop-i-preserved
loop-i-preserved g c =
    let place = g.H.Place.place_of c.args.hash.now in
    let es = g.E.Entries.entries_of c.args.entries.now in
    let e : Entry = record { claims = c.claims-claims.result.now; status = c.status-status.result } in
    let held = c.loop-i.invariant in
    let within : c.loop-i.i < length es = omega (arith, c.loop-i-test.true, c.len-i-end.ensures) in
    let here = entry_at es c.loop-i.i c.status-status.result c.claims-claims.result.now c.status-status.ensures c.claims-claims.ensures in
    let clear = clear_may_run place c.args.bits es c.loop-i.i e c.args.self.now c.loop-i.self c.is_clear.result
    c.requires.clear c.requires.room held.so_far c.is_clear.ensures in
    let step = entry_is_marked true (hashed place c.args.bits) es c.loop-i.i e c.args.self.now c.loop-i.self c.mark.new.self c.args.bits
    within here held.so_far held.room c.mark.ensures in
    record {
      none = none_before_next place c.args.bits es c.loop-i.i e within here held.none (sym clear ∙ c.if-is_clear.false);
      so_far = step.so_far;
      room = step.room;
    }

pub returns-clause-found : goal.returns-clause-found
returns-clause-found g c =
    let es = g.E.Entries.entries_of c.args.entries.now in
    none_found (g.H.Place.place_of c.args.hash.now) c.args.bits es c.loop-i.i
    (omega (arith, c.loop-i-test.false, c.len-i-end.ensures)) (omega (arith, c.loop-i.auto.i-end, c.len-i-end.ensures)) c.loop-i.invariant.none
