use Rattle.std.proofs.Common.{◌≡◌, ◌≤◌, ◌-◌, ℕ, Some, length, slice_get, refl, sym, ◌∙◌, subst, arith}
use Rattle.std.specs.Vec.{with_item}
use Rattle.vll_counters.specs.Shown.{SessionShown}
use Rattle.vll_stream.specs.Private.Callers.{IsInformed}
use Rattle.vll_stream.specs.declared.callers.Callers.{Callers}
use Rattle.vll_stream.proofs.MadeSoFar.{informed_again, informed_low, lines_since, own_table, session_at}
use Rattle.vll_stream.proofs.callers.Callers.take_lines.Given.{Over}
use Rattle.vll_stream.proofs.callers.Callers.take_lines.Goals.{After-lines_from}
use Rattle.vll_stream.proofs.callers.Callers.take_lines.Goals as goal

pub lines_from-requires : goal.lines_from-requires
lines_from-requires g c =
    let e = g.N.Name.engine in
    let old : Callers = c.args.self.now in
    let client = c.args.informed in
    record { session = own_table e old client c.index_mut-session.result.now c.requires.callers (informed_low e old client c.requires.callers c.requires.informed) c.index_mut-session.ensures.value }

-- the session that has looked
at_session : (g : Over) (c : After-lines_from g) → slice_get c.args.self.now.sessions.items c.args.informed ≡ Some c.index_mut-session.result.now
at_session g c =
    let e = g.N.Name.engine in
    let old : Callers = c.args.self.now in
    let client = c.args.informed in
    session_at e old client c.index_mut-session.result.now c.requires.callers (informed_low e old client c.requires.callers c.requires.informed) c.index_mut-session.ensures.value

-- the clients then
looked : (g : Over) (c : After-lines_from g)
    → IsInformed g.N.Name.engine c.args.self.now (record c.args.self.now { sessions = with_item c.args.self.now.sessions c.args.informed c.lines_from.new.session; snapshot = record c.args.self.now.snapshot { room = c.lines_from.new.lines } })
    c.args.informed
looked g c =
    let e = g.N.Name.engine in
    let old : Callers = c.args.self.now in
    let s : SessionShown = c.index_mut-session.result.now in
    let t : SessionShown = c.lines_from.new.session in
    let new : Callers = record old { sessions = with_item old.sessions c.args.informed t; snapshot = record old.snapshot { room = c.lines_from.new.lines } } in
    let was = c.requires.callers.snapshot in
    informed_again e old new c.args.informed s t c.requires.callers c.requires.informed (at_session g c) refl c.lines_from.ensures.session.0 c.lines_from.ensures.session.1 refl c.requires.informed refl
    (record {
      few = was.few;
      values = was.values;
      room = subst (λ (k : ℕ). e.config.limit ≤ k) (sym (c.lines_from.ensures.room ∙ c.clear.ensures.capacity)) was.room;
    })

pub returns-then-len-self-clause-callers : goal.returns-then-len-self-clause-callers
returns-then-len-self-clause-callers g c = looked g (goal.at.returns-then-len-self-clause-callers g c).After-lines_from

pub returns-clause-callers : goal.returns-clause-callers
returns-clause-callers g c = looked g (goal.at.returns-clause-callers g c).After-lines_from

pub returns-clause-lines : goal.returns-clause-lines
returns-clause-lines g c =
    let at = goal.at.returns-clause-lines g c in
    let old : Callers = c.args.self.now in
    let many : length c.lines_from.new.lines.items ≡ old.calls - old.snapshot.calls = let t = c.if-len-self.false in let l = c.len.ensures in grind (arith, t, l) in
    (lines_since g.N.Name.engine old c.args.informed c.index_mut-session.result.now c.lines_from.new.session c.in-Ok.from c.clear.new.self.items c.lines_from.new.lines.items c.requires.callers c.requires.informed
    (at_session g at.After-lines_from) c.lines_from.ensures.session.1 c.clear.ensures.items c.in-Ok.ensures.1 c.lines_from.ensures.lines many).0

pub returns-clause-ready : goal.returns-clause-ready
returns-clause-ready g c =
    let at = goal.at.returns-clause-ready g c in
    let old : Callers = c.args.self.now in
    let many : length c.lines_from.new.lines.items ≡ old.calls - old.snapshot.calls = let t = c.if-len-self.false in let l = c.len.ensures in grind (arith, t, l) in
    (lines_since g.N.Name.engine old c.args.informed c.index_mut-session.result.now c.lines_from.new.session c.in-Ok.from c.clear.new.self.items c.lines_from.new.lines.items c.requires.callers c.requires.informed
    (at_session g at.After-lines_from) c.lines_from.ensures.session.1 c.clear.ensures.items c.in-Ok.ensures.1 c.lines_from.ensures.lines many).1
