use Rattle.std.proofs.Common.{◌≡◌, ◌∙◌, ◌+◌, Some, slice_get, refl, sym, rules}
use Rattle.std.specs.Vec.{with_item}
use Rattle.vll_counters.specs.Shown.{SessionShown}
use Rattle.vll_stream.specs.Private.Callers.{made_so_far}
use Rattle.vll_stream.specs.declared.callers.Callers.{Callers}
use Rattle.vll_stream.proofs.MadeSoFar.{made_after, makes_call, own_table, session_at, told_first}
use Rattle.vll_stream.proofs.callers.Callers.make.Goals as goal

pub call-requires-clause-session : goal.call-requires-clause-session
call-requires-clause-session g c = own_table g.N.Name.engine c.inform.new.self c.args.call.now.client c.index_mut-session.result.now c.inform.ensures.callers c.requires.client c.index_mut-session.ensures.value

pub returns-clause-callers : goal.returns-clause-callers
returns-clause-callers g c =
    let e = g.N.Name.engine in
    let old : Callers = c.inform.new.self in
    let client = c.args.call.now.client in
    let s : SessionShown = c.index_mut-session.result.now in
    let at : slice_get old.sessions.items client ≡ Some s = session_at e old client s c.inform.ensures.callers c.requires.client c.index_mut-session.ensures.value in
    (makes_call e old _ client s c.call.new.session c.inform.ensures.callers at refl c.in-Ok.ensures.session c.inform.ensures.informed c.args.call.now.call _ _ c.in-Ok.ensures.called
    (told_first old client s c.inform.ensures.informed at) (sym c.ticket.view_is ∙ search rules) c.requires.fits refl refl).0

pub returns-clause-made : goal.returns-clause-made
returns-clause-made g c =
    let e = g.N.Name.engine in
    let old : Callers = c.inform.new.self in
    let client = c.args.call.now.client in
    let s : SessionShown = c.index_mut-session.result.now in
    let at : slice_get old.sessions.items client ≡ Some s = session_at e old client s c.inform.ensures.callers c.requires.client c.index_mut-session.ensures.value in
    let new : Callers = record old { sessions = with_item old.sessions client c.call.new.session; calls = old.calls + 1; counts = c.with-self.result } in
    let makes =
    makes_call e old new client s c.call.new.session c.inform.ensures.callers at refl c.in-Ok.ensures.session c.inform.ensures.informed c.args.call.now.call _ _ c.in-Ok.ensures.called
    (told_first old client s c.inform.ensures.informed at) (sym c.ticket.view_is ∙ search rules) c.requires.fits refl refl in
    made_after e (made_so_far old) (made_so_far c.args.self.now) (made_so_far new) c.args.call.now c.inform.ensures.made makes.1
