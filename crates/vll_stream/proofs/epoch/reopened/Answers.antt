use Rattle.std.proofs.Common.{All, IfOk, subst}
use Rattle.vll_counters.specs.Headline.Views.{calls_in}
use Rattle.vll_counters.specs.Shown.{SessionShown}
use Rattle.vll_queue.specs.Closed.{IsSerial}
use Rattle.vll_queue.specs.Sessions.{HasItsCalls}
use Rattle.vll_queue.specs.declared.closed.Closed.{Closed}
use Rattle.vll_stream.proofs.MadeSoFar.{the_calls}
use Rattle.vll_stream.proofs.epoch.reopened.Goals as goal

pub returns-in-Ok-clause-opening : goal.returns-in-Ok-clause-opening
returns-in-Ok-clause-opening g c =
    (calls_in c.in-Ok.next.journal.items, the_calls g.N.Name.engine c.in-Ok.next.journal.items c.args.sessions.items c.in-Ok.ensures.serial.clients c.in-Ok.ensures.sessions, c.in-Ok.ensures.opening)

pub returns-in-Ok-left-clause-no_memory : goal.returns-in-Ok-left-clause-no_memory
returns-in-Ok-left-clause-no_memory g c = λ _.
    let e = g.N.Name.engine in
    let closed : Closed = c.in-Ok-left.field-0 in
    let serial = subst (λ left. IfOk left (λ (x : Closed). IsSerial e x)) c.in-Ok-left.is c.in-Err.ensures.closed in
    let seen = subst (λ left. IfOk left (λ (x : Closed). All (λ (s : SessionShown). HasItsCalls (calls_in x.journal.items) s.session) c.args.sessions.items)) c.in-Ok-left.is c.in-Err.ensures.closed_sessions in
    (calls_in closed.journal.items, the_calls e closed.journal.items c.args.sessions.items serial.clients seen)
