-- A thread may have its session, and every thread may see the engine and the meeting.
use denote.Param.Send.{sendable}
use Rattle.std.proofs.Crossing.{crosses}
use Rattle.vll_engine.proofs.Crossing.{engine}
use Rattle.vll_queue.proofs.session.Session.TheSendSync as session
use Rattle.vll_engine_tests.proofs.holding.bumps_by_two_threads.Goals as goal

pub join-requires-send-F : goal.join-requires-send-F
join-requires-send-F g c κs within =
    let s = c.type_bounds.send-N in
    let y = c.type_bounds.sync-N in
    let r = c.type_bounds.sync-R in
    search (engine, session.the_send, sendable, crosses) depth 40 fits 20000
