-- A thread may have its client, and every thread may see the engine.
use denote.Param.Send.{sendable}
use Rattle.std.proofs.Crossing.{crosses}
use Rattle.vll_engine.proofs.Crossing.{engine}
use Rattle.vll_engine.proofs.client.Client.TheSendSync as client
use Rattle.vll_engine_tests.proofs.embedding.two_threads_bump.Goals as goal

pub join-zero-requires-send-F : goal.join-zero-requires-send-F
join-zero-requires-send-F g c κs within =
    let s = c.type_bounds.send-N in
    let y = c.type_bounds.sync-N in
    let r = c.type_bounds.sync-R in
    search (engine, client.the_send, sendable, crosses) depth 40 fits 20000
