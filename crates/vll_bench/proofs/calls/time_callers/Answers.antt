-- Every thread may see the engine and the callers.
use denote.Param.Send.{sendable}
use Rattle.std.proofs.Crossing.{crosses}
use Rattle.vll_engine.proofs.Crossing.{engine}
use Rattle.vll_bench.proofs.caller.Caller.TheSendSync as caller
use Rattle.vll_bench.proofs.calls.time_callers.Goals as goal

pub in_threads-requires-sync-F : goal.in_threads-requires-sync-F
in_threads-requires-sync-F g c κs within =
    let s = c.type_bounds.send-N in
    let y = c.type_bounds.sync-N in
    let r = c.type_bounds.sync-R in
    search (engine, caller.the_send, sendable, crosses) depth 40
