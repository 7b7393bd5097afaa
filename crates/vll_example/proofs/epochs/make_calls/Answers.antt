-- Every thread may see the engine.
use denote.Param.Send.{sendable}
use Rattle.std.proofs.Crossing.{crosses}
use Rattle.vll_engine.proofs.Crossing.{engine}
use Rattle.vll_example.proofs.epochs.make_calls.Goals as goal

pub map_vec-requires-sync-F : goal.map_vec-requires-sync-F
map_vec-requires-sync-F g c κs within =
    let s = c.type_bounds.send-N in
    let y = c.type_bounds.sync-N in
    let r = c.type_bounds.sync-R in
    search (engine, sendable, crosses) depth 40
