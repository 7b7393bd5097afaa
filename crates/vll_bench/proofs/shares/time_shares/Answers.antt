-- Every thread may see what makes the calls.
use denote.Param.Send.{sendable}
use Rattle.std.proofs.Crossing.{crosses}
use Rattle.vll_bench.proofs.shares.time_shares.Goals as goal

pub in_threads-requires-sync-F : goal.in_threads-requires-sync-F
in_threads-requires-sync-F g c κs within =
    let y = c.type_bounds.sync-M in
    search (sendable, crosses) depth 40
