use denote.Param.Send.{sendable}
use Rattle.std.proofs.Crossing.{crosses}
use Rattle.vll_workers_tests.proofs.told.Asker.TheSendSync as held
use Rattle.vll_workers_tests.proofs.told.runs_finding.Goals as goal

pub runs_to_its_end-requires-sync-G : goal.runs_to_its_end-requires-sync-G
runs_to_its_end-requires-sync-G g c κs within =
    let n = c.type_bounds.send-N in
    let m = c.type_bounds.sync-N in
    let x = c.type_bounds.sync-X in
    let r = c.type_bounds.sync-R in
    search (held.the_send, sendable, crosses) depth 40
