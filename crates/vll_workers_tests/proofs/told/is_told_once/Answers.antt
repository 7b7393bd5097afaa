use denote.Param.Send.{sendable}
use Rattle.vll_engine.proofs.Crossing.{engine}
use Rattle.vll_workers_tests.proofs.told.is_told_once.Goals as goal

pub runs_asking-notes-requires-sync-X : goal.runs_asking-notes-requires-sync-X
runs_asking-notes-requires-sync-X g c κs within =
    let s = c.type_bounds.send-N in
    let y = c.type_bounds.sync-N in
    search (engine, sendable) depth 40
