use denote.Param.Send.{sendable}
use Rattle.vll_engine.proofs.Crossing.{engine}
use Rattle.vll_workers.proofs.running.run.Goals as goal

pub run_named-requires-sync-X : goal.run_named-requires-sync-X
run_named-requires-sync-X g c κs within = let e = engine _ _ g.N.Name g.H.Place c.type_bounds.send-N c.type_bounds.sync-N c.type_bounds.send-H in search sendable depth 10
