use denote.Param.Send.{param_sync, sendable}
use Rattle.std.proofs.Crossing.{crosses}
use Rattle.rg_engine.proofs.Sent.{engine_sync}
use Rattle.example_engine.proofs.verdicts.Lts as lts
use Rattle.example_engine.proofs.verdicts.Goals as goal

-- the threads share the engine
pub map_vec-requires-sync-F : goal.map_vec-requires-sync-F
map_vec-requires-sync-F g c κs within =
    param_sync 4 (lts.arg-0-4 g.row.R g.R.laws g.R.Threads-dict κs) (search (crosses, sendable, engine_sync) depth 60 fits 4000)
