use denote.Param.Send.{sendable}
use Rattle.rg_engine.proofs.Sent.{engine_send, engine_sync}
use Rattle.rg_engine.proofs.sharing.engine_may_be_shared.Goals as goal

pub may_be_shared-requires-send-T : goal.may_be_shared-requires-send-T
may_be_shared-requires-send-T c κs = search (sendable, engine_send)

pub may_be_shared-requires-sync-T : goal.may_be_shared-requires-sync-T
may_be_shared-requires-sync-T c κs = search (sendable, engine_sync)
