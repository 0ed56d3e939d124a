use denote.Param.Send.{sendable}
use Rattle.rg_policy_sets.proofs.Sent.{policies_send, policies_sync, rows_send, rows_sync}
use Rattle.rg_policy_sets.proofs.sharing.sets_may_be_shared.Goals as goal

pub may_be_shared-requires-send-T : goal.may_be_shared-requires-send-T
may_be_shared-requires-send-T c κs = search (sendable, policies_send)

pub may_be_shared-requires-sync-T : goal.may_be_shared-requires-sync-T
may_be_shared-requires-sync-T c κs = search (sendable, policies_sync)

pub may_be_shared-requires-2-send-T : goal.may_be_shared-requires-2-send-T
may_be_shared-requires-2-send-T c κs = search (sendable, rows_send)

pub may_be_shared-requires-2-sync-T : goal.may_be_shared-requires-2-sync-T
may_be_shared-requires-2-sync-T c κs = search (sendable, rows_sync)
