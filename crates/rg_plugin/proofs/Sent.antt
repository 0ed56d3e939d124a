-- What a worker has for itself may cross threads. `search` alone stops at its bounds where a pass begins.
use denote.RattleType.{RattleType}
use denote.Param.Send.{IsSend, sendable}
use denote.Param.SendFields.{declared_send}
use Rattle.rg_publish.proofs.Sent.{pass_send}
use Rattle.rg_plugin.specs.contracts.threads.Worker as worker

module _ (H : RattleType) (s : IsSend H) where
  pub worker_send : IsSend (worker.the_row H)
  worker_send = declared_send (worker.the_type H) (search (sendable, pass_send) depth 20, (search (sendable, s) depth 20, tt))
