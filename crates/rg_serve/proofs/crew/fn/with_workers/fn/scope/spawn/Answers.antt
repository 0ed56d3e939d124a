use denote.Param.Send.{param_send}
use Rattle.rg_serve.proofs.crew.fn.with_workers.fn.scope.spawn.Goals as goal

pub work-requires-send-T : goal.work-requires-send-T
work-requires-send-T g c κs within = param_send 2 _ c.requires.1.1.1.1.1.1.1.4

pub work-requires-send-C : goal.work-requires-send-C
work-requires-send-C g c κs within = param_send 3 _ c.requires.1.1.1.1.1.1.1.2
