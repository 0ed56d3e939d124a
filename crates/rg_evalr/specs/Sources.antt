-- What an evaluator is compiled from. Contracts see an evaluator as this.
use Rattle.rg_policy.specs.declared.policy.Policy.{Policy}
use Rattle.rg_evalr.specs.declared.frame.Frame.{Frame}
use Rattle.rg_evalr.specs.declared.frame.Side.{Side}

pub record Source : Type 0 where
  pub frame : Frame
  pub policy : Policy
  pub side : Side
