use Rattle.std.proofs.Common.{◌∙◌, ap}
use Rattle.rg_metrics.specs.Epoch.{fnv_step}
use Rattle.rg_metrics.proofs.Hashes.{line_end}
use Rattle.rg_metrics.proofs.epoch.Epoch.of_line.Goals as goal

pub returns : goal.returns
returns c = c.hashed-2.ensures ∙ (ap (λ h. fnv_step h 0) c.hashed.ensures ∙ line_end c.args.line.now)
