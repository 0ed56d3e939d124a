use Rattle.std.proofs.Common.{◌∙◌}
use Rattle.rg_metrics.proofs.Hashes.{first_more}
use Rattle.rg_metrics.proofs.epoch.Epoch.with_record.Goals as goal

pub returns : goal.returns
returns c = λ line is. c.hashed.ensures ∙ first_more line c.args.first.now c.args.self.hash is
