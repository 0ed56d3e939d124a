use Rattle.std.proofs.Common.{refl}
use Rattle.rg_publish.proofs.Lists.{prefix_self}
use Rattle.rg_publish.proofs.Readings.{reads}
use Rattle.rg_publish.proofs.pass.read.Goals as goal

pub enter_as-requires : goal.enter_as-requires
enter_as-requires c x = reads (λ s. s.known) _ _ x x (refl, prefix_self _)
