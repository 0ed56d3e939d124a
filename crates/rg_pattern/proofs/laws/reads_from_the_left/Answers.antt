use Rattle.std.proofs.Common.{refl}
use Rattle.rg_pattern.proofs.Read.{no_mark, read_other, past_le}
use Rattle.rg_pattern.proofs.laws.reads_from_the_left.Goals as goal

pub returns-clause-mark : goal.returns-clause-mark
returns-clause-mark c = λ wild t. refl

pub returns-clause-other : goal.returns-clause-other
returns-clause-other c = λ wild x t none. read_other wild _ x t (no_mark x t none) refl

pub returns-clause-no_longer : goal.returns-clause-no_longer
returns-clause-no_longer c = λ wild t. past_le wild 0 t
