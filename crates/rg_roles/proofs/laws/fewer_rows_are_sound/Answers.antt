use Rattle.rg_roles.proofs.InLists.{fewer}
use Rattle.rg_roles.proofs.laws.fewer_rows_are_sound.Goals as goal

pub returns : goal.returns
returns c = fewer
