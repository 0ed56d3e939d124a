use Rattle.rg_roles.proofs.InLists.{in_lists}
use Rattle.rg_roles.proofs.laws.sound_in_lists.Goals as goal

pub returns : goal.returns
returns c = in_lists
