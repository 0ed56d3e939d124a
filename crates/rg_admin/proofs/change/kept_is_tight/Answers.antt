use Rattle.rg_admin.proofs.Tightness.{kept_tight}
use Rattle.rg_admin.proofs.change.kept_is_tight.Goals as goal

pub returns : goal.returns
returns c = kept_tight c.sound_in_lists.ensures
