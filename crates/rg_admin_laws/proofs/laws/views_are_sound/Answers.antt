use Rattle.rg_admin_laws.proofs.Kept.{views_sound}
use Rattle.rg_admin_laws.proofs.laws.views_are_sound.Goals as goal

pub returns : goal.returns
returns c = views_sound (record {
  decided = c.leads_is_decided.ensures;
  in_lists = c.sound_in_lists.ensures;
  may_be_put = c.row_may_be_put.ensures;
  may_go = c.unnamed_role_may_go.ensures;
  by_pairs = c.zones_apart_by_pairs.ensures;
})
