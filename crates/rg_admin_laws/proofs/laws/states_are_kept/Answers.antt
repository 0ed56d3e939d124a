use Rattle.rg_admin_laws.proofs.Kept.{states_kept}
use Rattle.rg_admin_laws.proofs.laws.states_are_kept.Goals as goal

pub returns : goal.returns
returns c = states_kept (record {
  decided = c.leads_is_decided.ensures;
  in_lists = c.sound_in_lists.ensures;
  may_be_put = c.row_may_be_put.ensures;
  may_go = c.unnamed_role_may_go.ensures;
  by_pairs = c.zones_apart_by_pairs.ensures;
})
