use Rattle.rg_session.proofs.Told.{told}
use Rattle.rg_session.proofs.laws.documents_lead.Goals as goal

pub returns : goal.returns
returns c = told (record {
  begins = c.beginnings.ensures.legal;
  states = c.beginnings.ensures.states;
  reply = c.one_more_entry.ensures.reply;
  leads = c.downloads_lead.ensures;
  rise = c.versions_never_fall.ensures;
  stays = c.plugin_is_always_viewed.ensures.stays;
  viewed = c.plugin_is_always_viewed.ensures.viewed;
  unchanged = c.unchanged_from_present_versions.ensures.together;
  soundly = c.views_are_sound.ensures;
})
