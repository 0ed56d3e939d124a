use Rattle.rg_session.proofs.Told.{comes}
use Rattle.rg_session.proofs.laws.documents_come.Goals as goal

pub returns : goal.returns
returns c = comes c.one_more_entry.ensures.reply c.plugin_is_always_viewed.ensures.viewed
