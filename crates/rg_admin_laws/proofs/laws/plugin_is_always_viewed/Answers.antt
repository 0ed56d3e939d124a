use Rattle.rg_admin_laws.proofs.Lawful.{plugin_has_view, plugin_not_deleted}
use Rattle.rg_admin_laws.proofs.laws.plugin_is_always_viewed.Goals as goal

pub returns-clause-stays : goal.returns-clause-stays
returns-clause-stays c = plugin_not_deleted

pub returns-clause-viewed : goal.returns-clause-viewed
returns-clause-viewed c = plugin_has_view
