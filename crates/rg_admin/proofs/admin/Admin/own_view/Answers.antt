use Rattle.std.proofs.Common.{rules, ◌≡◌, Some, subst, sym}
use Rattle.rg_admin_laws.specs.Logs.{Administration}
use Rattle.rg_admin_laws.specs.Views.{view}
use Rattle.rg_admin.specs.Stepped.{administration_in}
use Rattle.rg_admin.proofs.Reaching.{reached_sound}
use Rattle.rg_admin.proofs.admin.Admin.own_view.Goals as goal

pub returns-in-Ok-clause-sound : goal.returns-in-Ok-clause-sound
returns-in-Ok-clause-sound g c =
    let seen = subst (λ (a : Administration). view a a.state.plugin ≡ Some c.in-Ok.facts) (sym c.self.view_is) (search rules) in
    reached_sound c.views_are_sound.ensures (administration_in c.self.inside.held) c.self.invariant.0 (search rules) _ c.in-Ok.facts seen
