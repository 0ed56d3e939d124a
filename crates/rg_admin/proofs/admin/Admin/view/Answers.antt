use Rattle.std.proofs.Common.{rules, ◌≡◌, true, None, sym, ◌∙◌, subst}
use Rattle.std.specs.List.{list_any}
use Rattle.std.specs.Str.{chars}
use Rattle.std.proofs.lemmas.Option.{none-some}
use Rattle.rg_cmd.specs.Lookups.{is_service}
use Rattle.rg_admin_laws.specs.Logs.{Administration}
use Rattle.rg_admin_laws.specs.Views.{view}
use Rattle.rg_admin.specs.Stepped.{administration_in}
use Rattle.rg_admin.proofs.Reaching.{reached_viewed}
use Rattle.rg_admin.proofs.admin.Admin.view.Goals as goal

pub unreachable-requires : goal.unreachable-requires
unreachable-requires g c =
    let none : view (administration_in c.self.inside.held) (chars c.args.service.now) ≡ None = search rules in
    let there = subst (λ (a : Administration). list_any (is_service (chars c.args.service.now)) a.state.services.items ≡ true) (sym c.self.view_is) c.requires in
    let seen = reached_viewed (administration_in c.self.inside.held) c.self.invariant.0 (chars c.args.service.now) there in
    none-some seen.0 (sym none ∙ seen.1)
