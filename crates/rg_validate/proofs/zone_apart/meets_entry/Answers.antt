use Rattle.std.proofs.Common.{rules, ◌≡◌, Some}
use Rattle.std.specs.List.{find}
use Rattle.rg_zone_rules.specs.Rules.{entry_values_fit}
use Rattle.rg_zone_rules.specs.Zones.{is_for}
use Rattle.rg_validate.proofs.Apart.{found_passes}
use Rattle.rg_validate.proofs.zone_apart.meets_entry.Goals as goal

pub meets_at-requires-clause-values : goal.meets_at-requires-clause-values
meets_at-requires-clause-values c =
    let found : find (is_for c.args.other.now.service) c.args.zone.now.services.items ≡ Some c.in-Some.entry.now = search rules in
    found_passes (is_for c.args.other.now.service) entry_values_fit c.args.zone.now.services.items c.in-Some.entry.now c.requires.values found
