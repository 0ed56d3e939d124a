use Rattle.std.proofs.Common.{◌≡◌, drop, true}
use Rattle.std.specs.List.{list_all, list_any}
use Rattle.rg_zone_rules.specs.Rules.{entry_values_fit}
use Rattle.rg_validate.specs.Apart.{meets_entry, meets_zone}
use Rattle.rg_validate.proofs.zone_apart.meets_zone.Given as goal

-- the rest decides, and fits
abbrev pub invariant-loop-entry : goal.invariant-loop-entry
invariant-loop-entry l = record {
  rest : list_any (meets_entry l.defs l.zone) (drop l.entry-index l.other.services.items) ≡ meets_zone l.defs l.zone l.other;
  fit : list_all entry_values_fit (drop l.entry-index l.other.services.items) ≡ true;
}
