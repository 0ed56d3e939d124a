use Rattle.std.proofs.Common.{◌≡◌, drop}
use Rattle.std.specs.List.{find}
use Rattle.std.specs.Str.{bytes_eq, chars}
use Rattle.rg_policy.specs.declared.policy.TimeZoneRow.{TimeZoneRow}
use Rattle.rg_cond.proofs.zones.TimeZones.row_named.Given as goal

-- what is found is found in the rest
abbrev pub invariant-loop-row : goal.invariant-loop-row
invariant-loop-row l = find (λ (row : TimeZoneRow). bytes_eq row.name (chars l.name)) (drop l.row-index l.row-items)
    ≡ find (λ (row : TimeZoneRow). bytes_eq row.name (chars l.name)) l.row-items
