use Rattle.std.proofs.Common.{◌≡◌, drop}
use Rattle.std.specs.List.{list_any}
use Rattle.std.specs.Str.{chars}
use Rattle.rg_standing.specs.Hits.{value_stands}
use Rattle.rg_standing.proofs.hits.any_stands.Given as goal

-- the rest decides
abbrev pub invariant-loop-text : goal.invariant-loop-text
invariant-loop-text l = list_any (value_stands l.level l.recursive (chars l.user) (chars l.value)) (drop l.text-index l.values)
    ≡ list_any (value_stands l.level l.recursive (chars l.user) (chars l.value)) l.values
