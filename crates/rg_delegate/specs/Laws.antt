-- What the laws of authority speak of.
use Rattle.std.specs.Prelude.{◌||◌, not, Bool, [], ◌∷◌, ◌++◌}
use Rattle.std.specs.List.{list_all}
use Rattle.rg_base.specs.Listed.{listed}
use Rattle.rg_base.specs.Texts.{is_among}
use Rattle.rg_defs.specs.declared.service_def.ServiceDef.{ServiceDef}
use Rattle.rg_pattern.specs.Reading.{atoms_of}
use Rattle.rg_policy.specs.declared.policy.Item.{Item}
use Rattle.rg_policy.specs.declared.policy.Policy.{Policy}
use Rattle.rg_policy.specs.declared.policy.PolicyResource.{PolicyResource}
use Rattle.rg_policy.specs.declared.policy.ResourceMap.{ResourceMap}
use Rattle.rg_policy.specs.Maps.{maps_of}
use Rattle.rg_resmatch.specs.Tests.{star}
use Rattle.rg_delegate.specs.Covering.{has_wildcards, ignores_case, patterns_at, some_covers}

-- the policy with one more allow item
abbrev pub with_item : Policy → Item → Policy
with_item q i = record q { items = listed (q.items.items ++ i ∷ []) }

-- every resource of the policy's maps passes
abbrev pub every_resource : (PolicyResource → Bool) → Policy → Bool
every_resource test p = list_all (λ (m : ResourceMap). list_all test m.levels.items) (maps_of p)

-- where its values cover `*`, `*` is one of them: it isn't written as `**`
abbrev pub writes_star : ServiceDef → PolicyResource → Bool
writes_star def r = not (some_covers (ignores_case def r.level) (patterns_at def r) (atoms_of (has_wildcards def r.level) star)) || is_among star r.values.items

-- it isn't excluding, or its level has wildcards
abbrev pub excludes_by_wildcards : ServiceDef → PolicyResource → Bool
excludes_by_wildcards def r = not r.excludes || has_wildcards def r.level
