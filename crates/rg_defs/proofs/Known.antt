-- Access types looked up among their names.
use Rattle.std.proofs.Common.{◌≡◌, ◌&&◌, ℕ, Bool, List, map, ap, ◌∙◌}
use Rattle.std.specs.List.{list_all}
use Rattle.rg_base.proofs.Lists.{among_mapped, list_all_agree}
use Rattle.rg_base.specs.Texts.{is_among}
use Rattle.rg_defs.specs.declared.service_def.AccessType.{AccessType}
use Rattle.rg_defs.specs.declared.service_def.ServiceDef.{ServiceDef}
use Rattle.rg_defs.specs.Rules.{has_access_type, has_level, implied_rule, parts_rule}

-- a name is known where an access type has it
pub known_types : (known : List (List ℕ)) (types : List AccessType) (names : List (List ℕ)) → known ≡ map (λ (t : AccessType). t.name) types
    → list_all (λ n. is_among n known) names ≡ list_all (has_access_type types) names
known_types known types names e = list_all_agree (λ n. is_among n known) (has_access_type types)
    (λ n. ap (is_among n) e ∙ among_mapped (λ (t : AccessType). t.name) n types) names

abbrev pub all_known : List (List ℕ) → List (List ℕ) → Bool
all_known known names = list_all (λ n. is_among n known) names

pub known_grants : (known : List (List ℕ)) (types : List AccessType) → known ≡ map (λ (t : AccessType). t.name) types
    → list_all (λ (t : AccessType). all_known known t.implied.items) types ≡ implied_rule types
known_grants known types e = list_all_agree (λ (t : AccessType). all_known known t.implied.items) (λ (t : AccessType). list_all (has_access_type types) t.implied.items)
    (λ t. known_types known types t.implied.items e) types

pub known_parts : (known : List (List ℕ)) (def : ServiceDef) → known ≡ map (λ (t : AccessType). t.name) def.access_types.items
    → (all_known known def.mask_access.items && list_all (has_level def.levels.items) def.mask_levels.items && all_known known def.filter_access.items && list_all (has_level def.levels.items) def.filter_levels.items)
    ≡ parts_rule def
known_parts known def e =
    let types = def.access_types.items in
    let mask = list_all (has_level def.levels.items) def.mask_levels.items in
    let filter = list_all (has_level def.levels.items) def.filter_levels.items in
    ap (λ b. b && mask && all_known known def.filter_access.items && filter) (known_types known types def.mask_access.items e)
    ∙ ap (λ b. list_all (has_access_type types) def.mask_access.items && mask && b && filter) (known_types known types def.filter_access.items e)
