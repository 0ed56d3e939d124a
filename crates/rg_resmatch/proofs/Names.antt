-- The names of the levels on a path, and what the rules say of the values.
use Rattle.std.proofs.Common.{◌≡◌, ◌++◌, ◌&&◌, ℕ, true, List, [], ◌∷◌, Option, Some, None, option_map, option_to_list, slice_get, refl, ap, ◌∙◌}
use Rattle.std.proofs.lemmas.Bool.{and_from, and_parts}
use Rattle.std.proofs.lemmas.List.{append-nil}
use Rattle.std.proofs.lemmas.List.Elements.{filter_map-append}
use Rattle.std.specs.List.{cons_option, list_all}
use Rattle.rg_base.specs.Texts.{is_name}
use Rattle.rg_defs.specs.declared.service_def.Level.{Level}
use Rattle.rg_defs.specs.declared.service_def.ServiceDef.{ServiceDef}
use Rattle.rg_defs.specs.Paths.{level_of}
use Rattle.rg_policy.specs.declared.policy.PolicyResource.{PolicyResource}
use Rattle.rg_resmatch.specs.Compiled.{path_names}
use Rattle.rg_resmatch.specs.Rules.{are_written, is_some_text, supports, values_fit, values_fit_level}

pub no_name : (names : List (List ℕ)) → names ++ [] ≡ names
no_name names = append-nil names

alone : (o : Option (List ℕ)) → cons_option o [] ≡ option_to_list o
alone None = refl
alone (Some x) = refl

pub one_more_name : (levels : List Level) (path : List ℕ) (place : ℕ) → path_names levels (path ++ place ∷ []) ≡ path_names levels path ++ option_to_list (option_map (λ (l : Level). l.name) (slice_get levels place))
one_more_name levels path place =
    let h = λ (place : ℕ). option_map (λ (l : Level). l.name) (slice_get levels place) in
    filter_map-append h path (place ∷ []) ∙ ap (λ (n : List (List ℕ)). path_names levels path ++ n) (alone (h place))

pub written : (def : ServiceDef) (resources : List PolicyResource) → values_fit def resources ≡ true → are_written resources ≡ true
written def [] h = refl
written def (r ∷ rs) h =
    let parts = and_parts (values_fit_level def r) (values_fit def rs) h in
    let each = list_all is_name r.values.items in
    let held = supports (level_of def r.level) r in
    and_from each (are_written rs) (and_parts each held (and_parts (is_some_text r.values.items) (each && held) parts.0).1).0 (written def rs parts.1)
