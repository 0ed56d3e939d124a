-- For proofs alone: what a service's row tells of its tag service.
use Rattle.std.proofs.Common.{◌≡◌, ◌&&◌, ◌||◌, ℕ, Bool, true, false, not, cond, List, Option, Some, None, refl, ap, sym, subst}
use Rattle.std.specs.Option.{option_and_then}
use Rattle.std.specs.Str.{bytes_eq}
use Rattle.std.proofs.lemmas.Bool.{and_parts, false≢true}
use Rattle.std.proofs.lemmas.Slice.Eq.{bytes_eq-Decides}
use Rattle.rg_base.proofs.Lists.{all_holds, find_contained}
use Rattle.rg_base.specs.Texts.{is_empty}
use Rattle.rg_defs.specs.Rules.{tag_name}
use Rattle.rg_cmd.specs.Lookups.{has_def, is_service, is_tag_service, service_at, tag_service_in, tag_service_of}
use Rattle.rg_cmd.specs.declared.state.ServiceRow.{ServiceRow}
use Rattle.rg_cmd.specs.declared.state.State.{State}
use Rattle.rg_validate.specs.Definitions.{tag_service_fits}
use Rattle.rg_validate.specs.Valid.{IsValid, service_valid}
use Rattle.rg_admin_laws.proofs.Lists.{case}
use Rattle.rg_admin.specs.Planning.{tag_def_named}

-- a service that has the definition `tag` has another exactly where that is named `tag`
same_def : (def : List ℕ) (o : Option ServiceRow) → has_def tag_name o ≡ true → bytes_eq tag_name def ≡ has_def def o
same_def def None h = absurd (false≢true h)
same_def def (Some row) h = ap (λ n. bytes_eq n def) (sym ((bytes_eq-Decides row.def tag_name).0 h))

-- in a valid state a tag service has the definition `tag`
pub tag_def_is : (s : State) → IsValid s → (def service : List ℕ)
    → tag_def_named def (service_at s service) ≡ has_def def (option_and_then (service_at s) (tag_service_of s service))
tag_def_is s valid def service = by_row (service_at s service) refl where
  by_row : (o : Option ServiceRow) → service_at s service ≡ o → tag_def_named def o ≡ has_def def (option_and_then (service_at s) (option_and_then tag_service_in o))
  by_row None is = refl
  by_row (Some row) is =
      case (λ b. is_empty row.tag_service ≡ b → (not b && bytes_eq tag_name def) ≡ has_def def (option_and_then (service_at s) (cond b None (Some row.tag_service)))) (is_empty row.tag_service)
      (λ _ _. refl)
      (λ _ some.
      let there = find_contained (is_service service) s.services.items row is in
      let fits = (and_parts _ (tag_service_fits s row) (all_holds (service_valid s) s.services.items valid.services row there.0)).1 in
      let of_tag = subst (λ b. (b || (is_tag_service s row.tag_service && not (bytes_eq row.def tag_name))) ≡ true) some fits in
      same_def def (service_at s row.tag_service) (and_parts (is_tag_service s row.tag_service) (not (bytes_eq row.def tag_name)) of_tag).0)
      refl
