-- What the tries hold is what is filed, after a build and after a change; and the edits that this takes.
use Rattle.std.proofs.Common.{◌≡◌, ◌+◌, ◌≤◌, ◌&&◌, true, List, Option, Some, None, Contains, length, map, refl, sym, ap, ◌∙◌, arith}
use Rattle.std.proofs.lemmas.Bool.{and_parts}
use Rattle.std.proofs.lemmas.List.Folds.{fold-map}
use Rattle.std.specs.List.{list_all, sum_by}
use Rattle.std.specs.Str.{bytes_eq}
use Rattle.rg_base.proofs.Lists.{all_from, all_holds}
use Rattle.rg_base.specs.Texts.{all_distinct, is_name}
use Rattle.rg_defs.proofs.Few.{levels_hold}
use Rattle.rg_defs.specs.declared.service_def.Level.{Level}
use Rattle.rg_defs.specs.declared.service_def.ServiceDef.{ServiceDef}
use Rattle.rg_defs.specs.Paths.{level_of}
use Rattle.rg_defs.specs.Rules.{def_fault, has_from_to}
use Rattle.rg_policy.specs.declared.policy.PolicyResource.{PolicyResource}
use Rattle.rg_policy.specs.declared.policy.ResourceMap.{ResourceMap}
use Rattle.rg_resmatch.specs.Rules.{are_written, is_some_text, supports, values_fit, values_fit_level}
use Rattle.rg_index.specs.declared.form.Form.{Form}
use Rattle.rg_index.specs.Candidates.{in_order}
use Rattle.rg_index.specs.Changes.{IsAmong, changed, form_fits, forms_fit, given_fits, given_pairs, ids_differ, is_free}
use Rattle.rg_index.specs.Filing.{all_pairs, form_pairs, numbered, pairs}
use Rattle.rg_index.specs.Kept.{IsIndexed, LevelPairs, built, edited, given_keys, given_level_pairs, indexed, is_given_written, is_written, level_keys, level_pairs, with_all, without_all}
use Rattle.rg_index.proofs.Changing.{after_change, after_change_apart, after_change_fit, given_form_pairs}
use Rattle.rg_index.proofs.Keying.{Distinct, form_within, forms_within, found_itself, same_keys}
use Rattle.rg_index.proofs.Lists.{flat_map_agree, map_agree, map_twice, sum_add, sum_none}

-- ---- the conditions

fits_written : (def : ServiceDef) (f : Form) → form_fits def f ≡ true → is_written f ≡ true
fits_written def f e = all_from (λ (m : ResourceMap). are_written m.levels.items) f.maps.items (λ m w.
    let fit = all_holds (λ (m : ResourceMap). values_fit def m.levels.items) f.maps.items e m w in
    all_from (λ (r : PolicyResource). list_all is_name r.values.items) m.levels.items (λ r v.
    let some = and_parts (is_some_text r.values.items) _ (all_holds (values_fit_level def) m.levels.items fit r v) in
    (and_parts (list_all is_name r.values.items) (supports (level_of def r.level) r) some.1).0))

pub forms_written : (def : ServiceDef) (forms : List Form) → forms_fit def forms ≡ true → list_all is_written forms ≡ true
forms_written def forms e = all_from is_written forms (λ f w. fits_written def f (all_holds (form_fits def) forms e f w))

pub among_written : (def : ServiceDef) (forms : List Form) → forms_fit def forms ≡ true → (o : Option Form) → IsAmong forms o → is_given_written o ≡ true
among_written def forms e None a = refl
among_written def forms e (Some f) a = fits_written def f (all_holds (form_fits def) forms e f a)

pub given_written : (def : ServiceDef) (o : Option Form) → given_fits def o ≡ true → is_given_written o ≡ true
given_written def None e = refl
given_written def (Some f) e = fits_written def f e

pub distinct_levels : (def : ServiceDef) → def_fault def ≡ None → Distinct def.levels.items
distinct_levels def lawful =
    (and_parts (has_from_to 1 16 (length def.levels.items) && list_all (λ (l : Level). is_name l.name) def.levels.items) (all_distinct (λ (l m : Level). bytes_eq m.name l.name) def.levels.items) (levels_hold def lawful).0).1

-- ---- what the tries hold

module _ (def : ServiceDef) (lawful : def_fault def ≡ None) where
  abbrev apart : Distinct def.levels.items
  apart = distinct_levels def lawful

  known : (l : Level) → Contains def.levels.items l → level_of def l.name ≡ Some l
  known l w = found_itself def.levels.items l apart w

  same_pairs : (l : Level) → Contains def.levels.items l → (f : Form) → level_pairs l f ≡ form_pairs def l.name f
  same_pairs l w f = ap (numbered f.id 0) (sym (same_keys def apart l (known l w) f))

  same_given : (l : Level) → Contains def.levels.items l → (o : Option Form) → given_level_pairs l o ≡ given_form_pairs def l.name o
  same_given l w None = refl
  same_given l w (Some f) = same_pairs l w f

  built_level : (forms : List Form) (l : Level) → Contains def.levels.items l → built forms l ≡ indexed def forms l
  built_level forms l w = ap (λ all. record { level = l; held = in_order all }) (flat_map_agree (level_pairs l) (form_pairs def l.name) (same_pairs l w) forms)

  pub built_levels : (forms : List Form) → map (built forms) def.levels.items ≡ map (indexed def forms) def.levels.items
  built_levels forms = map_agree (built forms) (indexed def forms) def.levels.items (built_level forms)

  pub is_built : (forms : List Form) (levels : List LevelPairs) → ids_differ forms ≡ true → forms_fit def forms ≡ true → levels ≡ map (built forms) def.levels.items → IsIndexed def forms levels
  is_built forms levels differ fit e = record { lawful = lawful; apart = differ; fit = fit; levels_hold = e ∙ built_levels forms }

  module _ (forms : List Form) (old new : Option Form) (differ : ids_differ forms ≡ true) (among : IsAmong forms old) where
    edited_level : (l : Level) → Contains def.levels.items l → edited old new (indexed def forms l) ≡ indexed def (changed forms old new) l
    edited_level l w = ap (λ all. record { level = l; held = all })
        ((λ i. with_all (without_all (in_order (all_pairs def l.name forms)) (same_given l w old i)) (same_given l w new i)) ∙ after_change def l.name forms old differ among new)

    pub is_edited : (levels later : List LevelPairs) → forms_fit def forms ≡ true → is_free forms old new ≡ true → given_fits def new ≡ true → levels ≡ map (indexed def forms) def.levels.items
        → later ≡ map (edited old new) levels → IsIndexed def (changed forms old new) later
    is_edited levels later fit free fits is e = record {
      lawful = lawful;
      apart = after_change_apart forms old new differ free;
      fit = after_change_fit def forms old new fit fits;
      levels_hold = e ∙ ap (map (edited old new)) is ∙ map_twice (edited old new) (indexed def forms) def.levels.items
          ∙ map_agree (λ l. edited old new (indexed def forms l)) (indexed def (changed forms old new)) def.levels.items edited_level;
    }

  -- ---- the edits

  pub built_within : (forms : List Form) → sum_by (λ (l : Level). sum_by (λ (f : Form). length (level_keys l f)) forms) def.levels.items ≤ sum_by (pairs def) forms
  built_within forms = forms_within def apart forms

  given_within : (o : Option Form) → sum_by (λ (l : Level). length (given_keys l o)) def.levels.items ≤ given_pairs def o
  given_within None = let none = sum_none def.levels.items in omega (arith, none)
  given_within (Some f) = form_within def apart f

  pub edited_within : (forms : List Form) (levels : List LevelPairs) (old new : Option Form) → levels ≡ map (indexed def forms) def.levels.items
      → sum_by (λ (t : LevelPairs). length (given_keys t.level old) + length (given_keys t.level new)) levels ≤ given_pairs def old + given_pairs def new
  edited_within forms levels old new e =
      let over = ap (sum_by (λ (t : LevelPairs). length (given_keys t.level old) + length (given_keys t.level new))) e
      ∙ fold-map (λ n (t : LevelPairs). n + (length (given_keys t.level old) + length (given_keys t.level new))) (indexed def forms) 0 def.levels.items
      ∙ sum_add (λ (l : Level). length (given_keys l old)) (λ (l : Level). length (given_keys l new)) def.levels.items in
      let one = given_within old in
      let other = given_within new in
      omega (arith, over, one, other)
