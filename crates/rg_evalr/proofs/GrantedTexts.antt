-- The accesses that are written out are those that the entries grant.
use Rattle.std.proofs.Common.{◌≡◌, ◌||◌, ◌&&◌, ◌++◌, ◌==◌, ℕ, Bool, true, false, cond, List, [], ◌∷◌, Option, Some, None, refl, ap, ◌∙◌}
use Rattle.std.proofs.lemmas.List.Folds.{list_any-append}
use Rattle.std.specs.Prelude.{option_to_list}
use Rattle.std.specs.List.{flat_map, list_any}
use Rattle.std.specs.Str.{bytes_eq}
use Rattle.rg_base.proofs.Lists.{list_any_agree}
use Rattle.rg_base.specs.Texts.{is_among}
use Rattle.rg_policy.specs.declared.policy.AccessEntry.{AccessEntry}
use Rattle.rg_defs.specs.Grants.{expand, grants}
use Rattle.rg_defs.specs.declared.service_def.ServiceDef.{ServiceDef}
use Rattle.rg_items.specs.Accesses.{any_grants, entry_grants}
use Rattle.rg_evalr.specs.Frames.{def_of, requested_access}
use Rattle.rg_evalr.specs.Granted.{all_granted, granted, granted_by, of_component, past_component}
use Rattle.rg_evalr.specs.declared.frame.Frame.{Frame}
use Rattle.rg_evalr.specs.declared.frame.Side.{Side}
use Rattle.rg_evalr.specs.declared.frame.Side.TheVariants.{Resource, Tag}

-- a text is among some lists where it is among one of them
among_some : {X : Type 0} (f : X → List (List ℕ)) (text : List ℕ) (xs : List X) → is_among text (flat_map f xs) ≡ list_any (λ x. is_among text (f x)) xs
among_some f text [] = refl
among_some f text (x ∷ xs) = list_any-append (λ t. bytes_eq t text) (f x) (flat_map f xs) ∙ ap (λ b. is_among text (f x) || b) (among_some f text xs)

entry_is : (def : ServiceDef) (asked : List ℕ) (entry : AccessEntry) → is_among asked (granted_by def entry) ≡ entry_grants def asked entry
entry_is def asked entry = elim entry.allowed as (λ v. is_among asked (cond v (expand def entry.access) []) ≡ (v && grants def entry.access asked)) [
  | true ↦ refl
  | false ↦ refl
]

all_is : (def : ServiceDef) (asked : List ℕ) (entries : List AccessEntry) → is_among asked (all_granted def entries) ≡ any_grants def asked entries
all_is def asked entries =
    among_some (granted_by def) asked entries
    ∙ list_any_agree (λ entry. is_among asked (granted_by def entry)) (entry_grants def asked) (entry_is def asked) entries

abbrev is_rest : List ℕ → Option (List ℕ) → Bool
is_rest access None = false
is_rest access (Some t) = bytes_eq t access

no_text : (component access : List ℕ) → false ≡ bytes_eq [] (component ++ 58 ∷ access)
no_text [] access = refl
no_text (a ∷ component) access = refl

-- a text goes on past the component with the access just where it is the two joined
past_is : (access t component : List ℕ) → is_rest access (past_component t component) ≡ bytes_eq t (component ++ 58 ∷ access)
past_is access [] component = no_text component access
past_is access (c ∷ t) [] = elim (c == 58) as (λ v. is_rest access (cond v (Some t) None) ≡ (v && bytes_eq t access)) [ true ↦ refl | false ↦ refl ]
past_is access (c ∷ t) (a ∷ component) =
    elim (c == a) as (λ v. is_rest access (cond v (past_component t component) None) ≡ (v && bytes_eq t (component ++ 58 ∷ access))) [
      | true ↦ past_is access t component
      | false ↦ refl
    ]

or_none : (b : Bool) → (b || false) ≡ b
or_none true = refl
or_none false = refl

among_rest : (access : List ℕ) (o : Option (List ℕ)) → is_among access (option_to_list o) ≡ is_rest access o
among_rest access None = refl
among_rest access (Some r) = or_none (bytes_eq r access)

component_is : (component access : List ℕ) (texts : List (List ℕ)) → is_among access (of_component component texts) ≡ is_among (component ++ 58 ∷ access) texts
component_is component access texts =
    among_some (λ t. option_to_list (past_component t component)) access texts
    ∙ list_any_agree (λ t. is_among access (option_to_list (past_component t component))) (λ t. bytes_eq t (component ++ 58 ∷ access))
    (λ t. among_rest access (past_component t component) ∙ past_is access t component) texts

pub granted_is : (frame : Frame) (side : Side) (access : List ℕ) (entries : List AccessEntry)
    → is_among access (granted frame side entries) ≡ any_grants (def_of frame side) (requested_access frame side access) entries
granted_is frame Resource access entries = all_is (def_of frame Resource) access entries
granted_is frame Tag access entries =
    component_is frame.def.name access (all_granted (def_of frame Tag) entries)
    ∙ all_is (def_of frame Tag) (frame.def.name ++ 58 ∷ access) entries
