-- For proofs alone: how slots move with a plan.
use Rattle.std.specs.Prelude.{◌≡◌, ◌≤◌, ◌+◌, ℕ, ℤ, int_lt, ◌&&◌, Bool, List, [], ◌∷◌, ◌++◌, filter, map, Option, Some, None}
use Rattle.std.specs.List.{cons_option, list_all, list_any}
use Rattle.std.specs.Ordering.{int_eq}
use Rattle.rg_base.specs.Counts.{Counts}
use Rattle.rg_policy.specs.declared.policy.Policy.{Policy}
use Rattle.rg_tags.specs.declared.row.TagRow.{TagRow}
use Rattle.rg_cmd.specs.declared.changes.PolicyChange.{PolicyChange}
use Rattle.rg_delta.specs.Edits.{Edit}
use Rattle.rg_delta.specs.Sides.{policy_edit}
use Rattle.rg_evalr.specs.declared.frame.Side.{Side}
use Rattle.rg_defs.specs.declared.service_def.ServiceDef.{ServiceDef}
use Rattle.rg_index.specs.Changes.{form_fits}
use Rattle.rg_index.specs.Filing.{pairs}
use Rattle.rg_index.specs.declared.form.Form.{Form}
use Rattle.rg_policy_sets.specs.Bounds.{is_on, policy_form, row_form}
use Rattle.rg_policy_sets.specs.Kept.{Placed, slot_id, slot_ids}
use Rattle.rg_policy_sets.specs.Plan.{Planned, place_for, spread}
use Rattle.rg_policy_sets.specs.declared.plan.Fate.{Fate}
use Rattle.rg_policy_sets.specs.declared.plan.Fate.TheVariants.{Stays, Goes, Becomes}
use Rattle.rg_policy_sets.specs.declared.plan.Place.{Place}

-- the edits of the policies of a side
abbrev pub edits_of : Side → List PolicyChange → List (Edit Policy)
edits_of side changes = map policy_edit (filter (is_on side) changes)

abbrev pub policy_id : Policy → ℤ
policy_id p = p.id.0

abbrev pub row_id : TagRow → ℤ
row_id r = r.id

-- how often their forms are filed
abbrev pub policy_pairs : ServiceDef → Policy → ℕ
policy_pairs def p = pairs def (policy_form p)

abbrev pub row_form_pairs : ServiceDef → TagRow → ℕ
row_form_pairs def r = pairs def (row_form r)

-- what becomes of a slot: another thing that stands in its place is held under its ordinal
abbrev pub moved_slot : {X H : Type 0} → (X → H) → Fate X → Placed H → Option (Placed H)
moved_slot hold Stays s = Some s
moved_slot hold Goes s = None
moved_slot hold (Becomes x) s = Some (record { ordinal = s.ordinal; held = hold x })

abbrev pub moved_slots : {X H : Type 0} → (X → H) → List (Place X) → List (Placed H) → List (Placed H)
moved_slots hold [] slots = []
moved_slots hold (p ∷ ps) [] = []
moved_slots hold (p ∷ ps) (s ∷ slots) = cons_option (moved_slot hold p.fate s) (moved_slots hold ps slots)

-- the places of slots, of whose ids so much was said
abbrev pub places_of : {X H : Type 0} → (H → Form) → List (Place X) → List (Placed H) → List (Place X)
places_of form said slots = map (place_for said) (slot_ids form slots)

-- the plan of slots
abbrev pub plan_on : {X H : Type 0} → (H → Form) → List (Placed H) → Planned X → Planned X
plan_on form slots said = spread (slot_ids form slots) said

-- something was said of an id of a slot
abbrev pub is_touched : {X H : Type 0} → (H → Form) → List (Place X) → List (Placed H) → Bool
is_touched form said slots = list_any (λ p. list_any (λ s. int_eq (slot_id form s) p.id) slots) said

-- these forms stand side by side among all
pub record AreAmid (those forms : List Form) : Type 0 where
  pub before : List Form
  pub after : List Form
  pub is : forms ≡ before ++ (those ++ after)

-- all ordinals are below this one
abbrev pub are_below : {H : Type 0} → ℤ → List (Placed H) → Bool
are_below ordinal slots = list_all (λ s. int_lt s.ordinal ordinal) slots

-- the thing passes the rules, and its form fits
abbrev pub is_compiled : {X H : Type 0} → (X → Bool) → ServiceDef → (H → Form) → (X → H) → X → Bool
is_compiled passes def form hold x = passes x && form_fits def (form (hold x))

-- work so far, with what is left, is within bounds
pub record WorkLeft (compiles edits all_compiles all_edits : ℕ) (first now : Counts) : Type 0 where
  pub compiled : now.compiles + compiles ≤ first.compiles + all_compiles
  pub edited : now.edits + edits ≤ first.edits + all_edits
  pub tries : now.tries ≡ first.tries
