-- For proofs alone: what a set keeps. Each policy or row stands in a slot with an ordinal, which is the id of its form in the index.
use Rattle.std.specs.Prelude.{◌≡◌, ℕ, ℤ, pos, ◌+◌, int_lt, Bool, true, false, ◌&&◌, ◌||◌, not, if◌then◌else◌, List, [], ◌∷◌, ◌++◌, filter, flat_map, fold, map, Option, Some, None, IfSome, Contains, length, option_map, option_to_list}
use Rattle.std.specs.List.{find, list_all, list_any}
use Rattle.std.specs.Int.{int_min}
use Rattle.std.specs.Ordering.{int_eq}
use Rattle.rg_policy.specs.declared.policy.Policy.{Policy}
use Rattle.rg_defs.specs.declared.service_def.ServiceDef.{ServiceDef}
use Rattle.rg_tags.specs.declared.row.TagRow.{TagRow}
use Rattle.rg_evalr.specs.Frames.{def_of}
use Rattle.rg_evalr.specs.Sources.{Source}
use Rattle.rg_evalr.specs.declared.frame.Frame.{Frame}
use Rattle.rg_evalr.specs.declared.frame.Side.{Side}
use Rattle.rg_policy.specs.declared.request.Element.{Element}
use Rattle.rg_policy.specs.declared.request.Resource.{Resource}
use Rattle.rg_resmatch.specs.Tests.{some_lies}
use Rattle.rg_index.specs.Candidates.{bound, candidates}
use Rattle.rg_index.specs.declared.form.Form.{Form}
use Rattle.rg_policy_sets.specs.Bounds.{policy_form, row_form}
use Rattle.rg_policy_sets.specs.declared.row_visits.Least.{Least}
use Rattle.rg_policy_sets.specs.declared.row_visits.Left.{Left}
use Rattle.rg_policy_sets.specs.declared.row_visits.Left.TheVariants.{Rising, Any}
use Rattle.rg_policy_sets.specs.Seen.{RowSource, row_source, source}

-- a thing with the ordinal of its slot
pub record Placed (X : Type 0) : Type 0 where
  pub ordinal : ℤ
  pub held : X

-- slots, filed under a definition
pub record Shelved (X : Type 0) : Type 0 where
  pub def : ServiceDef
  pub slots : List (Placed X)

-- the form under another id
abbrev pub renumbered : ℤ → Form → Form
renumbered ordinal form = record { id = ordinal; maps = form.maps; reach = form.reach }

-- the form of a slot
abbrev pub slot_form : {X : Type 0} → (X → Form) → Placed X → Form
slot_form form s = renumbered s.ordinal (form s.held)

abbrev pub slot_forms : {X : Type 0} → (X → Form) → List (Placed X) → List Form
slot_forms form slots = map (slot_form form) slots

-- the id of what a slot holds
abbrev pub slot_id : {X : Type 0} → (X → Form) → Placed X → ℤ
slot_id form s = (form s.held).id

abbrev pub slot_ids : {X : Type 0} → (X → Form) → List (Placed X) → List ℤ
slot_ids form slots = map (slot_id form) slots

-- the slots of all pages
abbrev pub all_in : {X : Type 0} → List (List X) → List X
all_in pages = flat_map (λ page. page) pages

-- a page has a slot
abbrev pub is_filled : {X : Type 0} → List X → Bool
is_filled [] = false
is_filled (s ∷ slots) = true

-- the ordinal of the last slot, or this one where there is none
abbrev pub last_from : {X : Type 0} → ℤ → List (Placed X) → ℤ
last_from last [] = last
last_from last (s ∷ slots) = last_from s.ordinal slots

abbrev pub last_ordinal : {X : Type 0} → List (Placed X) → ℤ
last_ordinal slots = last_from (pos 0) slots

-- the forms of what is held in the slots
abbrev pub held_forms : {X : Type 0} → (X → Form) → List (Placed X) → List Form
held_forms form slots = map (λ s. form s.held) slots

-- the ordinals of the slots that are candidates for a resource
abbrev pub found_in : {X : Type 0} → (X → Form) → Shelved X → List Element → List ℤ
found_in form shelf elements = candidates shelf.def (slot_forms form shelf.slots) elements

-- the ordinals are above this one, where it is given, and rise
abbrev pub rise_above : {X : Type 0} → Option ℤ → List (Placed X) → Bool
rise_above least [] = true
rise_above None (s ∷ slots) = rise_above (Some s.ordinal) slots
rise_above (Some least) (s ∷ slots) = int_lt least s.ordinal && rise_above (Some s.ordinal) slots

abbrev pub are_rising : {X : Type 0} → List (Placed X) → Bool
are_rising slots = rise_above None slots

-- these things in slots, counted from this ordinal
abbrev pub placed_from : {X : Type 0} → ℕ → List X → List (Placed X)
placed_from ordinal [] = []
placed_from ordinal (x ∷ xs) = record { ordinal = pos ordinal; held = x } ∷ placed_from (ordinal + 1) xs

-- what is held in the slots
abbrev pub held_in : {X : Type 0} → List (Placed X) → List X
held_in slots = map (λ s. s.held) slots

-- what the slot of this ordinal holds
abbrev pub held_at : {X : Type 0} → List (Placed X) → ℤ → Option X
held_at slots ordinal = option_map (λ s. s.held) (find (λ s. int_eq s.ordinal ordinal) slots)

abbrev pub is_held : {X : Type 0} → List (Placed X) → ℤ → Bool
is_held slots ordinal = list_any (λ s. int_eq s.ordinal ordinal) slots

-- what the slots of these ordinals hold
abbrev pub all_held : {X : Type 0} → List (Placed X) → List ℤ → List X
all_held slots ordinals = flat_map (λ ordinal. option_to_list (held_at slots ordinal)) ordinals

-- the ordinals are those of the slots that may lie on a resource: each slot that does is among them
pub record AreFound {X : Type 0} (form : X → Form) (shelf : Shelved X) (elements : List Element) (ordinals : List ℤ) : Type 0 where
  pub rising : are_rising shelf.slots ≡ true
  pub held : list_all (is_held shelf.slots) ordinals ≡ true
  pub few : length ordinals ≡ bound shelf.def (held_forms form shelf.slots) elements
  pub all : (s : Placed X) (user : List ℕ) → Contains shelf.slots s
      → some_lies shelf.def (form s.held).maps.items (form s.held).reach elements user ≡ true → Contains ordinals s.ordinal

-- ---- rows, each at most once: in the order of their slots

-- the ordinal is above the last one
abbrev pub is_above : Option ℤ → ℤ → Bool
is_above None ordinal = true
is_above (Some last) ordinal = int_lt last ordinal

-- a slot above the last one whose ordinal is among these
abbrev pub is_left : {X : Type 0} → Option ℤ → List ℤ → Placed X → Bool
is_left last ordinals s = is_above last s.ordinal && list_any (λ ordinal. int_eq ordinal s.ordinal) ordinals

abbrev pub left_after : {X : Type 0} → Option ℤ → List ℤ → List (Placed X) → List X
left_after last ordinals slots = held_in (filter (is_left last ordinals) slots)

-- the least so far after one more that is above the last one: another one makes more of them
abbrev pub lesser_than : Bool → Option ℤ → ℤ → Least
lesser_than more None ordinal = record { ordinal = Some ordinal; more = false }
lesser_than more (Some least) ordinal = record { ordinal = Some (int_min least ordinal); more = more || not (int_eq least ordinal) }

abbrev pub lesser : Least → ℤ → Least
lesser least ordinal = lesser_than least.more least.ordinal ordinal

abbrev pub after_one : Option ℤ → Least → ℤ → Least
after_one last least ordinal = if is_above last ordinal then lesser least ordinal else least

-- the least of the ordinals that are above the last one, and whether there is another one of these
abbrev pub least_above : Option ℤ → List ℤ → Least
least_above last ordinals = fold (after_one last) (record { ordinal = None; more = false }) ordinals

-- ---- the two kinds of sets

abbrev pub policies_in : List (Placed Source) → List Policy
policies_in slots = map (λ (s : Placed Source). s.held.policy) slots

abbrev pub rows_in : List (Placed RowSource) → List TagRow
rows_in slots = map (λ (s : Placed RowSource). s.held.row) slots

abbrev pub source_form : Source → Form
source_form s = policy_form s.policy

abbrev pub row_source_form : RowSource → Form
row_source_form s = row_form s.row

-- the slots hold policies of the side, compiled under the frame
pub record ArePolicies (frame : Frame) (side : Side) (shelf : Shelved Source) : Type 0 where
  pub def : shelf.def ≡ def_of frame side
  pub sources : held_in shelf.slots ≡ map (source frame side) (policies_in shelf.slots)

-- the slots hold rows, compiled under the definition
abbrev pub AreRows : Shelved RowSource → Type 0
AreRows shelf = held_in shelf.slots ≡ map (row_source shelf.def) (rows_in shelf.slots)

-- the rows that are left for a resource, after the one of this ordinal
abbrev pub rows_after : Option ℤ → Shelved RowSource → Resource → List RowSource
rows_after last shelf resource = left_after last (found_in row_source_form shelf resource.elements.items) shelf.slots

-- the row of this ordinal, where it is given, and those that are left after it
abbrev pub rows_from : Option ℤ → Shelved RowSource → Resource → List RowSource
rows_from None shelf resource = []
rows_from (Some next) shelf resource = option_to_list (held_at shelf.slots next) ++ rows_after (Some next) shelf resource

-- the next row is there, and the last one if there are no more
pub record IsAhead (shelf : Shelved RowSource) (resource : Resource) (next : Least) : Type 0 where
  pub held : IfSome next.ordinal (λ ordinal. is_held shelf.slots ordinal ≡ true)
  pub alone : next.more ≡ false → IfSome next.ordinal (λ ordinal. rows_after (Some ordinal) shelf resource ≡ [])

-- each ordinal is above the one before it
abbrev pub do_rise : Option ℤ → List ℤ → Bool
do_rise last [] = true
do_rise last (o ∷ ordinals) = is_above last o && do_rise (Some o) ordinals

-- the rows that are left, by how they are found
abbrev pub rows_left : Shelved RowSource → Resource → Left → List RowSource
rows_left shelf resource (Rising ordinals) = all_held shelf.slots ordinals
rows_left shelf resource (Any next) = rows_from next.ordinal shelf resource

abbrev pub IsLeft : Shelved RowSource → Resource → Left → Type 0
IsLeft shelf resource (Rising ordinals) = list_all (is_held shelf.slots) ordinals ≡ true
IsLeft shelf resource (Any next) = IsAhead shelf resource next
