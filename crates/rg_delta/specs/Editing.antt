-- For proofs alone: what edits make of each item of a list, and which of them add one.
use Rattle.std.specs.Prelude.{ℕ, ℤ, ◌≡◌, ◌==◌, not, Bool, true, false, List, [], ◌∷◌, Option, Some, None, option_map, option_and_then, if◌then◌else◌}
use Rattle.std.specs.BTreeMap.{BTreeMap, get}
use Rattle.std.specs.List.{cons_option, list_any, slice_get}
use Rattle.std.specs.Ordering.{int_cmp, int_eq}
use Rattle.rg_cmd.specs.Kinds.{created, deleted, updated}
use Rattle.rg_delta.specs.Edits.{Edit, changed}

-- the id is marked
abbrev pub is_marked : Option Bool → Bool
is_marked None = false
is_marked (Some mark) = mark

module _ {X : Type 0} (id_of : X → ℤ) where
  -- the item has the id of this one
  abbrev pub has_id_of : X → X → Bool
  has_id_of x y = int_eq (id_of y) (id_of x)

  -- the list after an edit
  abbrev pub edited : List X → Edit X → List X
  edited xs e = changed (has_id_of e.item) e.change_type e.item xs

  -- exactly the ids of the items are marked
  abbrev pub AreIds : BTreeMap ℤ Bool → List X → Type 0
  AreIds ids xs = (id : ℤ) → is_marked (get int_cmp ids id) ≡ list_any (λ x. int_eq (id_of x) id) xs

  -- the edit adds its item at the end
  abbrev pub is_birth : List X → Edit X → Bool
  is_birth xs e = if e.change_type == created then true else (if e.change_type == updated then not (list_any (has_id_of e.item) xs) else false)

  -- of each edit, whether it does
  abbrev pub births : List X → List (Edit X) → List Bool
  births xs [] = []
  births xs (e ∷ es) = is_birth xs e ∷ births (edited xs e) es

  -- what one edit makes of an item
  abbrev pub turned : Edit X → X → Option X
  turned e y = if e.change_type == created then Some y
      else (if e.change_type == updated then Some (if has_id_of e.item y then e.item else y)
      else (if e.change_type == deleted then (if has_id_of e.item y then None else Some y) else Some y))

  -- what the edits make of an item, one after the other
  abbrev pub became : List (Edit X) → X → Option X
  became [] y = Some y
  became (e ∷ es) y = option_and_then (became es) (turned e y)

  -- what the edits make of the item that one before them adds
  abbrev pub grown : Bool → List (Edit X) → X → Option X
  grown mark es x = if mark then became es x else None

  -- the items that the edits add, as those after them leave them
  abbrev pub born : List (Edit X) → List Bool → List X
  born [] marks = []
  born (e ∷ es) [] = []
  born (e ∷ es) (mark ∷ marks) = cons_option (grown mark es e.item) (born es marks)

  -- what the entry of an id says of its items: without one they stay, else they go, or an edit's item replaces them
  abbrev pub fate : List (Edit X) → Option (Option ℕ) → X → Option X
  fate es None y = Some y
  fate es (Some None) y = None
  fate es (Some (Some at)) y = option_map (λ (e : Edit X). e.item) (slice_get es at)

  -- the entries say what the rest of the edits makes of items
  abbrev pub AreFates : List (Edit X) → BTreeMap ℤ (Option ℕ) → List (Edit X) → Type 0
  AreFates es fates rest = (y : X) → became rest y ≡ fate es (get int_cmp fates (id_of y)) y
