-- For proofs alone: the plan of edits, which of the things that stood before stay, and what the edits put into the list.
use Rattle.std.specs.Prelude.{◌≡◌, ℕ, ℤ, ◌+◌, ◌&&◌, ◌||◌, ◌==◌, Bool, true, false, List, [], ◌∷◌, ◌++◌, filter, fold, map, sum_by, Option, Some, None, if◌then◌else◌}
use Rattle.std.specs.List.{cons_option, list_any}
use Rattle.std.specs.Ordering.{int_eq}
use Rattle.rg_cmd.specs.Kinds.{created, deleted, updated}
use Rattle.rg_cmd.specs.Lists.{without}
use Rattle.rg_delta.specs.Edits.{Edit}
use Rattle.rg_delta.specs.Editing.{edited, has_id_of}
use Rattle.rg_policy_sets.specs.declared.plan.Fate.{Fate}
use Rattle.rg_policy_sets.specs.declared.plan.Fate.TheVariants.{Stays, Goes, Becomes}
use Rattle.rg_policy_sets.specs.declared.plan.Place.{Place}

-- what becomes of the things that stood before, in their order, and the things that come after them
pub record Planned (X : Type 0) : Type 0 where
  pub places : List (Place X)
  pub added : List X

-- something stands at the place
abbrev pub is_taken : {X : Type 0} → Fate X → Bool
is_taken Stays = true
is_taken Goes = false
is_taken (Becomes y) = true

-- what was there before stands at the place
abbrev pub is_kept : {X : Type 0} → Fate X → Bool
is_kept Stays = true
is_kept Goes = false
is_kept (Becomes y) = false

-- what stands where this thing was
abbrev pub stood : {X : Type 0} → Fate X → X → Option X
stood Stays x = Some x
stood Goes x = None
stood (Becomes y) x = Some y

-- what an edit put at the place
abbrev pub put_there : {X : Type 0} → Fate X → Option X
put_there Stays = None
put_there Goes = None
put_there (Becomes y) = Some y

-- what stands at the places of these things
abbrev pub left_of : {X : Type 0} → List (Place X) → List X → List X
left_of [] xs = []
left_of (p ∷ ps) [] = []
left_of (p ∷ ps) (x ∷ xs) = cons_option (stood p.fate x) (left_of ps xs)

-- the list after the edits
abbrev pub standing : {X : Type 0} → Planned X → List X → List X
standing p xs = left_of p.places xs ++ p.added

-- the things at the places that edits put there
abbrev pub put_at : {X : Type 0} → List (Place X) → List X
put_at [] = []
put_at (p ∷ ps) = cons_option (put_there p.fate) (put_at ps)

-- all things that edits put into the list
abbrev pub made_in : {X : Type 0} → Planned X → List X
made_in p = put_at p.places ++ p.added

-- the weight of the things that don't stay
abbrev pub lost : {X Y : Type 0} → (Y → ℕ) → List (Place X) → List Y → ℕ
lost w [] ys = 0
lost w (p ∷ ps) [] = 0
lost w (p ∷ ps) (y ∷ ys) = (if is_kept p.fate then 0 else w y) + lost w ps ys

-- the place of a thing that stays
abbrev pub unmoved : {X : Type 0} → ℤ → Place X
unmoved id = record { id = id; fate = Stays }

-- before any edit all stays
abbrev pub at_first : {X : Type 0} → List ℤ → Planned X
at_first ids = record { places = map unmoved ids; added = [] }

-- what becomes of the things with an id, if this is what was said of ids, one after the other: the last counts
abbrev pub fate_of : {X : Type 0} → List (Place X) → ℤ → Fate X
fate_of said id = fold (λ fate p. if int_eq id p.id then p.fate else fate) Stays said

abbrev pub place_for : {X : Type 0} → List (Place X) → ℤ → Place X
place_for said id = record { id = id; fate = fate_of said id }

-- the plan of things with these ids, of which so much was said
abbrev pub spread : {X : Type 0} → List ℤ → Planned X → Planned X
spread ids said = record { places = map (place_for said.places) ids; added = said.added }

-- the weight of what the edit puts into the list, if it doesn't delete
abbrev pub weight_put : {X : Type 0} → (X → ℕ) → Edit X → ℕ
weight_put w e = if e.change_type == deleted then 0 else w e.item

module _ {X : Type 0} (id_of : X → ℤ) where
  -- something with the id of this thing stands at the place
  abbrev pub has_there : X → Place X → Bool
  has_there x p = int_eq p.id (id_of x) && is_taken p.fate

  -- the place, where this thing replaces those of its id
  abbrev pub renewed : X → Place X → Place X
  renewed x p = record { id = p.id; fate = (if int_eq p.id (id_of x) && is_taken p.fate then Becomes x else p.fate) }

  -- the place, where those of this id go
  abbrev pub cleared : X → Place X → Place X
  cleared x p = record { id = p.id; fate = (if int_eq p.id (id_of x) then Goes else p.fate) }

  abbrev pub or_new : X → X → X
  or_new x y = if has_id_of id_of x y then x else y

  abbrev pub planned_put : X → Planned X → Planned X
  planned_put x p =
      if list_any (has_there x) p.places || list_any (has_id_of id_of x) p.added
      then record { places = map (renewed x) p.places; added = map (or_new x) p.added }
      else record { places = p.places; added = p.added ++ x ∷ [] }

  abbrev pub planned_without : X → Planned X → Planned X
  planned_without x p = record { places = map (cleared x) p.places; added = without (has_id_of id_of x) p.added }

  -- the plan with one more edit
  abbrev pub with_edit : Planned X → Edit X → Planned X
  with_edit p e =
      if e.change_type == created then record { places = p.places; added = p.added ++ e.item ∷ [] }
      else (if e.change_type == updated then planned_put e.item p
      else (if e.change_type == deleted then planned_without e.item p else p))

  -- the plan of all edits of things with these ids
  abbrev pub plan_of : List ℤ → List (Edit X) → Planned X
  plan_of ids es = fold with_edit (at_first ids) es

  -- what is said of this thing, where something with its id stands
  abbrev pub said_renewed : X → List (Place X) → List (Place X)
  said_renewed x said = if is_taken (fate_of said (id_of x)) then said ++ record { id = id_of x; fate = Becomes x } ∷ [] else said

  abbrev pub said_put : List ℤ → X → Planned X → Planned X
  said_put ids x p =
      if (is_taken (fate_of p.places (id_of x)) && list_any (λ id. int_eq id (id_of x)) ids) || list_any (has_id_of id_of x) p.added
      then record { places = said_renewed x p.places; added = map (or_new x) p.added }
      else record { places = p.places; added = p.added ++ x ∷ [] }

  abbrev pub said_without : X → Planned X → Planned X
  said_without x p = record { places = p.places ++ record { id = id_of x; fate = Goes } ∷ []; added = without (has_id_of id_of x) p.added }

  -- what was said, with one more edit of things with these ids
  abbrev pub said_edit : List ℤ → Planned X → Edit X → Planned X
  said_edit ids p e =
      if e.change_type == created then record { places = p.places; added = p.added ++ e.item ∷ [] }
      else (if e.change_type == updated then said_put ids e.item p
      else (if e.change_type == deleted then said_without e.item p else p))

  -- what all edits say
  abbrev pub said_of : List ℤ → List (Edit X) → Planned X
  said_of ids es = fold (said_edit ids) (record { places = []; added = [] }) es

  -- what stands at the place has its id
  abbrev pub Suits : ℤ → Fate X → Type 0
  Suits id Stays = Unit {0}
  Suits id Goes = Unit {0}
  Suits id (Becomes y) = id_of y ≡ id

  -- the places are those of these things
  abbrev pub AllSuit : List (Place X) → List X → Type 0
  AllSuit [] [] = Unit {0}
  AllSuit [] (x ∷ xs) = ⊥
  AllSuit (p ∷ ps) [] = ⊥
  AllSuit (p ∷ ps) (x ∷ xs) = (p.id ≡ id_of x) × Suits p.id p.fate × AllSuit ps xs

  -- of each edit that weight, and that of what had its id before it
  abbrev pub weighed : (X → ℕ) → List X → List (Edit X) → ℕ
  weighed w xs [] = 0
  weighed w xs (e ∷ es) = (weight_put w e + sum_by w (filter (has_id_of id_of e.item) xs)) + weighed w (edited id_of xs e) es
