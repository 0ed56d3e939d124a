-- For proofs alone: what is known of a policy before it is read, how the values begin on which it lies at the first two levels of its definition.
use Rattle.std.specs.Prelude.{ℕ, ◌==◌, ◌&&◌, Bool, true, false, List, [], ◌∷◌, filter, length, take, Option, Some, None, if◌then◌else◌}
use Rattle.std.specs.List.{find, slice_get}
use Rattle.std.specs.Str.{bytes_eq}
use Rattle.rg_tree.specs.Hashes.{hash_of}
use Rattle.rg_defs.specs.declared.service_def.Level.{Level}
use Rattle.rg_policy.specs.declared.policy.Policy.{Policy}
use Rattle.rg_policy.specs.declared.policy.PolicyResource.{PolicyResource}
use Rattle.rg_policy.specs.declared.policy.ResourceMap.{ResourceMap}
use Rattle.rg_policy.specs.declared.request.Element.{Element}
use Rattle.rg_resmatch.specs.Tests.{value_at}
use Rattle.rg_evalr.specs.Frames.{def_of}
use Rattle.rg_evalr.specs.Sources.{Source}
use Rattle.rg_index.specs.Filing.{value_key}
use Rattle.rg_policy_sets.specs.declared.marks.Mark.{Mark}

-- ---- how values begin

-- the key of the one value; none is known of several
abbrev pub only_key : Level → List (List ℕ) → List ℕ
only_key l [] = []
only_key l (t ∷ []) = value_key l t
only_key l (t ∷ u ∷ ts) = []

-- an excluding resource stands for values that begin anyhow
abbrev pub resource_key : Level → PolicyResource → List ℕ
resource_key l r = if r.excludes then [] else only_key l r.values.items

-- what isn't named may be any value
abbrev pub found_key : Level → Option PolicyResource → List ℕ
found_key l None = []
found_key l (Some r) = resource_key l r

abbrev pub named_key : Level → List PolicyResource → List ℕ
named_key l resources = found_key l (find (λ (r : PolicyResource). bytes_eq r.level l.name) resources)

-- with what all values begin at this level on which the resources lie, or the maps beside them
abbrev pub key_beside : Level → List PolicyResource → List ResourceMap → List ℕ
key_beside l resources [] = named_key l resources
key_beside l resources (m ∷ ms) = []

abbrev pub policy_key : Level → Policy → List ℕ
policy_key l p = key_beside l p.resources.items p.additional.items

-- ---- marks

-- of a text: how many characters it has, and its hash
abbrev pub mark_of : List ℕ → Mark
mark_of key = record { count = length key; hash = hash_of false key }

-- of a policy at a level, which may be absent
abbrev pub mark_at : Option Level → Policy → Mark
mark_at None p = mark_of []
mark_at (Some l) p = mark_of (policy_key l p)

-- at the level of this place
abbrev pub source_mark : ℕ → Source → Mark
source_mark place s = mark_at (slice_get (def_of s.frame s.side).levels.items place) s.policy

-- ---- what is asked for

-- the value that a resource has at a level, if any, and whether the level folds
pub record Asked : Type 0 where
  pub value : Option (List ℕ)
  pub fold : Bool

-- no value
abbrev pub unasked : Asked
unasked = record { value = None; fold = false }

abbrev pub asked_at : Option Level → List Element → Asked
asked_at None elements = unasked
asked_at (Some l) elements = record { value = value_at elements l.name; fold = l.fold }

-- the value begins as the mark says, as far as its hash tells
abbrev pub value_agrees : Bool → Option (List ℕ) → Mark → Bool
value_agrees fold None m = true
value_agrees fold (Some v) m = hash_of fold (take m.count v) == m.hash

abbrev pub agrees : Asked → Mark → Bool
agrees asked m = value_agrees asked.fold asked.value m

-- the policy may lie on a resource with these values at the first two levels
abbrev pub admits : Asked → Asked → Source → Bool
admits first second s = agrees first (source_mark 0 s) && agrees second (source_mark 1 s)

-- those of them that may
abbrev pub admitted : Asked → Asked → List Source → List Source
admitted first second sources = filter (admits first second) sources
