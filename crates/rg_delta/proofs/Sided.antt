-- Changes of policies and tag rows as edits of one list.
use Rattle.std.proofs.Common.{◌≡◌, ◌<◌, ◌+◌, ◌++◌, ℕ, ℤ, length, take, get_or, Bool, true, false, cond, List, [], ◌∷◌, map, filter, fold, refl, ap, ◌∙◌}
use Rattle.std.proofs.lemmas.List.{map-append}
use Rattle.std.proofs.lemmas.List.Elements.{filter-append}
use Rattle.std.specs.Bool.{beq}
use Rattle.rg_base.proofs.Lists.{take_next}
use Rattle.rg_policy.specs.declared.policy.Policy.{Policy}
use Rattle.rg_tags.specs.declared.row.TagRow.{TagRow}
use Rattle.rg_cmd.specs.declared.changes.PolicyChange.{PolicyChange}
use Rattle.rg_cmd.specs.declared.changes.TagChange.{TagChange}
use Rattle.rg_delta.specs.Applied.{policies_after, rows_after, tag_policies_after}
use Rattle.rg_delta.specs.Editing.{edited}
use Rattle.rg_delta.specs.Sides.{edits_with, policy_edit, row_edit}

abbrev policy_id : Policy → ℤ
policy_id p = p.id.0

abbrev row_id : TagRow → ℤ
row_id r = r.id

pub own_edits : (policies : List Policy) (changes : List PolicyChange) → fold (edited policy_id) policies (edits_with false changes) ≡ fold policies_after policies changes
own_edits policies [] = refl
own_edits policies (c ∷ cs) = at c.tag (λ ps. own_edits ps cs) where
  at : (b : Bool) → ((ps : List Policy) → fold (edited policy_id) ps (edits_with false cs) ≡ fold policies_after ps cs)
      → fold (edited policy_id) policies (map policy_edit (cond (beq b false) (c ∷ filter (λ (d : PolicyChange). beq d.tag false) cs) (filter (λ (d : PolicyChange). beq d.tag false) cs)))
      ≡ fold policies_after (cond b policies (edited policy_id policies (policy_edit c))) cs
  at true rest = rest policies
  at false rest = rest (edited policy_id policies (policy_edit c))

pub tag_edits : (policies : List Policy) (changes : List PolicyChange) → fold (edited policy_id) policies (edits_with true changes) ≡ fold tag_policies_after policies changes
tag_edits policies [] = refl
tag_edits policies (c ∷ cs) = at c.tag (λ ps. tag_edits ps cs) where
  at : (b : Bool) → ((ps : List Policy) → fold (edited policy_id) ps (edits_with true cs) ≡ fold tag_policies_after ps cs)
      → fold (edited policy_id) policies (map policy_edit (cond (beq b true) (c ∷ filter (λ (d : PolicyChange). beq d.tag true) cs) (filter (λ (d : PolicyChange). beq d.tag true) cs)))
      ≡ fold tag_policies_after (cond b (edited policy_id policies (policy_edit c)) policies) cs
  at true rest = rest (edited policy_id policies (policy_edit c))
  at false rest = rest policies

pub all_edits : (rows : List TagRow) (changes : List TagChange) → fold (edited row_id) rows (map row_edit changes) ≡ fold rows_after rows changes
all_edits rows [] = refl
all_edits rows (c ∷ cs) = all_edits (rows_after rows c) cs

-- the edits up to the next change
pub row_edits_next : (changes : List TagChange) (n : ℕ) (c : TagChange) → n < length changes → c ≡ get_or changes n c
    → map row_edit (take (n + 1) changes) ≡ map row_edit (take n changes) ++ row_edit c ∷ []
row_edits_next changes n c within is = ap (map row_edit) (take_next n changes c within is) ∙ map-append row_edit (take n changes) (c ∷ [])

pub edits_next : (tag : Bool) (changes : List PolicyChange) (n : ℕ) (c : PolicyChange) → n < length changes → c ≡ get_or changes n c
    → edits_with tag (take (n + 1) changes) ≡ edits_with tag (take n changes) ++ cond (beq c.tag tag) (policy_edit c ∷ []) []
edits_next tag changes n c within is =
    ap (edits_with tag) (take_next n changes c within is)
    ∙ ap (map policy_edit) (filter-append (λ (d : PolicyChange). beq d.tag tag) (take n changes) (c ∷ []))
    ∙ map-append policy_edit (filter (λ (d : PolicyChange). beq d.tag tag) (take n changes)) (cond (beq c.tag tag) (c ∷ []) [])
    ∙ ap (λ l. edits_with tag (take n changes) ++ l) (at (beq c.tag tag)) where
      at : (b : Bool) → map policy_edit (cond b (c ∷ []) []) ≡ cond b (policy_edit c ∷ []) []
      at true = refl
      at false = refl
