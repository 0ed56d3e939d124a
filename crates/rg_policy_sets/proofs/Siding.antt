-- Changes of policies and tag rows as edits of one list.
use Rattle.std.proofs.Common.{◌≡◌, ◌+◌, ◌==◌, ℕ, length, Bool, true, false, not, cond, List, [], ◌∷◌, map, filter, fold, refl, sym, ap, ◌∙◌, arith}
use Rattle.std.proofs.lemmas.List.Sums.{sum_by-cons}
use Rattle.std.specs.Bool.{beq}
use Rattle.std.specs.List.{sum_by}
use Rattle.rg_policy.specs.declared.policy.Policy.{Policy}
use Rattle.rg_defs.specs.declared.service_def.ServiceDef.{ServiceDef}
use Rattle.rg_tags.specs.declared.row.TagRow.{TagRow}
use Rattle.rg_cmd.specs.Kinds.{deleted}
use Rattle.rg_cmd.specs.Lookups.{has_id, has_row_id}
use Rattle.rg_cmd.specs.declared.changes.PolicyChange.{PolicyChange}
use Rattle.rg_cmd.specs.declared.changes.TagChange.{TagChange}
use Rattle.rg_delta.specs.Applied.{rows_after}
use Rattle.rg_delta.specs.Editing.{edited}
use Rattle.rg_delta.specs.Sides.{edits_with, policy_edit, row_edit}
use Rattle.rg_evalr.specs.declared.frame.Side.{Side}
use Rattle.rg_evalr.specs.declared.frame.Side.TheVariants.{Resource, Tag}
use Rattle.rg_index.specs.Filing.{pairs}
use Rattle.rg_policy_sets.specs.Bounds.{is_on, made_on, pairs_on, policy_form, policy_forms, row_form, row_pairs, side_after}
use Rattle.rg_policy_sets.specs.Moved.{edits_of, policy_id, policy_pairs, row_form_pairs, row_id}
use Rattle.rg_policy_sets.specs.Plan.{weighed, weight_put}

-- ---- those of a side

pub own_sided : (changes : List PolicyChange) → edits_with false changes ≡ edits_of Resource changes
own_sided [] = refl
own_sided (c ∷ cs) = at c.tag (own_sided cs) where
  at : (b : Bool) → edits_with false cs ≡ edits_of Resource cs
      → map policy_edit (cond (beq b false) (c ∷ filter (λ (d : PolicyChange). beq d.tag false) cs) (filter (λ (d : PolicyChange). beq d.tag false) cs))
      ≡ map policy_edit (cond (not b) (c ∷ filter (is_on Resource) cs) (filter (is_on Resource) cs))
  at true rest = rest
  at false rest = ap (λ es. policy_edit c ∷ es) rest

pub tag_sided : (changes : List PolicyChange) → edits_with true changes ≡ edits_of Tag changes
tag_sided [] = refl
tag_sided (c ∷ cs) = at c.tag (tag_sided cs) where
  at : (b : Bool) → edits_with true cs ≡ edits_of Tag cs
      → map policy_edit (cond (beq b true) (c ∷ filter (λ (d : PolicyChange). beq d.tag true) cs) (filter (λ (d : PolicyChange). beq d.tag true) cs))
      ≡ map policy_edit (cond b (c ∷ filter (is_on Tag) cs) (filter (is_on Tag) cs))
  at true rest = ap (λ es. policy_edit c ∷ es) rest
  at false rest = rest

-- ---- what they make of a list

-- a change that isn't of the side changes nothing
after_one : (side : Side) (policies : List Policy) (c : PolicyChange) → side_after side policies c ≡ cond (is_on side c) (edited policy_id policies (policy_edit c)) policies
after_one Resource policies c = at c.tag where
  at : (b : Bool) → cond b policies (edited policy_id policies (policy_edit c)) ≡ cond (not b) (edited policy_id policies (policy_edit c)) policies
  at true = refl
  at false = refl
after_one Tag policies c = refl

pub side_edits : (side : Side) (policies : List Policy) (changes : List PolicyChange) → fold (edited policy_id) policies (edits_of side changes) ≡ fold (side_after side) policies changes
side_edits side policies [] = refl
side_edits side policies (c ∷ cs) = at (is_on side c) (λ ps. side_edits side ps cs) ∙ ap (λ ps. fold (side_after side) ps cs) (sym (after_one side policies c)) where
  at : (b : Bool) → ((ps : List Policy) → fold (edited policy_id) ps (edits_of side cs) ≡ fold (side_after side) ps cs)
      → fold (edited policy_id) policies (map policy_edit (cond b (c ∷ filter (is_on side) cs) (filter (is_on side) cs)))
      ≡ fold (side_after side) (cond b (edited policy_id policies (policy_edit c)) policies) cs
  at true rest = rest (edited policy_id policies (policy_edit c))
  at false rest = rest policies

pub all_edits : (rows : List TagRow) (changes : List TagChange) → fold (edited row_id) rows (map row_edit changes) ≡ fold rows_after rows changes
all_edits rows [] = refl
all_edits rows (c ∷ cs) = all_edits (rows_after rows c) cs

-- ---- how much they put into it, and take away

pub side_made : (side : Side) (changes : List PolicyChange) → sum_by (weight_put (λ p. 1)) (edits_of side changes) ≡ made_on side changes
side_made side [] = refl
side_made side (c ∷ cs) = at (is_on side c) (side_made side cs) where
  own : (b : Bool) (n : ℕ) (l : List PolicyChange) → n ≡ length l → cond b 0 1 + n ≡ length (cond (not b) (c ∷ l) l)
  own true n l is = omega (arith, is)
  own false n l is = omega (arith, is)

  at : (b : Bool) → sum_by (weight_put (λ p. 1)) (edits_of side cs) ≡ made_on side cs
      → sum_by (weight_put (λ p. 1)) (map policy_edit (cond b (c ∷ filter (is_on side) cs) (filter (is_on side) cs)))
      ≡ length (filter (λ (d : PolicyChange). not (d.change_type == deleted)) (cond b (c ∷ filter (is_on side) cs) (filter (is_on side) cs)))
  at true rest =
      sum_by-cons (weight_put (λ p. 1)) (policy_edit c) (edits_of side cs)
      ∙ own (c.change_type == deleted) (sum_by (weight_put (λ p. 1)) (edits_of side cs)) (filter (λ (d : PolicyChange). not (d.change_type == deleted)) (filter (is_on side) cs)) rest
  at false rest = rest

-- the sum over forms is that over what they are of
mapped_sum : {X Y : Type 0} (w : Y → ℕ) (f : X → Y) (xs : List X) → sum_by w (map f xs) ≡ sum_by (λ x. w (f x)) xs
mapped_sum w f [] = refl
mapped_sum w f (x ∷ xs) = sum_by-cons w (f x) (map f xs) ∙ ap (λ n. w (f x) + n) (mapped_sum w f xs) ∙ sym (sum_by-cons (λ x. w (f x)) x xs)

-- one form, unless it is deleted
one_form : {X : Type 0} (w : X → ℕ) (b : Bool) (x : X) → cond b 0 (sum_by w (x ∷ [])) ≡ cond b 0 (w x)
one_form w true x = refl
one_form w false x = let one = sum_by-cons w x [] in omega (arith, one)

pub side_weighed : (def : ServiceDef) (side : Side) (policies : List Policy) (changes : List PolicyChange)
    → weighed policy_id (policy_pairs def) policies (edits_of side changes) ≡ pairs_on def side policies changes
side_weighed def side policies [] = refl
side_weighed def side policies (c ∷ cs) =
    at (is_on side c) (λ ps. side_weighed def side ps cs)
    ∙ ap (λ ps. cond (is_on side c) (cond (c.change_type == deleted) 0 (sum_by (pairs def) (policy_form c.policy ∷ [])) + sum_by (pairs def) (policy_forms (filter (has_id c.policy.id.0) policies))) 0 + pairs_on def side ps cs)
    (sym (after_one side policies c)) where
      at : (b : Bool) → ((ps : List Policy) → weighed policy_id (policy_pairs def) ps (edits_of side cs) ≡ pairs_on def side ps cs)
          → weighed policy_id (policy_pairs def) policies (map policy_edit (cond b (c ∷ filter (is_on side) cs) (filter (is_on side) cs)))
          ≡ cond b (cond (c.change_type == deleted) 0 (sum_by (pairs def) (policy_form c.policy ∷ [])) + sum_by (pairs def) (policy_forms (filter (has_id c.policy.id.0) policies))) 0
          + pairs_on def side (cond b (edited policy_id policies (policy_edit c)) policies) cs
      at true rest = λ i.
          (sym (one_form (pairs def) (c.change_type == deleted) (policy_form c.policy)) i
          + sym (mapped_sum (pairs def) policy_form (filter (has_id c.policy.id.0) policies)) i)
          + rest (edited policy_id policies (policy_edit c)) i
      at false rest = let same = rest policies in omega (arith, same)

pub rows_weighed : (def : ServiceDef) (rows : List TagRow) (changes : List TagChange)
    → weighed row_id (row_form_pairs def) rows (map row_edit changes) ≡ row_pairs def rows changes
rows_weighed def rows [] = refl
rows_weighed def rows (c ∷ cs) = λ i.
    (sym (one_form (pairs def) (c.change_type == deleted) (row_form c.row)) i
    + sym (mapped_sum (pairs def) row_form (filter (has_row_id c.row.id) rows)) i)
    + rows_weighed def (rows_after rows c) cs i
