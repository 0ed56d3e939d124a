-- How policies and tag rows are filed, and how much work a set of them may count.
use Rattle.std.specs.Prelude.{◌≡◌, ◌≤◌, ℕ, ◌+◌, ◌==◌, not, Bool, List, [], ◌∷◌, filter, length, map, sum_by, Option, Some, None, if◌then◌else◌}
use Rattle.rg_base.specs.Counts.{Counts}
use Rattle.rg_base.specs.Listed.{listed}
use Rattle.rg_policy.specs.Maps.{maps_of}
use Rattle.rg_policy.specs.declared.policy.Policy.{Policy}
use Rattle.rg_defs.specs.declared.service_def.ServiceDef.{ServiceDef}
use Rattle.rg_resmatch.specs.declared.reach.Reach.TheVariants.{Exact, Down}
use Rattle.rg_tags.specs.declared.row.TagRow.{TagRow}
use Rattle.rg_cmd.specs.Kinds.{deleted}
use Rattle.rg_cmd.specs.Lookups.{has_id, has_row_id}
use Rattle.rg_cmd.specs.declared.changes.PolicyChange.{PolicyChange}
use Rattle.rg_cmd.specs.declared.changes.TagChange.{TagChange}
use Rattle.rg_delta.specs.Applied.{policies_after, rows_after, tag_policies_after}
use Rattle.rg_evalr.specs.declared.frame.Side.{Side}
use Rattle.rg_evalr.specs.declared.frame.Side.TheVariants.{Resource, Tag}
use Rattle.rg_index.specs.Filing.{pairs}
use Rattle.rg_index.specs.declared.form.Form.{Form}

-- ---- forms

-- a policy is filed by its resource maps
abbrev pub policy_form : Policy → Form
policy_form p = record { id = p.id.0; maps = listed (maps_of p); reach = Exact }

-- a tag row by its one map, for what lies below it too
abbrev pub row_form : TagRow → Form
row_form row = record { id = row.id; maps = listed (record { levels = row.resources } ∷ []); reach = Down }

abbrev pub policy_forms : List Policy → List Form
policy_forms policies = map policy_form policies

abbrev pub row_forms : List TagRow → List Form
row_forms rows = map row_form rows

-- ---- compiles and edits

-- how often forms are filed, of policies or tag policies, whose definition may be absent
abbrev pub pairs_under : Option ServiceDef → List Form → ℕ
pairs_under None forms = 0
pairs_under (Some def) forms = sum_by (pairs def) forms

-- how many of the changes create or update a policy
abbrev pub made : List PolicyChange → ℕ
made changes = length (filter (λ (c : PolicyChange). not (c.change_type == deleted)) changes)

-- of a change, how often its new form is filed, where it has one, and each form that it takes away
abbrev pub pairs_of_change : Option ServiceDef → ℕ → Form → List Form → ℕ
pairs_of_change def change_type new old = (if change_type == deleted then 0 else pairs_under def (new ∷ [])) + pairs_under def old

-- so many compiles and edits are counted at most, and no try
pub record WorkWithin (compiles edits : ℕ) (old new : Counts) : Type 0 where
  pub compiled : new.compiles ≤ old.compiles + compiles
  pub edited : new.edits ≤ old.edits + edits
  pub tries : new.tries ≡ old.tries

-- exactly so many compiles are counted
abbrev pub HasCompiled : ℕ → Counts → Counts → Type 0
HasCompiled compiles old new = new.compiles ≡ old.compiles + compiles

-- ---- changes of the policies of one side

-- the change is of a policy of the side
abbrev pub is_on : Side → PolicyChange → Bool
is_on Resource c = not c.tag
is_on Tag c = c.tag

-- the policies of the side after a change
abbrev pub side_after : Side → List Policy → PolicyChange → List Policy
side_after Resource policies c = policies_after policies c
side_after Tag policies c = tag_policies_after policies c

-- how many of the changes create or update a policy of the side
abbrev pub made_on : Side → List PolicyChange → ℕ
made_on side changes = made (filter (is_on side) changes)

-- the sum over the changes of the side, each of the policies that stood before it
abbrev pub pairs_on : ServiceDef → Side → List Policy → List PolicyChange → ℕ
pairs_on def side policies [] = 0
pairs_on def side policies (c ∷ cs) =
    (if is_on side c then pairs_of_change (Some def) c.change_type (policy_form c.policy) (policy_forms (filter (has_id c.policy.id.0) policies)) else 0)
    + pairs_on def side (side_after side policies c) cs

-- the sum over the changes of tag rows, each of the rows that stood before it
abbrev pub row_pairs : ServiceDef → List TagRow → List TagChange → ℕ
row_pairs def rows [] = 0
row_pairs def rows (c ∷ cs) =
    pairs_of_change (Some def) c.change_type (row_form c.row) (row_forms (filter (has_row_id c.row.id) rows))
    + row_pairs def (rows_after rows c) cs
