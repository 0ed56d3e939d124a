-- For proofs alone: the edits of the one list that a change is of.
use Rattle.std.specs.Prelude.{Bool, List, filter, map}
use Rattle.std.specs.Bool.{beq}
use Rattle.rg_policy.specs.declared.policy.Policy.{Policy}
use Rattle.rg_tags.specs.declared.row.TagRow.{TagRow}
use Rattle.rg_cmd.specs.declared.changes.PolicyChange.{PolicyChange}
use Rattle.rg_cmd.specs.declared.changes.TagChange.{TagChange}
use Rattle.rg_delta.specs.Edits.{Edit}

abbrev pub policy_edit : PolicyChange → Edit Policy
policy_edit c = record { change_type = c.change_type; item = c.policy }

abbrev pub row_edit : TagChange → Edit TagRow
row_edit c = record { change_type = c.change_type; item = c.row }

-- those of the service's own policies, or of its tag service's
abbrev pub edits_with : Bool → List PolicyChange → List (Edit Policy)
edits_with tag changes = map policy_edit (filter (λ (c : PolicyChange). beq c.tag tag) changes)
