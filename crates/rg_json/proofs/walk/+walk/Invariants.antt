use Rattle.std.proofs.Common.{◌≡◌, ◌+◌, ◌*◌, ◌≤◌, map, drop, string_bytes}
use Rattle.serde_json.specs.View.{view}
use Rattle.rg_json.specs.Faults.{items_fault, members_fault, fault_of, fields_fault}
use Rattle.rg_json.specs.Shape.{height, fields_height}
use Rattle.rg_json.specs.Kinds.{shape_of, fields_from}
use Rattle.rg_json.proofs.walk.+walk.Given as goal

abbrev pub decreases-fault_in : goal.decreases-fault_in
decreases-fault_in g l = 4 * height (shape_of g.R.Table.record_shape l.kind)

abbrev pub decreases-items_fault : goal.decreases-items_fault
decreases-items_fault g l = 4 * height (shape_of g.R.Table.record_shape l.kind) + 1

abbrev pub decreases-list_fault : goal.decreases-list_fault
decreases-list_fault g l = 4 * height (shape_of g.R.Table.record_shape l.kind) + 2

abbrev pub decreases-map_fault : goal.decreases-map_fault
decreases-map_fault g l = 4 * height (shape_of g.R.Table.record_shape l.kind) + 3

abbrev pub decreases-member_fault : goal.decreases-member_fault
decreases-member_fault g l = 4 * height (shape_of g.R.Table.record_shape l.kind) + 1

abbrev pub decreases-members_fault : goal.decreases-members_fault
decreases-members_fault g l = 4 * height (shape_of g.R.Table.record_shape l.kind) + 2

abbrev pub decreases-field_fault : goal.decreases-field_fault
decreases-field_fault g l = 4 * height (shape_of g.R.Table.record_shape l.row.2) + 1

abbrev pub decreases-fields_fault : goal.decreases-fields_fault
decreases-fields_fault g l = 4 * fields_height (fields_from g.K.Name.name_of g.R.Table.record_shape l.fields.now) + 1

-- the rest decides
abbrev pub invariant-items_fault-loop-place : goal.invariant-items_fault-loop-place
invariant-items_fault-loop-place g l =
    items_fault (fault_of (shape_of g.R.Table.record_shape l.kind)) l.place (map view (drop l.place l.items)) ≡ items_fault (fault_of (shape_of g.R.Table.record_shape l.kind)) 0 (map view l.items)

abbrev pub invariant-members_fault-loop-name : goal.invariant-members_fault-loop-name
invariant-members_fault-loop-name g l =
    members_fault l.keys (fault_of (shape_of g.R.Table.record_shape l.kind)) (map (λ m. (string_bytes m.0, view m.1)) l.name-iterator)
    ≡ members_fault l.keys (fault_of (shape_of g.R.Table.record_shape l.kind)) (map (λ m. (string_bytes m.0, view m.1)) l.members.entries)

abbrev pub invariant-fields_fault-loop-place : goal.invariant-fields_fault-loop-place
invariant-fields_fault-loop-place g l = record {
  rest : fields_fault (fields_from g.K.Name.name_of g.R.Table.record_shape (drop l.place l.fields)) (view l.value) ≡ fields_fault (fields_from g.K.Name.name_of g.R.Table.record_shape l.fields) (view l.value);
  lower : fields_height (fields_from g.K.Name.name_of g.R.Table.record_shape (drop l.place l.fields)) ≤ fields_height (fields_from g.K.Name.name_of g.R.Table.record_shape l.fields);
}
