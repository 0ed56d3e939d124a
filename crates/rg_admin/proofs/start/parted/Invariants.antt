use Rattle.std.proofs.Common.{◌≡◌, not}
use Rattle.std.specs.List.{filter}
use Rattle.std.specs.Str.{bytes_eq}
use Rattle.rg_defs.specs.Rules.{tag_name}
use Rattle.rg_cmd.specs.declared.state.ServiceRow.{ServiceRow}
use Rattle.rg_admin.proofs.start.parted.Given as goal

abbrev pub invariant-loop-row : goal.invariant-loop-row
invariant-loop-row l = record {
  tags : l.tags.items ≡ filter (λ (row : ServiceRow). bytes_eq row.def tag_name) l.yielded;
  others : l.others.items ≡ filter (λ (row : ServiceRow). not (bytes_eq row.def tag_name)) l.yielded;
}
