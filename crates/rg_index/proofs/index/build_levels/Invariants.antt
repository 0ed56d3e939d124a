use Rattle.std.proofs.Common.{◌≡◌, take, map, length}
use Rattle.std.specs.List.{sum_by}
use Rattle.rg_defs.specs.declared.service_def.Level.{Level}
use Rattle.rg_index.specs.declared.form.Form.{Form}
use Rattle.rg_index.specs.Filing.{EditsWithin}
use Rattle.rg_index.specs.Kept.{built, level_keys}
use Rattle.rg_index.proofs.index.build_levels.Given as goal

abbrev pub invariant-loop-level : goal.invariant-loop-level
invariant-loop-level g l = record {
  so_far : l.list.items ≡ map (built l.forms) (take l.level-index l.levels);
  counted : EditsWithin (sum_by (λ (v : Level). sum_by (λ (f : Form). length (level_keys v f)) l.forms) (take l.level-index l.levels)) l.fn.steps l.steps;
}
