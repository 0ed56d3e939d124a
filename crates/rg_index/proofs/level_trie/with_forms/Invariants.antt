use Rattle.std.proofs.Common.{◌≡◌, drop, take, length, true}
use Rattle.std.specs.Arc.{arc_value}
use Rattle.std.specs.List.{flat_map, list_all, sum_by}
use Rattle.rg_index.specs.declared.form.Form.{Form}
use Rattle.rg_index.specs.Filing.{EditsWithin}
use Rattle.rg_index.specs.Kept.{is_written, level_keys, level_pairs, with_all}
use Rattle.rg_index.proofs.level_trie.with_forms.Given as goal

abbrev pub invariant-loop-form : goal.invariant-loop-form
invariant-loop-form g l = record {
  so_far : arc_value l.trie ≡ with_all (arc_value l.fn.trie) (flat_map (level_pairs l.level) (take l.form-index l.forms));
  counted : EditsWithin (sum_by (λ (f : Form). length (level_keys l.level f)) (take l.form-index l.forms)) l.fn.steps l.steps;
  written : list_all is_written (drop l.form-index l.forms) ≡ true;
}
