use Rattle.std.proofs.Common.{◌≡◌, take}
use Rattle.std.specs.Arc.{arc_value}
use Rattle.rg_index.specs.Filing.{EditsWithin, numbered}
use Rattle.rg_index.specs.Kept.{without_all}
use Rattle.rg_index.proofs.level_trie.without_keys.Given as goal

abbrev pub invariant-loop-place : goal.invariant-loop-place
invariant-loop-place g l = record {
  so_far : arc_value l.trie ≡ without_all (arc_value l.fn.trie) (numbered l.id 0 (take l.place l.keys));
  counted : EditsWithin l.place l.fn.steps l.steps;
}
