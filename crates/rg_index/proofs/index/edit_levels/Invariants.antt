use Rattle.std.proofs.Common.{◌≡◌, ◌+◌, take, map, length, option_map}
use Rattle.std.specs.List.{sum_by}
use Rattle.rg_index.specs.Filing.{EditsWithin}
use Rattle.rg_index.specs.Kept.{LevelPairs, edited, given_keys}
use Rattle.rg_index.proofs.index.edit_levels.Given as goal

abbrev pub invariant-loop-level : goal.invariant-loop-level
invariant-loop-level g l =
    let old = option_map (λ f. f.now) l.fn.old in
    let new = option_map (λ f. f.now) l.fn.new in
    record {
      so_far : l.list.items ≡ map (edited old new) (take l.level-index l.levels);
      counted : EditsWithin (sum_by (λ (t : LevelPairs). length (given_keys t.level old) + length (given_keys t.level new)) (take l.level-index l.levels)) l.fn.steps l.steps;
    }
