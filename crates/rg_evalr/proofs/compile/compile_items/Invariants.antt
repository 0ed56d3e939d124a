use Rattle.std.proofs.Common.{◌≡◌, true, take, drop}
use Rattle.std.specs.List.{list_all}
use Rattle.rg_policy.specs.declared.policy.Item.{Item}
use Rattle.rg_cond.specs.PolicyRules.{all_compile}
use Rattle.rg_evalr.specs.Compiled.{compiled_items}
use Rattle.rg_evalr.specs.Frames.{def_of}
use Rattle.rg_evalr.proofs.compile.compile_items.Given as goal

-- the items so far, and the conditions of those to come compile
abbrev pub invariant-loop-item : goal.invariant-loop-item
invariant-loop-item l = record {
  made : l.compiled ≡ compiled_items l.frame l.side (take l.item-index l.items);
  left : list_all (λ (i : Item). all_compile (def_of l.frame l.side) i.conditions.items) (drop l.item-index l.items) ≡ true;
}
