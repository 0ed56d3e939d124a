use Rattle.std.proofs.Common.{ap, ◌∙◌}
use Rattle.std.specs.List.{position}
use Rattle.rg_base.specs.Listed.{Listed}
use Rattle.rg_evalr.proofs.ItemsCompiled.{first_matches}
use Rattle.rg_evalr.specs.Compiled.{compiled_matches}
use Rattle.rg_evalr.specs.declared.item.CompiledItem.{CompiledItem}
use Rattle.rg_evalr.proofs.evaluator.first_item.Goals as goal

pub returns : goal.returns
returns c = λ frame side written is.
    c.first_compiled.ensures
    ∙ ap (position (compiled_matches c.args.context.now)) c.as_slice.ensures
    ∙ ap (λ (l : Listed CompiledItem). position (compiled_matches c.args.context.now) l.items) is
    ∙ first_matches frame side c.args.context.now written
