use Rattle.std.proofs.Common.{ap, ◌∙◌}
use Rattle.std.specs.List.{list_any}
use Rattle.rg_base.specs.Listed.{Listed}
use Rattle.rg_evalr.proofs.ItemsCompiled.{some_match}
use Rattle.rg_evalr.specs.Compiled.{compiled_matches}
use Rattle.rg_evalr.specs.declared.item.CompiledItem.{CompiledItem}
use Rattle.rg_evalr.proofs.evaluator.any_matches.Goals as goal

pub returns : goal.returns
returns c = λ frame side written is.
    c.any_compiled.ensures
    ∙ ap (list_any (compiled_matches c.args.context.now)) c.as_slice.ensures
    ∙ ap (λ (l : Listed CompiledItem). list_any (compiled_matches c.args.context.now) l.items) is
    ∙ some_match frame side c.args.context.now written
