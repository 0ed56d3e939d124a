use Rattle.std.proofs.Common.{◌≡◌, Some, length}
use Rattle.std.specs.Prelude.{flat_map}
use Rattle.rg_facts.specs.Best.{after}
use Rattle.rg_facts.specs.Engines.{asked_for}
use Rattle.rg_facts.specs.declared.best.Pass.TheVariants.{All}
use Rattle.rg_plain_engine.proofs.plain.ask_tags.Given as goal

-- the rest, after what was found, gives what the whole does
abbrev pub invariant-tags : goal.invariant-tags
invariant-tags l = after All l.setting (flat_map (λ tag. asked_for (Some tag) l.evaluators) l.tags) l.best
    ≡ after All l.setting (flat_map (λ tag. asked_for (Some tag) l.evaluators) l.fn.tags) l.fn.best

abbrev pub decreases-tags : goal.decreases-tags
decreases-tags l = length l.tags
