use Rattle.std.proofs.Common.{◌≡◌, None, drop, option_map}
use Rattle.std.specs.List.{filter_map, last_or}
use Rattle.rg_facts.specs.Texts.{value_of_place}
use Rattle.rg_facts.proofs.paths.deepest_on.Given as goal

-- the last value so far, or a later one
abbrev pub invariant-loop-place : goal.invariant-loop-place
invariant-loop-place l = last_or (option_map (λ t. t.now) l.deepest) (filter_map (value_of_place l.levels l.elements) (drop l.place-index l.path))
    ≡ last_or None (filter_map (value_of_place l.levels l.elements) l.path)
