use Rattle.std.proofs.Common.{◌≡◌, drop}
use Rattle.std.specs.List.{filter_map, join_with_byte}
use Rattle.rg_facts.specs.Texts.{value_of_place}
use Rattle.rg_facts.proofs.Values.{with_later}
use Rattle.rg_facts.proofs.paths.joined_on.Given as goal

-- the text with the values to come is the whole
abbrev pub invariant-loop-place : goal.invariant-loop-place
invariant-loop-place l = with_later l.text (filter_map (value_of_place l.levels l.elements) (drop l.place-index l.path))
    ≡ join_with_byte 47 (filter_map (value_of_place l.levels l.elements) l.path)
