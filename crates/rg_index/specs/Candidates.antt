-- Which forms are asked about a resource.
use Rattle.std.specs.Prelude.{ℕ, ℤ, min, nat_eq, List, [], ◌∷◌, fold, length, map, Option, Some, None, unwrap_or}
use Rattle.std.specs.List.{find}
use Rattle.rg_defs.specs.declared.service_def.ServiceDef.{ServiceDef}
use Rattle.rg_policy.specs.declared.request.Element.{Element}
use Rattle.rg_resmatch.specs.Tests.{value_at}
use Rattle.rg_trie.specs.declared.pair.Pair.{Pair}
use Rattle.rg_trie.specs.Edited.{with_pair}
use Rattle.rg_index.specs.declared.form.Form.{Form}
use Rattle.rg_index.specs.Filing.{filed}

-- what is filed for the value that the resource has at the element's level: of elements with one level the first counts
abbrev pub filed_for : ServiceDef → List Form → List Element → Element → List Pair
filed_for def forms elements e = filed def forms e.level (unwrap_or (value_at elements e.level) [])

abbrev pub filed_number : ServiceDef → List Form → List Element → Element → ℕ
filed_number def forms elements e = length (filed_for def forms elements e)

-- the least of the numbers, 0 where there is none
abbrev pub least : List ℕ → ℕ
least [] = 0
least (n ∷ ns) = fold min n ns

-- the least number of filed forms over the levels of the resource
abbrev pub bound : ServiceDef → List Form → List Element → ℕ
bound def forms elements = least (map (filed_number def forms elements) elements)

-- the first element at whose level so few are filed
abbrev pub fewest : ServiceDef → List Form → List Element → Option Element
fewest def forms elements = find (λ e. nat_eq (filed_number def forms elements e) (bound def forms elements)) elements

-- the pairs put in order one by one: by key, then by id and place
abbrev pub in_order : List Pair → List Pair
in_order all = fold (λ held p. with_pair p held) [] all

abbrev pub ids_of : List Pair → List ℤ
ids_of all = map (λ (p : Pair). p.entry.id) all

-- the ids of what is filed at the element's level, those with the shorter keys first, then by id and place
abbrev pub ids_for : ServiceDef → List Form → List Element → Option Element → List ℤ
ids_for def forms elements None = []
ids_for def forms elements (Some e) = ids_of (in_order (filed_for def forms elements e))

-- the ids of what is filed at the level that has fewest, the first of such
abbrev pub candidates : ServiceDef → List Form → List Element → List ℤ
candidates def forms elements = ids_for def forms elements (fewest def forms elements)
