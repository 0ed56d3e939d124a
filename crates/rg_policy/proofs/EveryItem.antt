-- Tests of every item, from tests of the lists of items as code has them.
use Rattle.std.proofs.Common.{◌≡◌, Bool, List, map, ap, sym, ◌∙◌}
use Rattle.std.proofs.lemmas.List.Folds.{list_all-map}
use Rattle.std.specs.List.{list_all}
use Rattle.rg_policy.specs.declared.policy.Item.{Item}
use Rattle.rg_policy.specs.declared.policy.Policy.{Policy}
use Rattle.rg_policy.specs.Kinds.{every_item, item_lists}

-- `now` is what a list shows
pub every_listed : {X : Type 0} (now : X → List Item) (test : Item → Bool) (lists : List X) (p : Policy) → map now lists ≡ item_lists p
    → list_all (λ list. list_all test (now list)) lists ≡ every_item test p
every_listed now test lists p is = sym (list_all-map (list_all test) now lists) ∙ ap (list_all (list_all test)) is
