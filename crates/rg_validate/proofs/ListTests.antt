-- Tests of lists.
use Rattle.std.proofs.Common.{◌≡◌, ◌||◌, Bool, true, false, cond, List, [], ◌∷◌, map, Some, refl, sym, ap, ◌∙◌}
use Rattle.std.specs.List.{find, list_any}
use Rattle.std.specs.Option.{is_some}
use Rattle.rg_base.proofs.Lists.{list_any-map}
use Rattle.rg_policy.specs.declared.policy.Item.{Item}
use Rattle.rg_policy.specs.declared.policy.Policy.{Policy}
use Rattle.rg_policy.specs.Kinds.{item_lists}

-- a test of some item, from a test of the lists of items as code has them; `now` is what a list shows
pub some_listed : {X : Type 0} (now : X → List Item) (test : Item → Bool) (lists : List X) (p : Policy) → map now lists ≡ item_lists p
    → list_any (λ list. list_any test (now list)) lists ≡ list_any (list_any test) (item_lists p)
some_listed now test lists p is = sym (list_any-map (list_any test) now lists) ∙ ap (list_any (list_any test)) is

-- something is found where some element passes
pub found-some : {X : Type 0} (p : X → Bool) (xs : List X) → is_some (find p xs) ≡ list_any p xs
found-some p [] = refl
found-some p (x ∷ xs) = elim (p x) as (λ b. is_some (cond b (Some x) (find p xs)) ≡ (b || list_any p xs)) [ true ↦ refl | false ↦ found-some p xs ]
