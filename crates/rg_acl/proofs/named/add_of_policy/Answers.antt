use Rattle.std.proofs.Common.{◌≡◌, ◌++◌, ◌∙◌, Bor, List, OnOk, ap, subst, ℕ}
use Rattle.std.specs.List.{flat_map}
use Rattle.rg_policy.specs.declared.policy.Item.{Item}
use Rattle.rg_acl.specs.Named.{named_by_items}
use Rattle.rg_acl.proofs.Agreeing.{flat_map_of}
use Rattle.rg_acl.proofs.named.add_of_policy.Goals as goal

pub returns : goal.returns
returns c =
    subst (λ (names : List (List ℕ)). OnOk c.add_of_lists.result (c.add_of_lists.new.found.items ≡ c.args.found.now.items ++ names))
    (flat_map_of (named_by_items c.args.listing) (λ (list : Bor (List Item)). list.now) c.item_lists-lists.result
    ∙ ap (flat_map (named_by_items c.args.listing)) c.item_lists-lists.ensures)
    c.add_of_lists.ensures
