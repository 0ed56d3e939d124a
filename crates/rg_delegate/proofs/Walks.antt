-- The accesses of a policy, gone over where they stand.
use Rattle.std.proofs.Common.{◌≡◌, ◌&&◌, ◌||◌, ℕ, Bool, List, [], ◌∷◌, ◌++◌, map, refl, sym, ap, ◌∙◌}
use Rattle.std.proofs.lemmas.List.Folds.{list_all-append, list_all-map, list_any-append}
use Rattle.std.specs.List.{flat_map, list_all, list_any}
use Rattle.rg_base.proofs.Lists.{list_all_agree, list_any_agree, list_any-map}
use Rattle.rg_policy.specs.declared.policy.AccessEntry.{AccessEntry}
use Rattle.rg_policy.specs.declared.policy.Item.{Item}
use Rattle.rg_delegate.specs.Accesses.{is_none_named, item_accesses}

-- ---- lists that were made of several

pub any_flat : {X Y : Type 0} (p : Y → Bool) (f : X → List Y) (xs : List X) → list_any p (flat_map f xs) ≡ list_any (λ x. list_any p (f x)) xs
any_flat p f [] = refl
any_flat p f (x ∷ xs) = list_any-append p (f x) (flat_map f xs) ∙ ap (λ b. list_any p (f x) || b) (any_flat p f xs)

all_flat : {X Y : Type 0} (p : Y → Bool) (f : X → List Y) (xs : List X) → list_all p (flat_map f xs) ≡ list_all (λ x. list_all p (f x)) xs
all_flat p f [] = refl
all_flat p f (x ∷ xs) = list_all-append p (f x) (flat_map f xs) ∙ ap (λ b. list_all p (f x) && b) (all_flat p f xs)

none_joined : (xs ys : List (List ℕ)) → is_none_named (xs ++ ys) ≡ (is_none_named xs && is_none_named ys)
none_joined [] ys = refl
none_joined (x ∷ xs) ys = refl

none_flat : {X : Type 0} (f : X → List (List ℕ)) (xs : List X) → is_none_named (flat_map f xs) ≡ list_all (λ x. is_none_named (f x)) xs
none_flat f [] = refl
none_flat f (x ∷ xs) = none_joined (f x) (flat_map f xs) ∙ ap (λ b. is_none_named (f x) && b) (none_flat f xs)

-- ---- lists of items

any_in_items : (p : List ℕ → Bool) (items : List Item) → list_any p (flat_map item_accesses items) ≡ list_any (λ (i : Item). list_any (λ (e : AccessEntry). p e.access) i.accesses.items) items
any_in_items p items = any_flat p item_accesses items
    ∙ list_any_agree (λ i. list_any p (item_accesses i)) (λ (i : Item). list_any (λ (e : AccessEntry). p e.access) i.accesses.items) (λ i. list_any-map p (λ (e : AccessEntry). e.access) i.accesses.items) items

all_in_items : (p : List ℕ → Bool) (items : List Item) → list_all p (flat_map item_accesses items) ≡ list_all (λ (i : Item). list_all (λ (e : AccessEntry). p e.access) i.accesses.items) items
all_in_items p items = all_flat p item_accesses items
    ∙ list_all_agree (λ i. list_all p (item_accesses i)) (λ (i : Item). list_all (λ (e : AccessEntry). p e.access) i.accesses.items) (λ i. list_all-map p (λ (e : AccessEntry). e.access) i.accesses.items) items

none_in_items : (items : List Item) → is_none_named (flat_map item_accesses items) ≡ list_all (λ (i : Item). is_none_named (item_accesses i)) items
none_in_items items = none_flat item_accesses items

-- ---- lists of these, which are read

pub any_walked : {R : Type 0} (read : R → List Item) (p : List ℕ → Bool) (lists : List R) (written : List (List Item)) → map read lists ≡ written
    → list_any (λ list. list_any (λ (i : Item). list_any (λ (e : AccessEntry). p e.access) i.accesses.items) (read list)) lists ≡ list_any p (flat_map (λ (items : List Item). flat_map item_accesses items) written)
any_walked read p lists written e =
    sym (any_flat p (λ (items : List Item). flat_map item_accesses items) written
    ∙ list_any_agree (λ items. list_any p (flat_map item_accesses items)) (λ items. list_any (λ (i : Item). list_any (λ (e : AccessEntry). p e.access) i.accesses.items) items) (any_in_items p) written
    ∙ ap (list_any (λ items. list_any (λ (i : Item). list_any (λ (e : AccessEntry). p e.access) i.accesses.items) items)) (sym e)
    ∙ list_any-map (λ items. list_any (λ (i : Item). list_any (λ (e : AccessEntry). p e.access) i.accesses.items) items) read lists)

pub all_walked : {R : Type 0} (read : R → List Item) (p : List ℕ → Bool) (lists : List R) (written : List (List Item)) → map read lists ≡ written
    → list_all (λ list. list_all (λ (i : Item). list_all (λ (e : AccessEntry). p e.access) i.accesses.items) (read list)) lists ≡ list_all p (flat_map (λ (items : List Item). flat_map item_accesses items) written)
all_walked read p lists written e =
    sym (all_flat p (λ (items : List Item). flat_map item_accesses items) written
    ∙ list_all_agree (λ items. list_all p (flat_map item_accesses items)) (λ items. list_all (λ (i : Item). list_all (λ (e : AccessEntry). p e.access) i.accesses.items) items) (all_in_items p) written
    ∙ ap (list_all (λ items. list_all (λ (i : Item). list_all (λ (e : AccessEntry). p e.access) i.accesses.items) items)) (sym e)
    ∙ list_all-map (λ items. list_all (λ (i : Item). list_all (λ (e : AccessEntry). p e.access) i.accesses.items) items) read lists)

pub none_walked : {R : Type 0} (read : R → List Item) (lists : List R) (written : List (List Item)) → map read lists ≡ written
    → list_all (λ list. list_all (λ (i : Item). is_none_named (item_accesses i)) (read list)) lists ≡ is_none_named (flat_map (λ (items : List Item). flat_map item_accesses items) written)
none_walked read lists written e =
    sym (none_flat (λ (items : List Item). flat_map item_accesses items) written
    ∙ list_all_agree (λ items. is_none_named (flat_map item_accesses items)) (λ items. list_all (λ (i : Item). is_none_named (item_accesses i)) items) none_in_items written
    ∙ ap (list_all (λ items. list_all (λ (i : Item). is_none_named (item_accesses i)) items)) (sym e)
    ∙ list_all-map (λ items. list_all (λ (i : Item). is_none_named (item_accesses i)) items) read lists)
