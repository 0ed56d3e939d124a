-- To grant a row again changes nothing of what the policy gives.
use Rattle.std.proofs.Common.{◌≡◌, ◌&&◌, ◌||◌, ◌++◌, Bool, true, false, not, cond, List, [], ◌∷◌, Option, Some, None, Contains, refl, sym, ap, ◌∙◌}
use Rattle.std.specs.List.{list_any}
use Rattle.std.proofs.lemmas.List.Folds.{list_any-append}
use Rattle.rg_base.proofs.Lists.{any_from}
use Rattle.rg_policy.specs.Maps.{maps_of}
use Rattle.rg_policy.specs.declared.policy.Policy.{Policy}
use Rattle.rg_policy.specs.declared.tags.Tag.{Tag}
use Rattle.rg_evalr.specs.Effects.{access_of, effect_of, in_play, is_scheduled, is_valid, lies_on, lies_on_tag}
use Rattle.rg_evalr.specs.Frames.{def_of}
use Rattle.rg_evalr.specs.Items.{Context, all_hold, any_matches, item_matches}
use Rattle.rg_evalr.specs.declared.frame.Effect.TheVariants.{Nothing, Allow, Deny}
use Rattle.rg_evalr.specs.declared.frame.Frame.{Frame}
use Rattle.rg_evalr.specs.declared.frame.Side.{Side}
use Rattle.rg_evalr.specs.declared.frame.Side.TheVariants.{Resource, Tag as Tagged}
use Rattle.rg_resmatch.specs.Tests.{some_lies, tag_elements}
use Rattle.rg_resmatch.specs.declared.reach.Reach.TheVariants.{Exact}
use Rattle.rg_admin_laws.proofs.Lists.{case}
use Rattle.rg_grant.specs.Forms.{granted_form, granting_item}
use Rattle.rg_grant.specs.Taking.{items_left}
use Rattle.rg_grant.specs.declared.row.GrantRow.{GrantRow}

any_snoc : {X : Type 0} (p : X → Bool) (x : X) (xs : List X) → list_any p (xs ++ x ∷ []) ≡ (list_any p xs || p x)
any_snoc p x xs = list_any-append p xs (x ∷ []) ∙ ap (λ b. list_any p xs || b) (case (λ b. (b || false) ≡ b) (p x) (λ _. refl) (λ _. refl))

-- what is there already
any_same : {X : Type 0} (p : X → Bool) (x : X) (xs : List X) → Contains xs x → list_any p (xs ++ x ∷ []) ≡ list_any p xs
any_same p x xs there = any_snoc p x xs ∙
    case (λ b. p x ≡ b → (list_any p xs || b) ≡ list_any p xs) (p x)
    (λ _ its. ap (λ c. c || true) (any_from p xs x there its) ∙ sym (any_from p xs x there its))
    (λ _ _. case (λ c. (c || false) ≡ c) (list_any p xs) (λ _. refl) (λ _. refl))
    refl

-- the policy has the allow item, and nothing that the row would take from its deny items and allow exceptions
pub record IsSettled (g : GrantRow) (p : Policy) : Type 0 where
  pub has : Contains p.items.items (granting_item g)
  pub deny_items : items_left g p.deny_items.items ≡ p.deny_items.items
  pub allow_exceptions : items_left g p.allow_exceptions.items ≡ p.allow_exceptions.items

-- of a policy its maps alone decide what it lies on
pub lies_by_maps : (frame : Frame) (c : Context) (p q : Policy) → maps_of p ≡ maps_of q → (side : Side) → lies_on frame side c p ≡ lies_on frame side c q
lies_by_maps frame c p q e Resource = ap (λ ms. some_lies (def_of frame Resource) ms Exact c.request.resource.elements.items c.request.user) e
lies_by_maps frame c p q e Tagged = tagged c.tag where
  tagged : (tag : Option Tag) → lies_on_tag frame c p tag ≡ lies_on_tag frame c q tag
  tagged None = refl
  tagged (Some tag) = ap (λ ms. some_lies (def_of frame Tagged) ms Exact (tag_elements tag.kind) c.request.user) e

plays_the_same : (g : GrantRow) (p : Policy) (frame : Frame) (side : Side) (c : Context) → in_play frame side c (granted_form g p) ≡ in_play frame side c p
unfolding granted_form
plays_the_same g p frame side c = λ i.
    p.enabled && (is_scheduled (is_valid frame c) p.schedules.items && (lies_by_maps frame c (granted_form g p) p refl side i && all_hold frame side c p.conditions.items))

pub gives_the_same : (g : GrantRow) (p : Policy) → IsSettled g p → (frame : Frame) (side : Side) (c : Context) → access_of frame side c (granted_form g p) ≡ access_of frame side c p
unfolding granted_form access_of effect_of
gives_the_same g p settled frame side c = λ i.
    cond (plays_the_same g p frame side c i)
    (cond (any_matches frame side c (settled.deny_items i) && not (any_matches frame side c p.deny_exceptions.items)) Deny
    (cond (any_same (item_matches frame side c) (granting_item g) p.items.items settled.has i && not (any_matches frame side c (settled.allow_exceptions i))) Allow
    (cond p.deny_all_else Deny Nothing)))
    Nothing
