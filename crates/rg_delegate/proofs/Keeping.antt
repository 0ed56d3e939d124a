-- What administrators may do, and what one more item keeps.
use Rattle.std.proofs.Common.{◌≡◌, ◌&&◌, ◌||◌, not, ℕ, Bool, true, false, List, [], ◌∷◌, ◌++◌, Option, Some, None, option_map, if◌then◌else◌, Contains, refl, sym, ap, ◌∙◌, inl, inr}
use Rattle.std.proofs.lemmas.Bool.{and_parts, and_from, not_from_true, or_cases, or_left, or_right}
use Rattle.std.proofs.lemmas.List.Folds.{list_any-append}
use Rattle.std.specs.List.{find, list_all, list_any}
use Rattle.std.specs.Option.{option_map_or}
use Rattle.rg_base.proofs.Lists.{all_from, all_holds}
use Rattle.rg_base.specs.Listed.{listed}
use Rattle.rg_cmd.specs.declared.ask.AdminCommand.{AdminCommand}
use Rattle.rg_cmd.specs.declared.ask.AdminCommand.TheVariants.{CreatePolicy, UpdatePolicy, DeletePolicy, GetPolicy, ListPolicies, Download}
use Rattle.rg_cmd.specs.declared.ask.Ask.{Ask}
use Rattle.rg_cmd.specs.declared.state.State.{State}
use Rattle.rg_defs.specs.declared.service_def.ServiceDef.{ServiceDef}
use Rattle.rg_policy.specs.declared.policy.Item.{Item}
use Rattle.rg_policy.specs.declared.policy.Policy.{Policy}
use Rattle.rg_delegate.specs.Accesses.{accesses}
use Rattle.rg_delegate.specs.Authority.{Known, admins_of, delegates_to, is_admin, is_delegated, known, may, may_by_delegation, may_delegate, may_see, named_in_zone}
use Rattle.rg_delegate.specs.Covering.{policy_covers}
use Rattle.rg_delegate.specs.Laws.{with_item}
use Rattle.rg_cmd.specs.Lookups.{def_of, policy_at}
use Rattle.rg_delegate.specs.Rules.{Tested, authority_fault, authority_rules, first_failing}

-- ---- administrators

pub admin_may : (s : State) (actor : List ℕ) (p : Policy) → is_admin s actor ≡ true → may s actor p ≡ true
admin_may s actor p h = or_left (is_admin s actor) _ h

pub admin_sees : (s : State) (actor : List ℕ) (p : Policy) → is_admin s actor ≡ true → may_see s actor p ≡ true
admin_sees s actor p h = or_left (may s actor p) _ (admin_may s actor p h)

by_id_too : (test : Policy → Bool) (o : Option Policy) → ((p : Policy) → test p ≡ true) → option_map_or test o true ≡ true
by_id_too test None h = refl
by_id_too test (Some p) h = h p

abbrev AllHold : List Tested → Type 0
AllHold rules = list_all (λ (r : Tested). r.1) rules ≡ true

none_fails : (rules : List Tested) → AllHold rules → first_failing rules ≡ None
none_fails [] h = refl
none_fails (r ∷ rules) h =
    let parts = and_parts r.1 (list_all (λ (r : Tested). r.1) rules) h in
    ap (λ b. option_map (λ (r : Tested). r.0) (if b then Some r else find (λ (r : Tested). not r.1) rules)) (not_from_true r.1 parts.0) ∙ none_fails rules parts.1

admin_holds : (s : State) (actor : List ℕ) → is_admin s actor ≡ true → (command : AdminCommand) → AllHold (authority_rules s actor command)
admin_holds s actor h (CreatePolicy policy) = and_from _ _ (admin_may s actor policy h) refl
admin_holds s actor h (UpdatePolicy policy) = and_from _ _ (by_id_too (may s actor) (policy_at s policy.id.0) (λ p. admin_may s actor p h)) (and_from _ _ (admin_may s actor policy h) refl)
admin_holds s actor h (DeletePolicy id) = and_from _ _ (by_id_too (may s actor) (policy_at s id.0) (λ p. admin_may s actor p h)) refl
admin_holds s actor h (GetPolicy id) = and_from _ _ (by_id_too (may_see s actor) (policy_at s id.0) (λ p. admin_sees s actor p h)) refl
admin_holds s actor h (ListPolicies service) = refl
admin_holds s actor h (Download service policies tags roles) = refl
admin_holds s actor h _ = and_from _ _ h refl

pub admin_asks : (s : State) (ask : Ask) → is_admin s ask.actor ≡ true → authority_fault s ask ≡ None
admin_asks s ask h = none_fails (authority_rules s ask.actor ask.command) (admin_holds s ask.actor h ask.command)

-- ---- authority that reaches further

-- where every delegated access of p is one of another policy's in another state
pub delegation_reaches : (s later : State) (k : Known) (p other : Policy) (def : ServiceDef)
    → ((access : List ℕ) → Contains (accesses def other) access → Contains (accesses def p) access)
    → ((access : List ℕ) → is_delegated s def k p access ≡ true → is_delegated later def k other access ≡ true)
    → list_all (is_delegated s def k p) (accesses def p) ≡ true → list_all (is_delegated later def k other) (accesses def other) ≡ true
delegation_reaches s later k p other def fewer f h =
    all_from (is_delegated later def k other) (accesses def other) (λ access within. f access (all_holds (is_delegated s def k p) (accesses def p) h access (fewer access within)))

-- one of three, each of which reaches further
pub one_of_three : (a b c d e f : Bool) → (a ≡ true → d ≡ true) → (b ≡ true → e ≡ true) → (c ≡ true → f ≡ true) → (a || (b || c)) ≡ true → (d || (e || f)) ≡ true
one_of_three a b c d e f x y z h = elim (or_cases a (b || c) h) [
  | inl one ↦ or_left d _ (x one)
  | inr more ↦ elim (or_cases b c more) [
    | inl two ↦ or_right d _ (or_left e f (y two))
    | inr three ↦ or_right d _ (or_right e f (z three))
  ]
]

-- ---- one more item

swapped : {X : Type 0} (f : X → Bool) (before after : List X) (x y : X) → (f x ≡ true → f y ≡ true) → list_any f (before ++ x ∷ after) ≡ true → list_any f (before ++ y ∷ after) ≡ true
swapped f before after x y g h =
    list_any-append f before (y ∷ after)
    ∙ elim (or_cases (list_any f before) (f x || list_any f after) (sym (list_any-append f before (x ∷ after)) ∙ h)) [
      | inl first ↦ or_left (list_any f before) _ first
      | inr later ↦ or_right (list_any f before) _ (elim (or_cases (f x) (list_any f after) later) [
        | inl now ↦ or_left (f y) _ (g now)
        | inr last ↦ or_right (f y) _ last
      ])
    ]

module _ (def : ServiceDef) (k : Known) (p : Policy) (access : List ℕ) where
  abbrev Delegates : Policy → Bool
  Delegates q = may_delegate p q && (list_any (delegates_to def k access) q.items.items && policy_covers def q p)

  one_more : (q : Policy) (i : Item) → Delegates q ≡ true → Delegates (with_item q i) ≡ true
  one_more q i h =
      let one = and_parts (may_delegate p q) (list_any (delegates_to def k access) q.items.items && policy_covers def q p) h in
      let two = and_parts (list_any (delegates_to def k access) q.items.items) (policy_covers def q p) one.1 in
      and_from _ _ one.0 (and_from _ _ (list_any-append (delegates_to def k access) q.items.items (i ∷ []) ∙ or_left (list_any (delegates_to def k access) q.items.items) _ two.0) two.1)

under_def : (o : Option ServiceDef) (f g : ServiceDef → Bool) → ((def : ServiceDef) → f def ≡ true → g def ≡ true) → option_map_or f o false ≡ true → option_map_or g o false ≡ true
under_def None f g h e = e
under_def (Some def) f g h e = h def e

pub more_keeps : (s : State) (before after : List Policy) (q : Policy) (i : Item) (actor : List ℕ) (p : Policy) → s.policies.items ≡ before ++ q ∷ after
    → may s actor p ≡ true → may (record s { policies = listed (before ++ with_item q i ∷ after) }) actor p ≡ true
more_keeps s before after q i actor p e h =
    let later : State = record s { policies = listed (before ++ with_item q i ∷ after) } in
    let k = known s actor in
    one_of_three (is_admin s actor) (named_in_zone admins_of s actor p) (may_by_delegation s actor p) (is_admin later actor) (named_in_zone admins_of later actor p) (may_by_delegation later actor p)
    (λ x. x) (λ x. x)
    (under_def (def_of s p.service) (λ def. list_all (is_delegated s def k p) (accesses def p)) (λ def. list_all (is_delegated later def k p) (accesses def p))
    (λ def. delegation_reaches s later k p p def (λ access within. within)
    (λ access given. swapped (Delegates def k p access) before after q (with_item q i) (one_more def k p access q i) (ap (list_any (Delegates def k p access)) (sym e) ∙ given))))
    h
