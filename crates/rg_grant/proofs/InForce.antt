-- After an accepted grant the row's policy has the allow item of the grant.
use Rattle.std.proofs.Common.{◌≡◌, Contains, ◌&&◌, ◌||◌, ◌++◌, ℕ, ℤ, Bool, true, false, cond, List, [], ◌∷◌, Option, Some, None, refl, sym, ap, subst, ◌∙◌}
use Rattle.std.specs.List.{find, list_any}
use Rattle.std.specs.Ordering.{int_eq}
use Rattle.std.specs.Str.{bytes_eq}
use Rattle.std.proofs.lemmas.Bool.{and_from, and_parts, false≢true}
use Rattle.std.proofs.lemmas.Bool.Decides.{Decides-int_eq}
use Rattle.std.proofs.lemmas.List.Elements.{Contains-push}
use Rattle.std.proofs.lemmas.Option.{none-some, same_Some}
use Rattle.std.proofs.lemmas.Slice.Eq.{bytes_eq-Decides}
use Rattle.rg_base.proofs.Lists.{Contains-first, all_from, among_from, any_from, find_contained}
use Rattle.rg_base.specs.Texts.{is_among}
use Rattle.rg_policy.specs.Kinds.{access_policy, normal}
use Rattle.rg_policy.specs.Maps.{maps_of}
use Rattle.rg_policy.specs.declared.policy.Policy.{Policy}
use Rattle.rg_policy.specs.declared.policy.PolicyResource.{PolicyResource}
use Rattle.rg_policy.specs.declared.request.AccessRequest.{AccessRequest}
use Rattle.rg_evalr.specs.declared.frame.Side.TheVariants.{Resource}
use Rattle.rg_facts.specs.Candidates.{candidate, candidates, frame_of}
use Rattle.rg_facts.specs.declared.facts.Facts.{Facts}
use Rattle.rg_cmd.specs.Lists.{put, without}
use Rattle.rg_cmd.specs.Lookups.{has_id}
use Rattle.rg_cmd.specs.declared.ask.AdminCommand.{AdminCommand}
use Rattle.rg_cmd.specs.declared.ask.AdminReply.{AdminReply}
use Rattle.rg_cmd.specs.declared.ask.Ask.{Ask}
use Rattle.rg_cmd.specs.declared.rule.Rule.{Rule}
use Rattle.rg_cmd.specs.declared.state.State.{State}
use Rattle.rg_same_resources.specs.Twins.{each_among, each_resource_in, same_flag, same_levels, same_maps, same_resource, same_texts}
use Rattle.rg_admin_laws.specs.Changes.{created_form, updated_form}
use Rattle.rg_admin_laws.specs.Laws.{is_refused}
use Rattle.rg_admin_laws.specs.Logs.{Administration}
use Rattle.rg_admin_laws.specs.Steps.{fault, step_by}
use Rattle.rg_admin_laws.specs.Views.{view}
use Rattle.rg_admin_laws.proofs.Lists.{case, replaced}
use Rattle.rg_grant.specs.Allowing.{IsGranting}
use Rattle.rg_grant.specs.InForce.{IsInForce}
use Rattle.rg_grant.specs.Forms.{granted_form, granting_item, new_policy}
use Rattle.rg_grant.specs.Planning.{grant_of, is_for, is_of_kind, map_of, planned, policy_for}
use Rattle.rg_grant.specs.Steps.{granted}
use Rattle.rg_grant.specs.declared.ask.GrantAsk.TheVariants.{Grant}
use Rattle.rg_grant.specs.declared.row.GrantRow.{GrantRow}
use Rattle.rg_grant.proofs.Again.{IsSettled, gives_the_same}
use Rattle.rg_grant.proofs.Apart.{added_alone, put_alone}
use Rattle.rg_grant.proofs.Flowing.{is_allowed}
use Rattle.rg_grant.proofs.Seen.{asked_of}
use Rattle.rg_grant.proofs.Twice.{left_again}

-- ---- what is found

pub find_last : {X : Type 0} (p : X → Bool) (x : X) → p x ≡ true → (xs : List X) → find p xs ≡ None → find p (xs ++ x ∷ []) ≡ Some x
find_last p x its [] none = ap (λ b. cond b (Some x) None) its
find_last p x its (y ∷ xs) none =
    case (λ b. cond b (Some y) (find p xs) ≡ None → cond b (Some y) (find p (xs ++ x ∷ [])) ≡ Some x) (p y)
    (λ _ some. absurd (none-some y (sym some)))
    (λ _ later. find_last p x its xs later)
    none

module _ {X : Type 0} (p same : X → Bool) (x : X) (its : p x ≡ true) (old : X) (own : same old ≡ true) where
  found_replaced : (xs : List X) → find p xs ≡ Some old → find p (replaced same x xs) ≡ Some x
  found_replaced [] found = absurd (none-some old found)
  found_replaced (y ∷ xs) found =
      case (λ b. same y ≡ b → find p (cond b x y ∷ replaced same x xs) ≡ Some x) (same y)
      (λ _ _. ap (λ b. cond b (Some x) (find p (replaced same x xs))) its)
      (λ _ other. case (λ b. p y ≡ b → cond b (Some y) (find p xs) ≡ Some old → cond b (Some y) (find p (replaced same x xs)) ≡ Some x) (p y)
      (λ _ _ here. absurd (false≢true (sym other ∙ ap same (same_Some y old here) ∙ own)))
      (λ _ _ later. found_replaced xs later)
      refl found)
      refl

  -- the new one takes the place of the old one that was found
  pub find_put_own : (xs : List X) → find p xs ≡ Some old → find p (put same x xs) ≡ Some x
  find_put_own xs found =
      ap (λ b. find p (cond b (replaced same x xs) (xs ++ x ∷ []))) (any_from same xs old (find_contained p xs old found).0 own)
      ∙ found_replaced xs found

-- ---- a row is for the policy that it makes

same_self : (b : Bool) → same_flag b b ≡ true
same_self true = refl
same_self false = refl

text_self : (t : List ℕ) → bytes_eq t t ≡ true
text_self t = (bytes_eq-Decides t t).1 refl

pub id_self : (z : ℤ) → int_eq z z ≡ true
id_self z = (Decides-int_eq z z).1 refl

texts_self : (texts : List (List ℕ)) → same_texts texts texts ≡ true
texts_self texts =
    let each = all_from (λ t. is_among t texts) texts (λ t there. among_from t texts there) in
    and_from (each_among texts texts) (each_among texts texts) each each

resource_self : (r : PolicyResource) → same_resource r r ≡ true
resource_self r = λ i. text_self r.level i && (same_self r.excludes i && (same_self r.recursive i && texts_self r.values.items i))

levels_self : (rs : List PolicyResource) → same_levels rs rs ≡ true
levels_self rs =
    let each = all_from (λ r. list_any (same_resource r) rs) rs (λ r there. any_from (same_resource r) rs r there (resource_self r)) in
    and_from (each_resource_in rs rs) (each_resource_in rs rs) each each

map_self : (g : GrantRow) → same_maps (map_of g) (map_of g) ≡ true
map_self g = λ i. ((levels_self g.resources.items i || false) && true) && ((levels_self g.resources.items i || false) && true)

created_is_for : (s : State) (g : GrantRow) → is_for g (created_form s (new_policy s.next_id g)) ≡ true
unfolding new_policy
created_is_for s g = λ i. ((text_self g.service i && text_self g.zone i) && true) && map_self g i

updated_is_for : (s : State) (g : GrantRow) (p : Policy) → is_for g p ≡ true → is_for g (updated_form s (granted_form g p)) ≡ true
unfolding granted_form
updated_is_for s g p h = h

-- the type and the priority of a policy that a row is for
pub kind_is : (g : GrantRow) (p : Policy) → is_for g p ≡ true → (int_eq p.policy_type access_policy ≡ true) × (int_eq p.priority normal ≡ true)
kind_is g p h =
    let both = and_parts p.enabled (is_of_kind g p && same_maps (map_of g) (maps_of p)) h in
    let kind = and_parts (is_of_kind g p) (same_maps (map_of g) (maps_of p)) both.1 in
    let place = and_parts (bytes_eq p.service g.service && bytes_eq p.zone g.zone) _ kind.0 in
    let type_is = and_parts (int_eq p.policy_type access_policy) _ place.1 in
    (type_is.0, (and_parts (int_eq p.priority normal) _ type_is.1).0)

-- ---- the accepted step

-- the administration and the reply where no rule fails
abbrev pub done : Administration → List ℕ → AdminCommand → Administration × AdminReply
done a actor command = step_by None a (record { actor = actor; command = command })

created_grants : (s : State) (g : GrantRow) → IsGranting g (created_form s (new_policy s.next_id g))
unfolding new_policy
created_grants s g = record { has = Contains-first (granting_item g) []; gives_access = refl; is_normal = refl }

updated_grants : (s : State) (g : GrantRow) (p : Policy) → is_for g p ≡ true → IsGranting g (updated_form s (granted_form g p))
unfolding granted_form
updated_grants s g p h =
    let kind = kind_is g p h in
    record { has = Contains-push p.items.items (granting_item g); gives_access = kind.0; is_normal = kind.1 }

found_updated : (s : State) (g : GrantRow) (p : Policy) → policy_for s g ≡ Some p
    → find (is_for g) (put (has_id (granted_form g p).id.0) (updated_form s (granted_form g p)) s.policies.items) ≡ Some (updated_form s (granted_form g p))
unfolding granted_form
found_updated s g p found =
    find_put_own (is_for g) (has_id p.id.0) (updated_form s (granted_form g p)) (find_contained (is_for g) s.policies.items p found).1 p (id_self p.id.0) s.policies.items found

created_settled : (s : State) (g : GrantRow) → IsSettled g (created_form s (new_policy s.next_id g))
unfolding new_policy
created_settled s g = record { has = Contains-first (granting_item g) []; deny_items = refl; allow_exceptions = refl }

updated_settled : (s : State) (g : GrantRow) (p : Policy) → IsSettled g (updated_form s (granted_form g p))
unfolding granted_form
updated_settled s g p = record {
  has = Contains-push p.items.items (granting_item g);
  deny_items = left_again g p.deny_items.items;
  allow_exceptions = left_again g p.allow_exceptions.items;
}

created_alone : (s : State) (g : GrantRow) → let p = created_form s (new_policy s.next_id g) in
    without (has_id p.id.0) (s.policies.items ++ p ∷ []) ≡ without (has_id p.id.0) s.policies.items
created_alone s g = added_alone (has_id s.next_id) (created_form s (new_policy s.next_id g)) s.policies.items (id_self s.next_id)

updated_alone : (s : State) (g : GrantRow) (old : Policy) → let p = updated_form s (granted_form g old) in
    without (has_id p.id.0) (put (has_id (granted_form g old).id.0) p s.policies.items) ≡ without (has_id p.id.0) s.policies.items
unfolding granted_form
updated_alone s g old = put_alone (has_id old.id.0) (updated_form s (granted_form g old)) s.policies.items (id_self old.id.0)

-- a policy that is found for the row is one of the row's service
found_asked : (a : Administration) (g : GrantRow) (p : Policy) → policy_for a.state g ≡ Some p
    → (facts : Facts) (q : AccessRequest) → view a g.service ≡ Some facts → Contains (candidates facts q) (candidate (frame_of facts) Resource None p)
found_asked a g p found =
    let has = find_contained (is_for g) a.state.policies.items p found in
    let both = and_parts p.enabled (is_of_kind g p && same_maps (map_of g) (maps_of p)) has.1 in
    let kind = and_parts (is_of_kind g p) (same_maps (map_of g) (maps_of p)) both.1 in
    let place = and_parts (bytes_eq p.service g.service && bytes_eq p.zone g.zone) _ kind.0 in
    asked_of a g.service p has.0 (and_parts (bytes_eq p.service g.service) (bytes_eq p.zone g.zone) place.0).0

in_force_from : (a : Administration) (actor : List ℕ) (g : GrantRow) (o : Option Policy) → policy_for a.state g ≡ o
    → let d = done a actor (grant_of a.state g o) in IsInForce g a d.0 d.1
in_force_from a actor g None none =
    let p = created_form a.state (new_policy a.state.next_id g) in
    record {
      policy = p;
      found = find_last (is_for g) p (created_is_for a.state g) a.state.policies.items none;
      replied = refl;
      others = created_alone a.state g;
      asked = found_asked (done a actor (grant_of a.state g None)).0 g p (find_last (is_for g) p (created_is_for a.state g) a.state.policies.items none);
      allows = λ service facts q c _ is. is_allowed g facts q c (subst (IsGranting g) (sym is) (created_grants a.state g));
      again = gives_the_same g p (created_settled a.state g);
    }
in_force_from a actor g (Some old) found =
    let p = updated_form a.state (granted_form g old) in
    let its = (find_contained (is_for g) a.state.policies.items old found).1 in
    record {
      policy = p;
      found = found_updated a.state g old found;
      replied = refl;
      others = updated_alone a.state g old;
      asked = found_asked (done a actor (grant_of a.state g (Some old))).0 g p (found_updated a.state g old found);
      allows = λ service facts q c _ is. is_allowed g facts q c (subst (IsGranting g) (sym is) (updated_grants a.state g old its));
      again = gives_the_same g p (updated_settled a.state g old);
    }

-- what isn't refused breaks no rule
pub accepted_where : (a : Administration) (ask : Ask) (o : Option Rule) → is_refused (step_by o a ask).1 ≡ false → o ≡ None
accepted_where a ask None fine = refl
accepted_where a ask (Some rule) fine = absurd (false≢true (sym fine))

pub in_force : (a : Administration) (actor : List ℕ) (g : GrantRow) → is_refused (granted a (Grant actor g)).1 ≡ false
    → IsInForce g a (granted a (Grant actor g)).0 (granted a (Grant actor g)).1
unfolding granted planned
in_force a actor g fine =
    let ask : Ask = record { actor = actor; command = grant_of a.state g (policy_for a.state g) } in
    subst (λ (o : Option Rule). IsInForce g a (step_by o a ask).0 (step_by o a ask).1) (sym (accepted_where a ask (fault a.state ask) fine))
    (in_force_from a actor g (policy_for a.state g) refl)
