-- Users whom nothing names get the same verdicts.
use Rattle.std.proofs.Common.{◌≡◌, ◌&&◌, ◌||◌, ℕ, true, not, cond, List, [], ◌∷◌, Option, Some, None, Contains, option_map, refl, sym, subst, ap, ◌∙◌, inl, inr, false, arith}
use Rattle.std.specs.List.{flat_map}
use Rattle.std.specs.Ordering.{int_eq}
use Rattle.std.proofs.lemmas.List.Elements.{Contains-append_cases, Contains-append_left, Contains-append_right}
use Rattle.rg_base.specs.Texts.{is_among}
use Rattle.rg_base.proofs.Lists.{Contains-first, Contains-flat_mapped, Contains-later, Contains-mapped, all_holds, list_all_agree, list_any_agree}
use Rattle.rg_policy.specs.Kinds.{access_policy, filter_policy, item_lists, mask_policy}
use Rattle.rg_policy.specs.declared.policy.Item.{Item}
use Rattle.rg_policy.specs.declared.policy.Policy.{Policy}
use Rattle.rg_policy.specs.declared.policy.PolicyCondition.{PolicyCondition}
use Rattle.rg_policy.specs.declared.request.AccessRequest.{AccessRequest}
use Rattle.rg_policy.specs.declared.tags.Tag.{Tag}
use Rattle.rg_cond.specs.Conditions.{condition_holds, rule_holds}
use Rattle.rg_cond.specs.Kinds.{rule_of}
use Rattle.rg_cond.specs.declared.rules.Rule.{Rule}
use Rattle.rg_cond.specs.declared.rules.Rule.TheVariants as rule
use Rattle.rg_resmatch.specs.Tests.{tag_elements}
use Rattle.rg_resmatch.specs.declared.reach.Reach.TheVariants.{Exact}
use Rattle.rg_roles.specs.Holding.{holds}
use Rattle.rg_items.specs.Accesses.{any_grants}
use Rattle.rg_items.specs.Subjects.{names_asker, names_group, owner_word, user_word}
use Rattle.rg_evalr.specs.Effects.{access_of, effect_of, in_play, is_scheduled, is_valid, item_of, lies_on}
use Rattle.rg_evalr.specs.Frames.{def_of, requested_access}
use Rattle.rg_evalr.specs.Items.{Context, all_hold, any_matches, first_item, item_matches}
use Rattle.rg_evalr.specs.declared.frame.Effect.TheVariants.{Nothing, Allow, Deny}
use Rattle.rg_evalr.specs.declared.frame.Frame.{Frame}
use Rattle.rg_evalr.specs.declared.frame.Side.{Side}
use Rattle.rg_evalr.specs.declared.frame.Side.TheVariants.{Resource, Tag as Tagged}
use Rattle.rg_facts.specs.Best.{Best, after, asked, better_of, none_yet, outcome_by, ranked, ranks_before}
use Rattle.rg_facts.specs.Candidates.{Candidate, Setting, candidate, candidates, frame_of, is_chosen, resource_candidates, setting_of, tag_candidates, tags_of}
use Rattle.rg_facts.specs.Choices.{Choice, goes_before, offered}
use Rattle.rg_facts.specs.Flow.{cell_of, eval, given, outcome, verdict_of}
use Rattle.rg_facts.specs.Sound.{all_policies}
use Rattle.rg_facts.specs.declared.best.Pass.TheVariants.{All}
use Rattle.rg_facts.specs.declared.facts.Facts.{Facts}
use Rattle.rg_facts.proofs.Idle.{by_asking}
use Rattle.rg_acl.specs.Laws.{is_unnamed, policy_is_plain, values_are_plain}
use Rattle.rg_acl.proofs.Agreeing.{any_agree, position_agree}
use Rattle.rg_acl.proofs.Plainly.{some_lies_alike}
use Rattle.rg_acl.proofs.Unnamed.{IsUnnamed, holds_alike, is_not_named}

-- a rule looks at the moment, the address and the context alone
rule_alike : (r : Rule) (q : AccessRequest) (user other : List ℕ) (tag : Option Tag) → rule_holds r (record q { user = user }) tag ≡ rule_holds r (record q { user = other }) tag
unfolding rule_holds
rule_alike (rule.Expired wanted) q user other tag = refl
rule_alike (rule.Address values) q user other tag = refl
rule_alike (rule.Context key values wanted) q user other tag = refl

module _ (facts : Facts) (q : AccessRequest) (user other : List ℕ) (u : IsUnnamed facts q.resource.owner user) (w : IsUnnamed facts q.resource.owner other) where
  abbrev by : List ℕ → AccessRequest
  by who = record q { user = who }

  abbrev asked_for : Option Tag → List ℕ → Context
  asked_for tag who = record { request = by who; roles = facts.roles.items; tag = tag }

  -- ---- one item

  roles_alike : (role : List ℕ) → holds facts.roles.items role user q.groups.items ≡ holds facts.roles.items role other q.groups.items
  roles_alike role = holds_alike facts.roles.items user other q.groups.items (λ row there. u.no_row row there ∙ sym (w.no_row row there)) role

  named_alike : (i : Item) → is_among user i.users.items ≡ false → is_among other i.users.items ≡ false
      → names_asker facts.roles.items (by user) i ≡ names_asker facts.roles.items (by other) i
  named_alike i no_user no_other =
      let owning = u.no_owner ∙ sym w.no_owner in
      let listed = no_user ∙ sym no_other in
      let holding = list_any_agree (λ role. holds facts.roles.items role user q.groups.items) (λ role. holds facts.roles.items role other q.groups.items) roles_alike i.roles.items in
      λ k. is_among user_word i.users.items || ((is_among owner_word i.users.items && owning k) || (listed k || (names_group q.groups.items i.groups.items || holding k)))

  module _ (frame : Frame) (side : Side) (tag : Option Tag) (p : Policy) (within : Contains (all_policies facts) p) (plain : policy_is_plain p ≡ true) where
    conditions_alike : (conditions : List PolicyCondition) → all_hold frame side (asked_for tag user) conditions ≡ all_hold frame side (asked_for tag other) conditions
    conditions_alike conditions =
        list_all_agree (λ (c : PolicyCondition). condition_holds (def_of frame side) c (by user) tag) (λ (c : PolicyCondition). condition_holds (def_of frame side) c (by other) tag)
        (λ c. rule_alike (rule_of (def_of frame side) c) q user other tag) conditions

    matches_alike : (items : List Item) → Contains (item_lists p) items → (i : Item) → Contains items i → item_matches frame side (asked_for tag user) i ≡ item_matches frame side (asked_for tag other) i
    matches_alike items list i there =
        let subjects = named_alike i (u.no_item p items i within list there) (w.no_item p items i within list there) in
        let conditions = conditions_alike i.conditions.items in
        λ k. any_grants (def_of frame side) (requested_access frame side q.access) i.accesses.items && (subjects k && conditions k)

    some_match_alike : (items : List Item) → Contains (item_lists p) items → any_matches frame side (asked_for tag user) items ≡ any_matches frame side (asked_for tag other) items
    some_match_alike items list = any_agree (item_matches frame side (asked_for tag user)) (item_matches frame side (asked_for tag other)) items (matches_alike items list)

    first_alike : (items : List Item) → Contains (item_lists p) items → first_item frame side (asked_for tag user) items ≡ first_item frame side (asked_for tag other) items
    first_alike items list = position_agree (item_matches frame side (asked_for tag user)) (item_matches frame side (asked_for tag other)) items (matches_alike items list)

    -- ---- one policy

    lies_alike : lies_on frame side (asked_for tag user) p ≡ lies_on frame side (asked_for tag other) p
    lies_alike = at side tag where
      on_tag : (t : Option Tag) → lies_on frame Tagged (asked_for t user) p ≡ lies_on frame Tagged (asked_for t other) p
      on_tag None = refl
      on_tag (Some t) = some_lies_alike user other (def_of frame Tagged) p plain Exact (tag_elements t.kind)

      at : (s : Side) (t : Option Tag) → lies_on frame s (asked_for t user) p ≡ lies_on frame s (asked_for t other) p
      at Resource t = some_lies_alike user other (def_of frame Resource) p plain Exact q.resource.elements.items
      at Tagged t = on_tag t

    plays_alike : in_play frame side (asked_for tag user) p ≡ in_play frame side (asked_for tag other) p
    plays_alike =
        let conditions = conditions_alike p.conditions.items in
        λ k. p.enabled && (is_scheduled (is_valid frame (asked_for tag user)) p.schedules.items && (lies_alike k && conditions k))

    allow_there : Contains (item_lists p) p.items.items
    allow_there = (0, omega arith, refl)

    deny_there : Contains (item_lists p) p.deny_items.items
    deny_there = (1, omega arith, refl)

    allow_exceptions_there : Contains (item_lists p) p.allow_exceptions.items
    allow_exceptions_there = (2, omega arith, refl)

    deny_exceptions_there : Contains (item_lists p) p.deny_exceptions.items
    deny_exceptions_there = (3, omega arith, refl)

    masks_there : Contains (item_lists p) p.mask_items.items
    masks_there = (4, omega arith, refl)

    filters_there : Contains (item_lists p) p.filter_items.items
    filters_there = (5, omega arith, refl)

    effect_alike : effect_of frame side (asked_for tag user) p ≡ effect_of frame side (asked_for tag other) p
    unfolding effect_of
    effect_alike =
        let denied = some_match_alike p.deny_items.items deny_there in
        let denied_not = some_match_alike p.deny_exceptions.items deny_exceptions_there in
        let allowed = some_match_alike p.items.items allow_there in
        let allowed_not = some_match_alike p.allow_exceptions.items allow_exceptions_there in
        λ k. cond (denied k && not (denied_not k)) Deny (cond (allowed k && not (allowed_not k)) Allow (cond p.deny_all_else Deny Nothing))

    access_alike : access_of frame side (asked_for tag user) p ≡ access_of frame side (asked_for tag other) p
    unfolding access_of
    access_alike = λ k. cond (plays_alike k) (effect_alike k) Nothing

    item_alike : (items : List Item) → Contains (item_lists p) items → item_of frame side (asked_for tag user) p items ≡ item_of frame side (asked_for tag other) p items
    unfolding item_of
    item_alike items list = let first = first_alike items list in λ k. cond (plays_alike k) (first k) None

    pub mask_alike : item_of frame side (asked_for tag user) p p.mask_items.items ≡ item_of frame side (asked_for tag other) p p.mask_items.items
    mask_alike = item_alike p.mask_items.items masks_there

    pub filter_alike : item_of frame side (asked_for tag user) p p.filter_items.items ≡ item_of frame side (asked_for tag other) p p.filter_items.items
    filter_alike = item_alike p.filter_items.items filters_there

  -- ---- one candidate

  abbrev setting : List ℕ → Setting
  setting who = setting_of facts (by who)

  module _ (plain : values_are_plain facts ≡ true) where
    given_alike : (c : Candidate) → Contains (all_policies facts) c.source.policy → given (setting user) c ≡ given (setting other) c
    unfolding given
    given_alike c within =
        let p = c.source.policy in
        let access = access_alike c.source.frame c.source.side c.tag p within (all_holds policy_is_plain (all_policies facts) plain p within) in
        λ k. cond (int_eq p.policy_type access_policy && is_chosen (setting user) c) (access k) Nothing

    ranked_alike : (c : Candidate) → Contains (all_policies facts) c.source.policy → ranked (setting user) c ≡ ranked (setting other) c
    unfolding ranked
    ranked_alike c within = let same = given_alike c within in λ k. option_map (λ n. (n, c.source.policy)) (cell_of c.source.policy.priority c.source.side (same k))

    asked_alike : (c : Candidate) → Contains (all_policies facts) c.source.policy → (b : Best) → asked All (setting user) b c ≡ asked All (setting other) b c
    unfolding offered
    asked_alike c within b =
        let p = c.source.policy in
        let plainly = all_holds policy_is_plain (all_policies facts) plain p within in
        let ranks = ranked_alike c within in
        let filters = filter_alike c.source.frame c.source.side c.tag p within plainly in
        let masks = mask_alike c.source.frame c.source.side c.tag p within plainly in
        let choice = λ (place : ℕ). (let made : Choice = record { policy = p; side = c.source.side; place = place } in made) in
        λ k. record {
          decider = better_of ranks_before b.decider (ranks k);
          filter = better_of goes_before b.filter (cond (int_eq p.policy_type filter_policy && is_chosen (setting user) c) (option_map choice (filters k)) None);
          mask = better_of goes_before b.mask (cond (int_eq p.policy_type mask_policy && is_chosen (setting user) c) (option_map choice (masks k)) None);
        }

    -- ---- all candidates

    among_policies : (c : Candidate) → Contains (candidates facts q) c → Contains (all_policies facts) c.source.policy
    among_policies c there = elim (Contains-append_cases (flat_map (tag_candidates facts) (tags_of facts q)) (resource_candidates facts) c there) [
      | inl tagged ↦
          let t = Contains-flat_mapped (tag_candidates facts) (tags_of facts q) c tagged in
          let p = Contains-mapped (candidate (frame_of facts) Tagged (Some t.0)) facts.tag_policies.items c t.2 in
          subst (λ (d : Candidate). Contains (all_policies facts) d.source.policy) p.2 (Contains-append_right facts.policies.items facts.tag_policies.items p.0 p.1)
      | inr own ↦
          let p = Contains-mapped (candidate (frame_of facts) Resource None) facts.policies.items c own in
          subst (λ (d : Candidate). Contains (all_policies facts) d.source.policy) p.2 (Contains-append_left facts.policies.items facts.tag_policies.items p.0 p.1)
    ]

    after_alike : (cs : List Candidate) → ((c : Candidate) → Contains cs c → Contains (all_policies facts) c.source.policy) → (b : Best)
        → after All (setting user) cs b ≡ after All (setting other) cs b
    after_alike [] within b = refl
    after_alike (c ∷ cs) within b =
        ap (after All (setting user) cs) (asked_alike c (within c (Contains-first c cs)) b)
        ∙ after_alike cs (λ d there. within d (Contains-later c cs d there)) (asked All (setting other) b c)

    outcome_alike : outcome facts (by user) ≡ outcome facts (by other)
    outcome_alike =
        let cs = candidates facts q in
        sym (by_asking facts.fallback (setting user) cs) ∙ ap (outcome_by facts.fallback) (after_alike cs among_policies none_yet) ∙ by_asking facts.fallback (setting other) cs

    eval_alike : eval facts (by user) ≡ eval facts (by other)
    eval_alike = ap verdict_of outcome_alike

-- users whom nothing names are decided alike
pub decided_alike : (facts : Facts) (q : AccessRequest) (user other : List ℕ) → values_are_plain facts ≡ true → is_unnamed facts q.resource.owner user ≡ true
    → is_unnamed facts q.resource.owner other ≡ true → eval facts (record q { user = user }) ≡ eval facts (record q { user = other })
decided_alike facts q user other plain u w = eval_alike facts q user other (is_not_named facts q.resource.owner user u) (is_not_named facts q.resource.owner other w) plain
