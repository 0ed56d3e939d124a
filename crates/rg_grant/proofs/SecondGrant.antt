-- A second grant of a row changes no verdict.
use Rattle.std.proofs.Common.{◌≡◌, ◌++◌, ℕ, Bool, true, cond, List, [], ◌∷◌, map, Option, Some, None, Contains, refl, sym, ap, subst, ◌∙◌}
use Rattle.std.specs.List.{filter}
use Rattle.std.specs.Ordering.{int_eq}
use Rattle.std.specs.Prelude.{option_map}
use Rattle.std.proofs.lemmas.Bool.Decides.{Decides-int_eq}
use Rattle.rg_base.specs.Listed.{listed}
use Rattle.rg_base.specs.declared.numbers.Version.{Version}
use Rattle.rg_base.proofs.Lists.{Contains-filtered, Contains-first, Contains-later, any_from, find_contained}
use Rattle.rg_policy.specs.Kinds.{access_policy}
use Rattle.rg_policy.specs.declared.policy.Policy.{Policy}
use Rattle.rg_policy.specs.declared.request.AccessRequest.{AccessRequest}
use Rattle.rg_defs.specs.declared.service_def.ServiceDef.{ServiceDef}
use Rattle.rg_cmd.specs.Lists.{put}
use Rattle.rg_cmd.specs.Lookups.{def_of, has_id, is_of, is_of_tag, service_at, tag_service_of}
use Rattle.rg_cmd.specs.declared.ask.AdminCommand.TheVariants.{UpdatePolicy}
use Rattle.rg_cmd.specs.declared.ask.Ask.{Ask}
use Rattle.rg_cmd.specs.declared.changes.Log.{Log}
use Rattle.rg_cmd.specs.declared.rule.Rule.{Rule}
use Rattle.rg_cmd.specs.declared.state.ServiceRow.{ServiceRow}
use Rattle.rg_cmd.specs.declared.state.State.{State}
use Rattle.rg_evalr.specs.Effects.{access_of}
use Rattle.rg_evalr.specs.Items.{Context}
use Rattle.rg_evalr.specs.declared.frame.Frame.{Frame}
use Rattle.rg_evalr.specs.declared.frame.Side.{Side}
use Rattle.rg_facts.specs.Candidates.{Setting, candidate, frame_of, setting_of, tags_of}
use Rattle.rg_facts.specs.Best.{asked}
use Rattle.rg_facts.specs.Flow.{eval}
use Rattle.rg_facts.specs.declared.best.Pass.TheVariants.{All}
use Rattle.rg_facts.specs.declared.decision.Verdict.{Verdict}
use Rattle.rg_facts.specs.declared.facts.Facts.{Facts}
use Rattle.rg_admin_laws.specs.Changes.{after_command, version_after}
use Rattle.rg_admin_laws.specs.Logs.{Administration, is_log_of, log_at, touched_log}
use Rattle.rg_admin_laws.specs.Steps.{counted, fault, step_by}
use Rattle.rg_admin_laws.specs.Views.{facts_of, facts_with, view}
use Rattle.rg_admin_laws.proofs.Lists.{case, find_mapped, find_some, one_of_id}
use Rattle.rg_validate.specs.Valid.{IsKept}
use Rattle.rg_cmd.specs.Lookups.{policy_at}
use Rattle.rg_grant.specs.Forms.{granted_form}
use Rattle.rg_grant.specs.Planning.{grant_of, is_for, planned, policy_for}
use Rattle.rg_grant.specs.Steps.{granted}
use Rattle.rg_grant.specs.declared.ask.GrantAsk.TheVariants.{Grant}
use Rattle.rg_grant.specs.declared.row.GrantRow.{GrantRow}
use Rattle.rg_grant.proofs.InForce.{id_self, kind_is}
use Rattle.rg_grant.proofs.Verdicts.{Agrees, Alike, asked_all, later, later_type, other_asked, ranked_alike, same_asked, same_verdict}

-- the new one in the place of those that are the same
abbrev instead : {X : Type 0} → (X → Bool) → X → X → X
instead same x y = cond (same y) x y

filter_instead : {X : Type 0} (f same : X → Bool) (x : X) (xs : List X) → ((y : X) → Contains xs y → f (instead same x y) ≡ f y)
    → filter f (map (instead same x) xs) ≡ map (instead same x) (filter f xs)
filter_instead f same x [] keeps = refl
filter_instead f same x (y ∷ ys) keeps =
    let rest = filter_instead f same x ys (λ z there. keeps z (Contains-later y ys z there)) in
    ap (λ b. cond b (instead same x y ∷ filter f (map (instead same x) ys)) (filter f (map (instead same x) ys))) (keeps y (Contains-first y ys))
    ∙ case (λ b. cond b (instead same x y ∷ filter f (map (instead same x) ys)) (filter f (map (instead same x) ys)) ≡ map (instead same x) (cond b (y ∷ filter f ys) (filter f ys))) (f y)
    (λ _. ap (λ zs. instead same x y ∷ zs) rest) (λ _. rest)

module _ (s : State) (g : GrantRow) (p : Policy) (kept : IsKept s) (there : Contains s.policies.items p) (type_is : int_eq p.policy_type access_policy ≡ true)
    (again : (frame : Frame) (side : Side) (c : Context) → access_of frame side c (granted_form g p) ≡ access_of frame side c p) where
  abbrev xs : List Policy
  xs = s.policies.items

  abbrev same : Policy → Bool
  same = has_id p.id.0

  abbrev version : Version
  version = version_after (policy_at s p.id.0)

  -- the policy after the second grant
  abbrev x : Policy
  x = later g p version

  shared : (a b : Policy) → same a ≡ true → same b ≡ true → int_eq a.id.0 b.id.0 ≡ true
  shared a b its other = (Decides-int_eq a.id.0 b.id.0).1 ((Decides-int_eq a.id.0 p.id.0).0 its ∙ sym ((Decides-int_eq b.id.0 p.id.0).0 other))

  -- only the policy itself has its id
  alone : (y : Policy) → Contains xs y → same y ≡ true → y ≡ p
  alone y here its =
      let first = find_some same xs (any_from same xs p there (id_self p.id.0)) in
      let one = one_of_id (λ a b. int_eq a.id.0 b.id.0) same shared xs kept.valid.policy_ids first.0 in
      one y first.1 here its ∙ sym (one p first.1 there (id_self p.id.0))

  keeps : {Y : Type 0} (f : Policy → Y) → f x ≡ f p → (y : Policy) → Contains xs y → f (instead same x y) ≡ f y
  keeps f e y here = case (λ b. same y ≡ b → f (cond b x y) ≡ f y) (same y) (λ _ its. e ∙ ap f (sym (alone y here its))) (λ _ _. refl) refl

  put_is : put same x xs ≡ map (instead same x) xs
  put_is = ap (λ b. cond b (map (instead same x) xs) (xs ++ x ∷ [])) (any_from same xs p there (id_self p.id.0))

  own_are : (service : List ℕ) → filter (is_of service) (put same x xs) ≡ map (instead same x) (filter (is_of service) xs)
  unfolding granted_form
  own_are service = ap (filter (is_of service)) put_is ∙ filter_instead (is_of service) same x xs (keeps (is_of service) refl)

  tagged_are : (o : Option (List ℕ)) → filter (is_of_tag o) (put same x xs) ≡ map (instead same x) (filter (is_of_tag o) xs)
  unfolding granted_form
  tagged_are None = ap (filter (is_of_tag None)) put_is ∙ filter_instead (is_of_tag None) same x xs (λ y here. refl)
  tagged_are (Some t) = ap (filter (is_of_tag (Some t))) put_is ∙ filter_instead (is_of_tag (Some t)) same x xs (keeps (is_of t) refl)

  agrees : (f : Policy → Bool) (setting : Setting) (frame : Frame) → Agrees setting frame (instead same x) (filter f xs)
  agrees f setting frame side tag y here b d al =
      case (λ v. same y ≡ v → Alike (asked All setting b (candidate frame side tag (cond v x y))) (asked All setting d (candidate frame side tag y))) (same y)
      (λ _ its. subst (λ (z : Policy). Alike (asked All setting b (candidate frame side tag x)) (asked All setting d (candidate frame side tag z))) (sym (alone y (Contains-filtered f xs y here).0 its))
      (other_asked setting (candidate frame side tag x) (candidate frame side tag p) (ranked_alike g p version again setting frame side tag) (later_type g p version type_is) type_is b d al))
      (λ _ _. same_asked setting (candidate frame side tag y) b d al)
      refl

  -- the facts with the new policy give the same verdict
  verdict_of_facts : (service : List ℕ) (facts : Facts) (q : AccessRequest)
      → eval (record facts { policies = listed (filter (is_of service) (put same x xs)); tag_policies = listed (filter (is_of_tag (tag_service_of s service)) (put same x xs)) }) q
      ≡ eval (record facts { policies = listed (filter (is_of service) xs); tag_policies = listed (filter (is_of_tag (tag_service_of s service)) xs) }) q
  verdict_of_facts service facts q =
      let o = tag_service_of s service in
      let setting = setting_of facts q in
      (λ i. eval (record facts { policies = listed (own_are service i); tag_policies = listed (tagged_are o i) }) q)
      ∙ same_verdict facts.fallback setting _ _
      (asked_all setting (frame_of facts) (instead same x) (tags_of facts q) (filter (is_of_tag o) xs) (filter (is_of service) xs)
      (agrees (is_of_tag o) setting (frame_of facts)) (agrees (is_of service) setting (frame_of facts)))

  abbrev verdict : AccessRequest → Option Facts → Option Verdict
  verdict q o = option_map (λ (f : Facts). eval f q) o

  viewed_after : (service : List ℕ) (q : AccessRequest) (f : Log → Log) (o : Option Log) (r : Option ServiceRow) (d : Option ServiceDef)
      → verdict q (facts_with service (counted (record s { policies = listed (put same x xs) })) (option_map f o) r d) ≡ verdict q (facts_with service s o r d)
  viewed_after service q f None r d = refl
  viewed_after service q f (Some l) None d = refl
  viewed_after service q f (Some l) (Some r) None = refl
  viewed_after service q f (Some l) (Some r) (Some d) = ap Some (verdict_of_facts service (facts_of service s l r d) q)

counted_alike : (s : State) (service : List ℕ) (q : AccessRequest) (o : Option Log) (r : Option ServiceRow) (d : Option ServiceDef)
    → option_map (λ (f : Facts). eval f q) (facts_with service (counted s) o r d) ≡ option_map (λ (f : Facts). eval f q) (facts_with service s o r d)
counted_alike s service q None r d = refl
counted_alike s service q (Some l) None d = refl
counted_alike s service q (Some l) (Some r) None = refl
counted_alike s service q (Some l) (Some r) (Some d) = refl

second_from : (a : Administration) (actor : List ℕ) (g : GrantRow) → IsKept a.state → (p : Policy) → policy_for a.state g ≡ Some p
    → ((frame : Frame) (side : Side) (c : Context) → access_of frame side c (granted_form g p) ≡ access_of frame side c p)
    → (service : List ℕ) (q : AccessRequest) (rule : Option Rule) → let ask : Ask = record { actor = actor; command = UpdatePolicy (granted_form g p) } in
    option_map (λ (f : Facts). eval f q) (view (step_by rule a ask).0 service) ≡ option_map (λ (f : Facts). eval f q) (view a service)
unfolding granted_form
second_from a actor g kept p found again service q (Some rule) = counted_alike a.state service q (log_at a.logs service) (service_at a.state service) (def_of a.state service)
second_from a actor g kept p found again service q None =
    let s = a.state in
    let has = find_contained (is_for g) s.policies.items p found in
    let f = touched_log s (UpdatePolicy (granted_form g p)) in
    ap (λ o. option_map (λ (f : Facts). eval f q) (facts_with service (after_second s) o (service_at s service) (def_of s service))) (find_mapped (is_log_of service) f (λ _. refl) a.logs)
    ∙ viewed_after s g p kept has.0 (kind_is g p has.1).0 again service q f (log_at a.logs service) (service_at s service) (def_of s service)
  where
    after_second : State → State
    after_second s = counted (after_command s (UpdatePolicy (granted_form g p)))

pub second_grant : (a : Administration) (other : List ℕ) (g : GrantRow) → IsKept a.state → (p : Policy) → policy_for a.state g ≡ Some p
    → ((frame : Frame) (side : Side) (c : Context) → access_of frame side c (granted_form g p) ≡ access_of frame side c p)
    → (service : List ℕ) (q : AccessRequest) → option_map (λ (f : Facts). eval f q) (view (granted a (Grant other g)).0 service) ≡ option_map (λ (f : Facts). eval f q) (view a service)
unfolding granted planned
second_grant a other g kept p found again service q =
    let ask : Option Policy → Ask = λ o. record { actor = other; command = grant_of a.state g o } in
    subst (λ (o : Option Policy). option_map (λ (f : Facts). eval f q) (view (step_by (fault a.state (ask o)) a (ask o)).0 service) ≡ option_map (λ (f : Facts). eval f q) (view a service)) (sym found)
    (second_from a other g kept p found again service q (fault a.state (ask (Some p))))
