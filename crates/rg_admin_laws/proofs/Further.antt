-- For proofs alone: refusals, ids that rise and are given once, downloads from the present versions, and a policy that is created and deleted.
use Rattle.std.proofs.Common.{arith, ◌≡◌, ◌≤◌, ◌<◌, ◌+◌, ◌-◌, ◌&&◌, ℕ, ℤ, zero, suc, pos, int_lt, eqb, true, false, not, cond, is_some, Contains, List, [], ◌∷◌, ◌++◌, length, Option, Some, None, slice_get, refl, ap, sym, ◌∙◌, subst}
use Rattle.std.specs.List.{list_all, list_any}
use Rattle.std.specs.Ordering.{int_eq}
use Rattle.std.proofs.lemmas.Bool.{and_parts, false≢true}
use Rattle.std.proofs.lemmas.Bool.Decides.{Decides-int_eq}
use Rattle.std.proofs.lemmas.List.{append-nil}
use Rattle.std.proofs.lemmas.List.Elements.{filter-append}
use Rattle.std.proofs.lemmas.Option.{none-some, same_Some}
use Rattle.rg_base.proofs.Lists.{Contains-first, Contains-later, all_holds}
use Rattle.rg_base.specs.declared.numbers.PolicyId.{PolicyId}
use Rattle.rg_base.specs.declared.numbers.Version.{Version}
use Rattle.rg_policy.specs.declared.policy.Policy.{Policy}
use Rattle.rg_facts.specs.declared.facts.Facts.{Facts}
use Rattle.rg_turn.specs.History.{IsLegal, state_at}
use Rattle.rg_turn.specs.declared.rule.Entry.{Entry}
use Rattle.rg_cmd.specs.Lists.{without}
use Rattle.rg_cmd.specs.Lookups.{has_id, is_service, policy_at}
use Rattle.rg_cmd.specs.declared.ask.AdminCommand.{AdminCommand}
use Rattle.rg_cmd.specs.declared.ask.AdminCommand.TheVariants.{CreatePolicy, Download as Downloads, GetPolicy}
use Rattle.rg_cmd.specs.declared.ask.AdminReply.{AdminReply}
use Rattle.rg_cmd.specs.declared.ask.Ask.{Ask}
use Rattle.rg_cmd.specs.declared.changes.Log.{Log}
use Rattle.rg_cmd.specs.declared.changes.LogEntry.{LogEntry}
use Rattle.rg_cmd.specs.declared.changes.TagChange.{TagChange}
use Rattle.rg_cmd.specs.declared.download.Download.{Download}
use Rattle.rg_cmd.specs.declared.download.RolePart.TheVariants.{Unchanged as RolesUnchanged, Whole as RolesWhole}
use Rattle.rg_cmd.specs.declared.rule.Rule.{Rule}
use Rattle.rg_cmd.specs.declared.state.State.{State}
use Rattle.rg_delta.specs.Logs.{Book, behind, keeps_after, latest}
use Rattle.rg_delta.specs.Logs.Known.{Nothing, These, Unknown}
use Rattle.rg_validate.specs.Rules.{command_rules, policy_exists, service_exists}
use Rattle.rg_validate.specs.Valid.{is_given}
use Rattle.rg_admin_laws.specs.Changes.{after_command, created_form, next_id_after}
use Rattle.rg_admin_laws.specs.Downloads.{From, download, download_with, policy_part, policy_part_by, role_part, role_whole, tag_part, tag_part_by}
use Rattle.rg_admin_laws.specs.Laws.{from_of, gave_id, is_refused}
use Rattle.rg_admin_laws.specs.Logs.{Administration, policy_book, tag_book}
use Rattle.rg_admin_laws.specs.Machine.{is_unchanged, same_policies, same_roles, same_tags, same_versions, versions}
use Rattle.rg_admin_laws.specs.Starts.{IsStart}
use Rattle.rg_admin_laws.specs.Steps.{downloaded, fault, found, reply_to, step, step_by}
use Rattle.rg_admin_laws.specs.Views.{view}
use Rattle.rg_admin_laws.proofs.Downloading.{viewed}
use Rattle.rg_admin_laws.proofs.Happening.{at_below, at_within}
use Rattle.rg_admin_laws.proofs.Ids.{lt_differs, lt_more, lt_next, next_by_one}
use Rattle.rg_admin_laws.proofs.Lawful.{at_orderly, policy_version_is, service_viewed, state_next, tag_version_is}
use Rattle.rg_admin_laws.proofs.Lists.{case, find_some}
use Rattle.rg_admin_laws.proofs.Orderly.{IsOrderly}
use Rattle.rg_admin_laws.proofs.Passing.{IsPassed, passed, passed_at}

-- ---- a reply is a refusal exactly where a rule is broken

found_there : (o : Option Policy) (p : Policy) → o ≡ Some p → is_refused (found o) ≡ false
found_there o p is = ap (λ x. is_refused (found x)) is

downloaded_there : (o : Option Download) (d : Download) → o ≡ Some d → is_refused (downloaded o) ≡ false
downloaded_there o d is = ap (λ x. is_refused (downloaded x)) is

download_there : (a : Administration) → IsOrderly a → (service : List ℕ) (from : From) → list_any (is_service service) a.state.services.items ≡ true → (d : Download) × (download a service from ≡ Some d)
download_there a o service from there =
    let f = service_viewed a o service there in
    let v = viewed a service f.0 f.1 in
    (_, λ i. download_with a.state.count from (v.log_is i) (f.1 i))

reply_given : (a : Administration) → IsOrderly a → (actor : List ℕ) (c : AdminCommand) → IsPassed a.state c → is_refused (reply_to a actor c) ≡ false
reply_given a o actor (GetPolicy id) rules = let p = find_some (has_id id.0) a.state.policies.items (passed_at (command_rules a.state (GetPolicy id)) rules.rules 0 (policy_exists a.state id.0) refl) in found_there (policy_at a.state id.0) p.0 p.1
reply_given a o actor (Downloads service pf tf rf) rules =
    let from : From = record { policies = pf; tags = tf; roles = rf } in
    let d = download_there a o service from (passed_at (command_rules a.state (Downloads service pf tf rf)) rules.rules 0 (service_exists a.state service) refl) in
    downloaded_there (download a service from) d.0 d.1
reply_given a o actor c rules = refl

pub refused_where : (a : Administration) → IsOrderly a → (ask : Ask) → is_refused (step a ask).1 ≡ is_some (fault a.state ask)
refused_where a o ask = go (fault a.state ask) refl
  where
    go : (r : Option Rule) → fault a.state ask ≡ r → is_refused (step_by r a ask).1 ≡ is_some r
    go None none = reply_given a o ask.actor ask.command (passed a.state ask none)
    go (Some rule) is = refl

-- ---- ids

-- what is below the next id stays below it
next_rises : (a : Administration) → IsOrderly a → (ask : Ask) (id : ℤ) → int_lt id a.state.next_id ≡ true → int_lt id (step a ask).0.state.next_id ≡ true
next_rises a o ask id low = go (fault a.state ask) refl
  where
    more : (c : AdminCommand) → IsPassed a.state c → int_lt id (after_command a.state c).next_id ≡ true
    more (CreatePolicy p) rules = subst (λ n. int_lt id n ≡ true) (sym (next_by_one a.state.next_id a.state.count (rules.limit refl) o.state.next)) (lt_more id a.state.next_id low)
    more c rules = low

    go : (r : Option Rule) → fault a.state ask ≡ r → int_lt id (step_by r a ask).0.state.next_id ≡ true
    go None none = more ask.command (passed a.state ask none)
    go (Some rule) is = low

-- an id that is given is the next one, which rises
given_is : (a : Administration) (ask : Ask) (id : PolicyId) → gave_id ask.command (step a ask).1 ≡ Some id → (fault a.state ask ≡ None) × ((p : Policy) × (ask.command ≡ CreatePolicy p)) × (id.0 ≡ a.state.next_id)
given_is a ask id gave = go (fault a.state ask) refl gave
  where
    of : (c : AdminCommand) → gave_id c (reply_to a ask.actor c) ≡ Some id → ((p : Policy) × (c ≡ CreatePolicy p)) × (id.0 ≡ a.state.next_id)
    of (CreatePolicy p) h = ((p, refl), ap (λ (x : PolicyId). x.0) (sym (same_Some _ id h)))
    of c h = absurd (none-some id h)

    never : (c : AdminCommand) (rule : Rule) → gave_id c (step_by (Some rule) a ask).1 ≡ Some id → ⊥
    never (CreatePolicy p) rule h = none-some id h
    never c rule h = none-some id h

    go : (r : Option Rule) → fault a.state ask ≡ r → gave_id ask.command (step_by r a ask).1 ≡ Some id → (fault a.state ask ≡ None) × ((p : Policy) × (ask.command ≡ CreatePolicy p)) × (id.0 ≡ a.state.next_id)
    go None none h = let r = of ask.command h in (none, r.0, r.1)
    go (Some rule) is h = absurd (never ask.command rule h)

given_below : (a : Administration) → IsOrderly a → (ask : Ask) (id : PolicyId) → gave_id ask.command (step a ask).1 ≡ Some id → int_lt id.0 (step a ask).0.state.next_id ≡ true
given_below a o ask id gave =
    let g = given_is a ask id gave in
    let rules = passed a.state ask g.0 in
    subst (λ r. int_lt id.0 (step_by r a ask).0.state.next_id ≡ true) (sym g.0)
    (subst (λ c. IsPassed a.state c → int_lt id.0 (after_command a.state c).next_id ≡ true) (sym g.1.1)
    (λ (create : IsPassed a.state (CreatePolicy g.1.0)). subst (λ n. int_lt n (next_id_after a.state.next_id) ≡ true) (sym g.2)
    (subst (λ n. int_lt a.state.next_id n ≡ true) (sym (next_by_one a.state.next_id a.state.count (create.limit refl) o.state.next)) (lt_next a.state.next_id))) rules)

module _ (start : Administration) (h : List (Entry Ask AdminReply)) (is : IsStart start) (id : ℤ) where
  below_more : (j m k : ℕ) → k ≡ j + m → k ≤ length h → int_lt id (state_at step start h j).state.next_id ≡ true → int_lt id (state_at step start h k).state.next_id ≡ true
  below_more j zero k sum low below = let same : j ≡ k = omega (arith, sum) in subst (λ n. int_lt id (state_at step start h n).state.next_id ≡ true) same below
  below_more j (suc m) k sum low below =
      let before = j + m in
      let e = at_below h before (omega (arith, sum, low)) in
      let same : suc before ≡ k = omega (arith, sum) in
      subst (λ n. int_lt id (state_at step start h n).state.next_id ≡ true) same
      (subst (λ a. int_lt id a.state.next_id ≡ true) (sym (state_next start h before e.0 e.1))
      (next_rises (state_at step start h before) (at_orderly start h is before) e.0.ask id (below_more j m before refl (omega (arith, sum, low)) below)))

-- a later id is greater
pub given_rising : (start : Administration) (h : List (Entry Ask AdminReply)) → IsStart start → IsLegal step start h → (j k : ℕ) (e f : Entry Ask AdminReply) → j < k → slice_get h j ≡ Some e → slice_get h k ≡ Some f
    → (id other : PolicyId) → gave_id e.ask.command e.reply ≡ Some id → gave_id f.ask.command f.reply ≡ Some other → int_lt id.0 other.0 ≡ true
given_rising start h is legal j k e f less at_j at_k id other gave gives =
    let a = state_at step start h j in
    let b = state_at step start h k in
    let first = subst (λ r. gave_id e.ask.command r ≡ Some id) (sym (legal j e at_j)) gave in
    let second = subst (λ r. gave_id f.ask.command r ≡ Some other) (sym (legal k f at_k)) gives in
    let after = subst (λ x. int_lt id.0 x.state.next_id ≡ true) (sym (state_next start h j e at_j)) (given_below a (at_orderly start h is j) e.ask id first) in
    let low = at_within h f k at_k in
    let below = below_more start h is id.0 (suc j) (k - suc j) k (omega (arith, less)) (omega (arith, low)) after in
    let next = (given_is b f.ask other second).2 in
    subst (λ n. int_lt id.0 n ≡ true) (sym next) below

int_turned : (x y : ℤ) → int_eq y x ≡ false → int_eq x y ≡ false
int_turned x y other = case (λ b. int_eq x y ≡ b → b ≡ false) (int_eq x y) (λ _ same. absurd (false≢true (sym other ∙ (Decides-int_eq y x).1 (sym ((Decides-int_eq x y).0 same))))) (λ _ _. refl) refl

-- so an id is given once
pub given_once : (start : Administration) (h : List (Entry Ask AdminReply)) → IsStart start → IsLegal step start h → (j k : ℕ) (e f : Entry Ask AdminReply) → j < k → slice_get h j ≡ Some e → slice_get h k ≡ Some f
    → (id other : PolicyId) → gave_id e.ask.command e.reply ≡ Some id → gave_id f.ask.command f.reply ≡ Some other → int_eq id.0 other.0 ≡ false
given_once start h is legal j k e f less at_j at_k id other gave gives =
    int_turned id.0 other.0 (lt_differs id.0 other.0 (given_rising start h is legal j k e f less at_j at_k id other gave gives))

-- ---- downloads from the present versions

policies_unchanged : (g : Facts) (b : Book LogEntry) (from : Version) → same_policies (policy_part g b (Some from)) ≡ eqb from.0 b.version
policies_unchanged g b from = case (λ t. same_policies (policy_part_by g from (cond t Nothing (cond (keeps_after b from.0) (These (latest (behind b from.0) b.changes)) Unknown))) ≡ t) (eqb from.0 b.version)
    (λ _. refl) (λ _. case (λ u. same_policies (policy_part_by g from (cond u (These (latest (behind b from.0) b.changes)) Unknown)) ≡ false) (keeps_after b from.0) (λ _. refl) (λ _. refl))

tags_unchanged : (g : Facts) (b : Book TagChange) (from : Version) → same_tags (tag_part g b (Some from)) ≡ eqb from.0 b.version
tags_unchanged g b from = case (λ t. same_tags (tag_part_by g from (cond t Nothing (cond (keeps_after b from.0) (These (latest (behind b from.0) b.changes)) Unknown))) ≡ t) (eqb from.0 b.version)
    (λ _. refl) (λ _. case (λ u. same_tags (tag_part_by g from (cond u (These (latest (behind b from.0) b.changes)) Unknown)) ≡ false) (keeps_after b from.0) (λ _. refl) (λ _. refl))

roles_unchanged : (g : Facts) (from : Version) → same_roles (role_part g (Some from)) ≡ eqb from.0 g.role_version.0
roles_unchanged g from = case (λ t. same_roles (cond t RolesUnchanged (RolesWhole (role_whole g))) ≡ t) (eqb from.0 g.role_version.0) (λ _. refl) (λ _. refl)

module _ (a : Administration) (service : List ℕ) (f g : Facts) (d : Download) (is : view a service ≡ Some g) (down : download a service (from_of f) ≡ Some d) where
  abbrev log : Log
  log = (viewed a service g is).log

  abbrev made : Download
  made = record { seq = a.state.count; policies = policy_part g (policy_book log) (Some f.policy_version); tags = tag_part g (tag_book log) (Some f.tag_version); roles = role_part g (Some f.role_version) }

  made_is : made ≡ d
  made_is = same_Some made d (sym (λ i. download_with a.state.count (from_of f) ((viewed a service g is).log_is i) (is i)) ∙ down)

  pub policies_where : same_policies d.policies ≡ eqb f.policy_version.0 g.policy_version.0
  policies_where =
      sym (ap (λ (x : Download). same_policies x.policies) made_is) ∙ policies_unchanged g (policy_book log) f.policy_version
      ∙ ap (λ (v : Version). eqb f.policy_version.0 v.0) (sym (policy_version_is a service g is))

  pub tags_where : same_tags d.tags ≡ eqb f.tag_version.0 g.tag_version.0
  tags_where =
      sym (ap (λ (x : Download). same_tags x.tags) made_is) ∙ tags_unchanged g (tag_book log) f.tag_version
      ∙ ap (λ (v : Version). eqb f.tag_version.0 v.0) (sym (tag_version_is a service g is))

  pub roles_where : same_roles d.roles ≡ eqb f.role_version.0 g.role_version.0
  roles_where = sym (ap (λ (x : Download). same_roles x.roles) made_is) ∙ roles_unchanged g f.role_version

  pub unchanged_where : is_unchanged d ≡ same_versions (versions f) (versions g)
  unchanged_where = λ i. policies_where i && (tags_where i && roles_where i)

-- ---- a policy that is created and deleted

none_gone : (id : ℤ) (ps : List Policy) → ((p : Policy) → Contains ps p → has_id id p ≡ false) → without (has_id id) ps ≡ ps
none_gone id [] other = refl
none_gone id (p ∷ ps) other = ap (λ b. cond (not b) (p ∷ without (has_id id) ps) (without (has_id id) ps)) (other p (Contains-first p ps)) ∙ ap (λ qs. p ∷ qs) (none_gone id ps (λ q there. other q (Contains-later p ps q there)))

pub created_and_deleted : (s : State) → list_all (is_given s) s.policies.items ≡ true → (p : Policy) → without (has_id s.next_id) (s.policies.items ++ created_form s p ∷ []) ≡ s.policies.items
created_and_deleted s given p =
    let own : has_id s.next_id (created_form s p) ≡ true = (Decides-int_eq s.next_id s.next_id).1 refl in
    filter-append (λ q. not (has_id s.next_id q)) s.policies.items (created_form s p ∷ [])
    ∙ ap (λ b. without (has_id s.next_id) s.policies.items ++ cond (not b) (created_form s p ∷ []) []) own
    ∙ append-nil (without (has_id s.next_id) s.policies.items)
    ∙ none_gone s.next_id s.policies.items (λ q there.
    let low = (and_parts (int_lt (pos 0) q.id.0) (int_lt q.id.0 s.next_id) (all_holds (is_given s) s.policies.items given q there)).1 in
    int_turned q.id.0 s.next_id (lt_differs q.id.0 s.next_id low))
