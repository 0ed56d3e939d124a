-- For proofs alone: the administration has the laws that the world wants of a machine.
use Rattle.std.proofs.Common.{Bool, arith, ◌≡◌, ◌≤◌, ◌<◌, ◌+◌, ◌-◌, ◌^◌, ◌&&◌, min, ℕ, zero, suc, eqb, pos, int_lt, true, false, cond, map, List, [], ◌∷◌, length, take, Option, Some, None, option_map, slice_get, refl, ap, sym, ◌∙◌, subst, inl, inr}
use Rattle.std.specs.List.{list_all, list_any}
use Rattle.std.proofs.lemmas.Bool.{and_from, and_parts, cases_lt, eq-eqb, eqb-true, false≢true, le-leb}
use Rattle.std.proofs.lemmas.List.{length-take-le}
use Rattle.std.proofs.lemmas.List.Folds.{list_all-map}
use Rattle.std.proofs.lemmas.Option.{none-some, same_Some}
use Rattle.std.proofs.lemmas.Slice.Eq.{bytes_eq-Decides}
use Rattle.rg_base.proofs.Lists.{Contains-map, all_from, all_holds, any_from, find_contained}
use Rattle.rg_base.specs.declared.numbers.Version.{Version}
use Rattle.rg_facts.specs.declared.facts.Facts.{Facts}
use Rattle.rg_turn.specs.History.{IsLegal, state_after, state_at}
use Rattle.rg_turn.specs.declared.rule.Entry.{Entry}
use Rattle.rg_defs.specs.declared.service_def.ServiceDef.{ServiceDef}
use Rattle.rg_cmd.specs.Lookups.{def_of, is_service, service_at}
use Rattle.rg_cmd.specs.declared.ask.AdminCommand.{AdminCommand}
use Rattle.rg_cmd.specs.declared.ask.AdminCommand.TheVariants.{DeleteService, Download as Downloads, GetPolicy, ListPolicies}
use Rattle.rg_cmd.specs.declared.ask.AdminReply.{AdminReply}
use Rattle.rg_cmd.specs.declared.ask.Ask.{Ask}
use Rattle.rg_cmd.specs.declared.changes.Log.{Log}
use Rattle.rg_cmd.specs.declared.changes.LogEntry.{LogEntry}
use Rattle.rg_cmd.specs.declared.changes.TagChange.{TagChange}
use Rattle.rg_cmd.specs.declared.download.Download.{Download}
use Rattle.rg_cmd.specs.declared.download.RolePart.TheVariants.{Unchanged as RolesUnchanged, Whole as RolesWhole}
use Rattle.rg_cmd.specs.declared.rule.Rule.{Rule}
use Rattle.rg_cmd.specs.declared.state.ServiceRow.{ServiceRow}
use Rattle.rg_cmd.specs.declared.state.State.{State}
use Rattle.rg_delta.specs.Logs.{Book, behind, keeps_after, latest}
use Rattle.rg_delta.specs.Logs.Known.{Nothing, These, Unknown}
use Rattle.rg_validate.specs.Definitions.{plugin_fits}
use Rattle.rg_validate.specs.Rules.{only_reads}
use Rattle.rg_admin_laws.specs.Downloads.{From, download, download_with, policy_part, policy_part_by, role_part, role_whole, tag_part, tag_part_by}
use Rattle.rg_admin_laws.specs.Laws.{AreNoLess, IsNotDeleted, from_of, is_deletion, is_done}
use Rattle.rg_admin_laws.specs.Leading.{led}
use Rattle.rg_admin_laws.specs.Logs.{Administration, is_log_of, log_at, new_log, policy_book, tag_book, touched_log}
use Rattle.rg_admin_laws.specs.Machine.{Versions, administration, document_of, download_ask, is_unchanged, same_policies, same_roles, same_tags, versions}
use Rattle.rg_admin_laws.specs.Starts.{IsStart, new_logs}
use Rattle.rg_admin_laws.specs.Steps.{accepted, deletes, downloaded, fault, reply_to, step, step_by}
use Rattle.rg_admin_laws.specs.Views.{facts_of, facts_with, view}
use Rattle.rg_admin_laws.proofs.Downloading.{Viewed, leads_to_view, viewed}
use Rattle.rg_admin_laws.proofs.Happening.{Laws, at_below}
use Rattle.rg_admin_laws.proofs.Histories.{IsLed, always_orderly, led_now, led_step, stays_at}
use Rattle.rg_admin_laws.proofs.Lists.{case, find_mapped, find_some}
use Rattle.rg_admin_laws.proofs.Moves.{own_name}
use Rattle.rg_admin_laws.proofs.Orderly.{IsOrderly, count_of, def_there, has_log, is_counted, plugin_of, plugin_stays}
use Rattle.rg_admin_laws.proofs.Passing.{passed}

-- ---- the start

pub start_orderly : (a : Administration) → IsStart a → IsOrderly a
start_orderly a start = record {
  state = record {
    services = start.valid.valid.services;
    policies = start.valid.valid.policy_ids;
    given = start.valid.given;
    positive = ids.0;
    next = ids.1;
    rows = start.valid.valid.tag_row_ids;
    plugin = (and_parts (list_any (is_service s.plugin) s.services.items) (plugin_fits s) start.valid.plugin).0;
    roles = let one = ap (λ (v : Version). v.0) start.role_version in omega (arith, one);
    limit = let none = start.count in omega (arith, none);
  };
  logged = subst (λ logs. list_all (has_log logs) s.services.items ≡ true) (sym start.logs) (all_from (has_log (new_logs s.services.items)) s.services.items (λ row there.
      any_from (is_log_of row.name) (new_logs s.services.items) (new_log row.name) (Contains-map (λ (r : ServiceRow). new_log r.name) s.services.items row there) (own_name row.name)));
  counted = subst (λ logs. list_all (is_counted s.count) logs ≡ true) (sym start.logs) (list_all-map (is_counted s.count) (λ (r : ServiceRow). new_log r.name) s.services.items
      ∙ all_from (λ (r : ServiceRow). is_counted s.count (new_log r.name)) s.services.items (λ _ _. and_from _ _ (le-leb 1 (s.count + 1) (omega arith)) (le-leb 1 (s.count + 1) (omega arith))));
}
  where
    s : State
    s = a.state

    ids : (int_lt (pos 0) s.next_id ≡ true) × (int_lt s.next_id (pos (s.count + 2)) ≡ true)
    ids = and_parts (int_lt (pos 0) s.next_id) (int_lt s.next_id (pos (s.count + 2))) start.valid.next_id

-- ---- states

module _ (start : Administration) (h : List (Entry Ask AdminReply)) where
  abbrev at : ℕ → Administration
  at k = state_at step start h k

  pub at_orderly : IsStart start → (k : ℕ) → IsOrderly (at k)
  at_orderly is k = always_orderly start (take k h) (start_orderly start is)

-- an entry leads from the state before it to the next
pub state_next : (a : Administration) (h : List (Entry Ask AdminReply)) (k : ℕ) (e : Entry Ask AdminReply) → slice_get h k ≡ Some e → state_at step a h (suc k) ≡ (step (state_at step a h k) e.ask).0
state_next a [] k e there = absurd (none-some e there)
state_next a (x ∷ h) zero e there = ap (λ (y : Entry Ask AdminReply). (step a y.ask).0) (same_Some x e there)
state_next a (x ∷ h) (suc k) e there = state_next (step a x.ask).0 h k e there

-- what no step changes
step_plugin : (a : Administration) (ask : Ask) → (step a ask).0.state.plugin ≡ a.state.plugin
step_plugin a ask = go (fault a.state ask)
  where
    go : (r : Option Rule) → (step_by r a ask).0.state.plugin ≡ a.state.plugin
    go None = plugin_of a.state ask.command
    go (Some rule) = refl

pub plugin_after : (a : Administration) (h : List (Entry Ask AdminReply)) → (state_after step a h).state.plugin ≡ a.state.plugin
plugin_after a [] = refl
plugin_after a (e ∷ h) = plugin_after (step a e.ask).0 h ∙ step_plugin a e.ask

-- every entry raises the count, up to its limit
step_count : (a : Administration) (ask : Ask) → (step a ask).0.state.count ≡ min (a.state.count + 1) (2 ^ 62)
step_count a ask = go (fault a.state ask)
  where
    go : (r : Option Rule) → (step_by r a ask).0.state.count ≡ min (a.state.count + 1) (2 ^ 62)
    go None = ap (λ n. min (n + 1) (2 ^ 62)) (count_of a.state ask.command)
    go (Some rule) = refl

pub count_after : (a : Administration) (h : List (Entry Ask AdminReply)) → a.state.count ≤ 2 ^ 62 → (state_after step a h).state.count ≡ min (a.state.count + length h) (2 ^ 62)
count_after a [] low = omega (arith, low)
count_after a (e ∷ h) low =
    let one = step_count a e.ask in
    let rest = count_after (step a e.ask).0 h (omega (arith, one)) in
    omega (arith, one, rest, low)

-- ---- views that stand still

-- at the limit on entries no view changes
view_read : (service : List ℕ) (a : Administration) (f : Log → Log) → ((l : Log) → (f l).policy_version ≡ l.policy_version) → ((l : Log) → (f l).tag_version ≡ l.tag_version)
    → (o : Option Log) (r : Option ServiceRow) (d : Option ServiceDef) → facts_with service a.state (option_map f o) r d ≡ facts_with service a.state o r d
view_read service a f policies tags None r d = refl
view_read service a f policies tags (Some l) None d = refl
view_read service a f policies tags (Some l) (Some r) None = refl
view_read service a f policies tags (Some l) (Some r) (Some d) = λ i. Some (record (facts_of service a.state l r d) { policy_version = policies l i; tag_version = tags l i })

mapped_view : (service : List ℕ) (a : Administration) (c : AdminCommand) → ((l : Log) → (touched_log a.state c l).policy_version ≡ l.policy_version) → ((l : Log) → (touched_log a.state c l).tag_version ≡ l.tag_version)
    → facts_with service a.state (log_at (map (touched_log a.state c) a.logs) service) (service_at a.state service) (def_of a.state service) ≡ view a service
mapped_view service a c policies tags =
    ap (λ o. facts_with service a.state o (service_at a.state service) (def_of a.state service)) (find_mapped (is_log_of service) (touched_log a.state c) (λ _. refl) a.logs)
    ∙ view_read service a (touched_log a.state c) policies tags (log_at a.logs service) (service_at a.state service) (def_of a.state service)

read_view : (service : List ℕ) (a : Administration) (c : AdminCommand) → only_reads c ≡ true → view (accepted a c) service ≡ view a service
read_view service a (GetPolicy id) is = mapped_view service a (GetPolicy id) (λ _. refl) (λ _. refl)
read_view service a (ListPolicies name) is = mapped_view service a (ListPolicies name) (λ _. refl) (λ _. refl)
read_view service a (Downloads name pf tf rf) is = mapped_view service a (Downloads name pf tf rf) (λ _. refl) (λ _. refl)
read_view service a c is = absurd (false≢true is)

step_still : (service : List ℕ) (a : Administration) (ask : Ask) → 2 ^ 62 ≤ a.state.count → view (step a ask).0 service ≡ view a service
step_still service a ask full = go (fault a.state ask) refl
  where
    go : (r : Option Rule) → fault a.state ask ≡ r → view (step_by r a ask).0 service ≡ view a service
    go None none = case (λ b. only_reads ask.command ≡ b → view (accepted a ask.command) service ≡ view a service) (only_reads ask.command)
        (λ _ reads. read_view service a ask.command reads) (λ _ changes. let low = (passed a.state ask none).limit changes in absurd (omega (arith, low, full))) refl
    go (Some rule) is = refl

-- ---- from one state to a later one

-- the service stays between the two places
abbrev pub StaysBetween : Administration → List (Entry Ask AdminReply) → ℕ → ℕ → List ℕ → Type 0
StaysBetween start h j k service = (n : ℕ) (e : Entry Ask AdminReply) → j ≤ n → n < k → slice_get h n ≡ Some e → stays_at e (state_at step start h n) service

module _ (start : Administration) (h : List (Entry Ask AdminReply)) (is : IsStart start) (j : ℕ) (service : List ℕ) (f : Facts) (first : view (state_at step start h j) service ≡ Some f) where
  abbrev Led : ℕ → Type 0
  Led k = IsLed (state_at step start h j) f.policy_version.0 f.tag_version.0 f.role_version.0 service (state_at step start h k)

  led_more : (m k : ℕ) → k ≡ j + m → k ≤ length h → StaysBetween start h j k service → Led k
  led_more zero k sum low stays = let same : j ≡ k = omega (arith, sum) in subst Led same (led_now (state_at step start h j) service f first)
  led_more (suc m) k sum low stays =
      let before = j + m in
      let e = at_below h before (omega (arith, sum, low)) in
      let same : suc before ≡ k = omega (arith, sum) in
      subst Led same (subst (λ a. IsLed (state_at step start h j) f.policy_version.0 f.tag_version.0 f.role_version.0 service a) (sym (state_next start h before e.0 e.1))
      (led_step (state_at step start h j) f.policy_version.0 f.tag_version.0 f.role_version.0 service (state_at step start h before) e.0 (at_orderly start h is before)
      (stays before e.0 (omega arith) (omega (arith, sum)) e.1) (led_more m before refl (omega (arith, sum, low)) (λ n x from to there. stays n x from (omega (arith, sum, to)) there))))

  pub led_to : (k : ℕ) → j ≤ k → k ≤ length h → StaysBetween start h j k service → Led k
  led_to k from low stays = led_more (k - j) k (omega (arith, from)) low stays

-- a deletion is done
reply_done : (a : Administration) (actor service : List ℕ) (c : AdminCommand) → deletes c service ≡ true → is_done (reply_to a actor c) ≡ true
reply_done a actor service (DeleteService name) is = refl
reply_done a actor service c is = absurd (false≢true is)

stays_where : (a : Administration) (service : List ℕ) (e : Entry Ask AdminReply) → (step a e.ask).1 ≡ e.reply → is_deletion service e ≡ false → stays_at e a service
stays_where a service e legal none accepts =
    case (λ b. deletes e.ask.command service ≡ b → b ≡ false) (deletes e.ask.command service)
    (λ _ is.
    let reply : reply_to a e.ask.actor e.ask.command ≡ e.reply = sym (ap (λ (r : Option Rule). (step_by r a e.ask).1) accepts) ∙ legal in
    let done : is_done e.reply ≡ true = ap is_done (sym reply) ∙ reply_done a e.ask.actor service e.ask.command is in
    sym (and_from (deletes e.ask.command service) (is_done e.reply) is done) ∙ none)
    (λ _ _. refl) refl

pub stays_of : (start : Administration) (h : List (Entry Ask AdminReply)) → IsLegal step start h → (j k : ℕ) (service : List ℕ) → IsNotDeleted h j k service → StaysBetween start h j k service
stays_of start h legal j k service none n e from to there = stays_where (state_at step start h n) service e (legal n e there) (none n e from to there)

-- the plugin's service is never deleted
pub plugin_between : (start : Administration) (h : List (Entry Ask AdminReply)) → IsStart start → (j k : ℕ) → StaysBetween start h j k start.state.plugin
plugin_between start h is j k n e from to there accepts =
    let a = state_at step start h n in
    subst (λ p. deletes e.ask.command p ≡ false) (plugin_after start (take n h))
    (plugin_stays a.state (at_orderly start h is n).state e.ask.command (passed a.state e.ask accepts))

-- ---- the law of downloads

pub downloads_lead : (start : Administration) (h : List (Entry Ask AdminReply)) → IsStart start → (j k : ℕ) → j ≤ k → k ≤ length h → (service : List ℕ) → StaysBetween start h j k service
    → (before after : Facts) (d : Download) → view (state_at step start h j) service ≡ Some before → view (state_at step start h k) service ≡ Some after
    → download (state_at step start h k) service (from_of before) ≡ Some d → led before d ≡ after
downloads_lead start h is j k from low service stays before after d first last down =
    leads_to_view (state_at step start h j) (state_at step start h k) service before after d first last (led_to start h is j service before first k from low stays).since down

-- ---- versions

-- the versions of a view are those of its log, and of the roles
module _ (a : Administration) (service : List ℕ) (f : Facts) (is : view a service ≡ Some f) where
  abbrev view_log : Viewed a service f
  view_log = viewed a service f is

  pub policy_version_is : f.policy_version ≡ view_log.log.policy_version
  policy_version_is = ap (λ (g : Facts). g.policy_version) (sym view_log.facts_are)

  pub tag_version_is : f.tag_version ≡ view_log.log.tag_version
  tag_version_is = ap (λ (g : Facts). g.tag_version) (sym view_log.facts_are)

  pub role_version_is : f.role_version ≡ a.state.role_version
  role_version_is = ap (λ (g : Facts). g.role_version) (sym view_log.facts_are)

-- no version falls
pub no_less : (early : Administration) (service : List ℕ) (late : Administration) (f g : Facts) → IsLed early f.policy_version.0 f.tag_version.0 f.role_version.0 service late → view late service ≡ Some g → AreNoLess f g
no_less early service late f g led is =
    let v = viewed late service g is in
    let same : led.since.log ≡ v.log = same_Some led.since.log v.log (sym led.since.found ∙ v.log_is) in record {
      policies = subst (λ (n : Version). f.policy_version.0 ≤ n.0) (ap (λ (l : Log). l.policy_version) same ∙ sym (policy_version_is late service g is)) led.since.policy_since.later;
      tags = subst (λ (n : Version). f.tag_version.0 ≤ n.0) (ap (λ (l : Log). l.tag_version) same ∙ sym (tag_version_is late service g is)) led.since.tag_since.later;
      roles = subst (λ (n : Version). f.role_version.0 ≤ n.0) (sym (role_version_is late service g is)) led.since.role_since.later;
    }

-- ---- where nothing changed

-- a part is unchanged where the version is the present one
policies_same : (g : Facts) (b : Book LogEntry) (from : Version) → from.0 ≡ b.version → same_policies (policy_part g b (Some from)) ≡ true
policies_same g b from is = ap (λ t. same_policies (policy_part_by g from (cond t Nothing (cond (keeps_after b from.0) (These (latest (behind b from.0) b.changes)) Unknown)))) (eq-eqb from.0 b.version is)

tags_same : (g : Facts) (b : Book TagChange) (from : Version) → from.0 ≡ b.version → same_tags (tag_part g b (Some from)) ≡ true
tags_same g b from is = ap (λ t. same_tags (tag_part_by g from (cond t Nothing (cond (keeps_after b from.0) (These (latest (behind b from.0) b.changes)) Unknown)))) (eq-eqb from.0 b.version is)

roles_same : (g : Facts) (from : Version) → from.0 ≡ g.role_version.0 → same_roles (role_part g (Some from)) ≡ true
roles_same g from is = ap (λ t. same_roles (cond t RolesUnchanged (RolesWhole (role_whole g)))) (eq-eqb from.0 g.role_version.0 is)

-- the download from a view's own versions is unchanged
pub nothing_changed : (a : Administration) (service : List ℕ) (f g : Facts) (d : Download) → view a service ≡ Some g → download a service (from_of f) ≡ Some d
    → f.policy_version.0 ≡ g.policy_version.0 → f.tag_version.0 ≡ g.tag_version.0 → f.role_version.0 ≡ g.role_version.0 → is_unchanged d ≡ true
nothing_changed a service f g d is down policies tags roles =
    let v = viewed a service g is in
    let made : Download = record { seq = a.state.count; policies = policy_part g (policy_book v.log) (Some f.policy_version); tags = tag_part g (tag_book v.log) (Some f.tag_version); roles = role_part g (Some f.role_version) } in
    let same : made ≡ d = same_Some made d (sym (λ i. download_with a.state.count (from_of f) (v.log_is i) (is i)) ∙ down) in
    subst (λ (x : Download). is_unchanged x ≡ true) same
    (and_from (same_policies made.policies) (same_tags made.tags && same_roles made.roles)
    (policies_same g (policy_book v.log) f.policy_version (policies ∙ ap (λ (n : Version). n.0) (policy_version_is a service g is)))
    (and_from (same_tags made.tags) (same_roles made.roles)
    (tags_same g (tag_book v.log) f.tag_version (tags ∙ ap (λ (n : Version). n.0) (tag_version_is a service g is)))
    (roles_same g f.role_version roles)))

-- ---- the machine

-- a start with this plugin
abbrev pub Starts : List ℕ → Administration → Type 0
Starts plugin a = IsStart a × (a.state.plugin ≡ plugin)

document_is : (o : Option Download) (d : Download) → document_of (downloaded o) ≡ Some d → o ≡ Some d
document_is None d h = absurd (none-some d h)
document_is (Some x) d h = h

-- the document of a reply is the download
pub document_of_step : (a : Administration) (service : List ℕ) (v : Versions) (d : Download) → document_of (step a (download_ask service v)).1 ≡ Some d
    → download a service (record { policies = Some v.policies; tags = Some v.tags; roles = Some v.roles }) ≡ Some d
document_of_step a service v d h = go (fault a.state (download_ask service v)) h
  where
    go : (r : Option Rule) → document_of (step_by r a (download_ask service v)).1 ≡ Some d → download a service (record { policies = Some v.policies; tags = Some v.tags; roles = Some v.roles }) ≡ Some d
    go None is = document_is (download a service (record { policies = Some v.policies; tags = Some v.tags; roles = Some v.roles })) d is
    go (Some rule) is = absurd (none-some d is)

-- the seq of a download is the count
pub seq_is : (a : Administration) (service : List ℕ) (from : From) (d : Download) → download a service from ≡ Some d → d.seq ≡ a.state.count
seq_is a service from d h = go (log_at a.logs service) (view a service) h
  where
    go : (l : Option Log) (f : Option Facts) → download_with a.state.count from l f ≡ Some d → d.seq ≡ a.state.count
    go None f is = absurd (none-some d is)
    go (Some l) None is = absurd (none-some d is)
    go (Some l) (Some f) is = ap (λ (x : Download). x.seq) (sym (same_Some _ d is))

-- a service has a view
pub service_viewed : (a : Administration) → IsOrderly a → (service : List ℕ) → list_any (is_service service) a.state.services.items ≡ true → (f : Facts) × (view a service ≡ Some f)
service_viewed a o service there =
    let row = find_some (is_service service) a.state.services.items there in
    let found = find_contained (is_service service) a.state.services.items row.0 row.1 in
    let def = def_there a.state o.state.services service there in
    let log = find_some (is_log_of service) a.logs (subst (λ n. list_any (is_log_of n) a.logs ≡ true) ((bytes_eq-Decides row.0.name service).0 found.1) (all_holds (has_log a.logs) a.state.services.items o.logged row.0 found.0)) in
    (facts_of service a.state log.0 row.0 def.0, λ i. facts_with service a.state (log.1 i) (row.1 i) (def.1 i))

same_version : (v w : Version) → eqb v.0 w.0 ≡ true → v ≡ w
same_version v w h = λ i. record { 0 = eqb-true v.0 w.0 h i }

abbrev weight : Versions → ℕ
weight v = v.policies.0 + v.tags.0 + v.roles.0

module _ (plugin : List ℕ) (s : Administration) (h : List (Entry Ask AdminReply)) (start : Starts plugin s) where
  led_plugin : (j k : ℕ) → j ≤ k → k ≤ length h → (f : Facts) → view (state_at step s h j) plugin ≡ Some f
      → IsLed (state_at step s h j) f.policy_version.0 f.tag_version.0 f.role_version.0 plugin (state_at step s h k)
  led_plugin j k from low f first = led_to s h start.0 j plugin f first k from low (subst (λ p. StaysBetween s h j k p) start.1 (plugin_between s h start.0 j k))

  plugin_view : (k : ℕ) → (f : Facts) × (view (state_at step s h k) plugin ≡ Some f)
  plugin_view k =
      let o = at_orderly s h start.0 k in
      let v = service_viewed (state_at step s h k) o (state_at step s h k).state.plugin o.state.plugin in
      (v.0, subst (λ p. view (state_at step s h k) p ≡ Some v.0) (plugin_after s (take k h) ∙ start.1) v.1)

  pub count_at : (k : ℕ) → k ≤ length h → (state_at step s h k).state.count ≡ min k (2 ^ 62)
  count_at k low =
      let none = start.0.count in
      let many = length-take-le k h low in
      let count = count_after s (take k h) (omega (arith, none)) in
      omega (arith, none, many, count)

  still_more : (m k : ℕ) → k ≡ 2 ^ 62 + m → k ≤ length h → view (state_at step s h k) plugin ≡ view (state_at step s h (2 ^ 62)) plugin
  still_more zero k sum low = let same : k ≡ 2 ^ 62 = omega (arith, sum) in ap (λ n. view (state_at step s h n) plugin) same
  still_more (suc m) k sum low =
      let before = 2 ^ 62 + m in
      let e = at_below h before (omega (arith, sum, low)) in
      let count = count_at before (omega (arith, sum, low)) in
      let same : k ≡ suc before = omega (arith, sum) in
      ap (λ n. view (state_at step s h n) plugin) same ∙ ap (λ a. view a plugin) (state_next s h before e.0 e.1)
      ∙ step_still plugin (state_at step s h before) e.0.ask (omega (arith, count)) ∙ still_more m before refl (omega (arith, sum, low))

  still : (k : ℕ) → k ≤ length h → view (state_at step s h (min k (2 ^ 62))) plugin ≡ view (state_at step s h k) plugin
  still k low = elim (cases_lt k (2 ^ 62)) [
    | inl below ↦ let same : min k (2 ^ 62) ≡ k = omega (arith, below) in ap (λ n. view (state_at step s h n) plugin) same
    | inr past ↦ let same : min k (2 ^ 62) ≡ 2 ^ 62 = omega (arith, past) in ap (λ n. view (state_at step s h n) plugin) same ∙ sym (still_more (k - 2 ^ 62) k (omega (arith, past)) low)
  ]

  -- the seq of a document is its place, as far as the count goes
  placed : (k : ℕ) → k < length h → (v : Versions) (d : Download) → document_of (step (state_at step s h k) (download_ask plugin v)).1 ≡ Some d
      → (d.seq ≤ k) × (view (state_at step s h d.seq) plugin ≡ view (state_at step s h k) plugin)
  placed k low v d is =
      let seq = seq_is (state_at step s h k) plugin (record { policies = Some v.policies; tags = Some v.tags; roles = Some v.roles }) d (document_of_step (state_at step s h k) plugin v d is) in
      let place : d.seq ≡ min k (2 ^ 62) = seq ∙ count_at k (omega (arith, low)) in
      (omega (arith, place), ap (λ n. view (state_at step s h n) plugin) place ∙ still k (omega (arith, low)))

pub laws : (plugin : List ℕ) → Laws (administration plugin) (Starts plugin)
laws plugin = record {
  weight = weight;
  decides = λ v w h.
      let both = and_parts (eqb v.policies.0 w.policies.0) (eqb v.tags.0 w.tags.0 && eqb v.roles.0 w.roles.0) h in
      let rest = and_parts (eqb v.tags.0 w.tags.0) (eqb v.roles.0 w.roles.0) both.1 in
      λ i. record { policies = same_version v.policies w.policies both.0 i; tags = same_version v.tags w.tags rest.0 i; roles = same_version v.roles w.roles rest.1 i };
  has_view = λ s h start legal k low. plugin_view plugin s h start k;
  placed = λ s h start legal k low v d is. placed plugin s h start k low v d is;
  leads = λ s h start legal j k from low f g d first last is.
      leads_to_view (state_at step s h j) (state_at step s h k) plugin f g d first last (led_plugin plugin s h start j k from (omega (arith, low)) f first).since
      (document_of_step (state_at step s h k) plugin (versions f) d is);
  moves = λ s h start legal j k from low f g d first last is changed.
      let less = no_less (state_at step s h j) plugin (state_at step s h k) f g (led_plugin plugin s h start j k from (omega (arith, low)) f first) last in
      elim (cases_lt (weight (versions f)) (weight (versions g))) [
        | inl lt ↦ lt
        | inr le ↦ absurd (false≢true (sym changed ∙ nothing_changed (state_at step s h k) plugin f g d last (document_of_step (state_at step s h k) plugin (versions f) d is)
            (omega (arith, le, less.policies, less.tags, less.roles)) (omega (arith, le, less.policies, less.tags, less.roles)) (omega (arith, le, less.policies, less.tags, less.roles))))
      ];
  rises = λ s h start legal j k from low f g first last.
      let less = no_less (state_at step s h j) plugin (state_at step s h k) f g (led_plugin plugin s h start j k from low f first) last in
      omega (arith, less.policies, less.tags, less.roles);
}

-- ---- what the contracts say

and_false : (b : Bool) → (b && false) ≡ false
and_false true = refl
and_false false = refl

-- the plugin's service isn't deleted
pub plugin_not_deleted : (start : Administration) (h : List (Entry Ask AdminReply)) → IsStart start → IsLegal step start h → IsNotDeleted h 0 (length h) start.state.plugin
plugin_not_deleted start h is legal n e from to there = go (fault a.state e.ask) refl (legal n e there)
  where
    a : Administration
    a = state_at step start h n

    plugin : List ℕ
    plugin = start.state.plugin

    go : (r : Option Rule) → fault a.state e.ask ≡ r → (step_by r a e.ask).1 ≡ e.reply → is_deletion plugin e ≡ false
    go None none reply = ap (λ b. b && is_done e.reply) (plugin_between start h is 0 (length h) n e from to there none)
    go (Some rule) is_rule reply = ap (λ r. deletes e.ask.command plugin && is_done r) (sym reply) ∙ and_false (deletes e.ask.command plugin)

pub versions_rise : (start : Administration) (h : List (Entry Ask AdminReply)) → IsStart start → (j k : ℕ) → j ≤ k → k ≤ length h → (service : List ℕ) → StaysBetween start h j k service
    → (before after : Facts) → view (state_at step start h j) service ≡ Some before → view (state_at step start h k) service ≡ Some after → AreNoLess before after
versions_rise start h is j k from low service stays before after first last =
    no_less (state_at step start h j) service (state_at step start h k) before after (led_to start h is j service before first k from low stays) last

pub plugin_has_view : (start : Administration) (h : List (Entry Ask AdminReply)) → IsStart start → (k : ℕ) → (f : Facts) × (view (state_at step start h k) start.state.plugin ≡ Some f)
plugin_has_view start h is k = plugin_view start.state.plugin start h (is, refl) k
