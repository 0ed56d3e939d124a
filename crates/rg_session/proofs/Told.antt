-- What the document of a refresh leads to.
use Rattle.std.proofs.Common.{◌≡◌, ◌∙◌, ℕ, ◌+◌, ◌-◌, ◌<◌, ◌≤◌, ◌^◌, min, eq-eqb, true, false, List, [], ◌∷◌, ◌++◌, length, Option, Some, None, slice_get, inl, inr, refl, ap, sym, arith}
use Rattle.std.specs.List.{list_any}
use Rattle.std.specs.Option.{option_or}
use Rattle.std.proofs.lemmas.Bool.{cases_lt, false≢true}
use Rattle.std.proofs.lemmas.Option.{none-some, same_Some}
use Rattle.rg_base.specs.declared.numbers.Version.{Version}
use Rattle.rg_turn.specs.History.{IsLegal, state_after, state_at}
use Rattle.rg_turn.specs.View.{entry}
use Rattle.rg_turn.specs.declared.rule.Entry.{Entry}
use Rattle.rg_turn.proofs.Histories.{state_at_end}
use Rattle.rg_facts.specs.Sound.{sound}
use Rattle.rg_facts.specs.declared.facts.Facts.{Facts}
use Rattle.rg_cmd.specs.declared.ask.AdminReply.{AdminReply}
use Rattle.rg_cmd.specs.declared.ask.AdminReply.TheVariants.{Downloaded}
use Rattle.rg_cmd.specs.declared.ask.Ask.{Ask}
use Rattle.rg_cmd.specs.declared.changes.Log.{Log}
use Rattle.rg_cmd.specs.declared.changes.LogEntry.{LogEntry}
use Rattle.rg_cmd.specs.declared.changes.TagChange.{TagChange}
use Rattle.rg_cmd.specs.declared.download.Download.{Download}
use Rattle.rg_cmd.specs.declared.download.PolicyDelta.{PolicyDelta}
use Rattle.rg_cmd.specs.declared.download.PolicyPart.{PolicyPart}
use Rattle.rg_cmd.specs.declared.download.PolicyPart.TheVariants.{Unchanged as PoliciesUnchanged, Delta as PoliciesDelta, Whole as PoliciesWhole}
use Rattle.rg_cmd.specs.declared.download.RolePart.{RolePart}
use Rattle.rg_cmd.specs.declared.download.RolePart.TheVariants.{Unchanged as RolesUnchanged, Whole as RolesWhole}
use Rattle.rg_cmd.specs.declared.download.TagDelta.{TagDelta}
use Rattle.rg_cmd.specs.declared.download.TagPart.{TagPart}
use Rattle.rg_cmd.specs.declared.download.TagPart.TheVariants.{Unchanged as TagsUnchanged, Delta as TagsDelta, Whole as TagsWhole}
use Rattle.rg_cmd.specs.Lookups.{is_service}
use Rattle.rg_cmd.specs.declared.rule.Rule.TheVariants.{E1}
use Rattle.rg_delegate.specs.Rules.{first_failing}
use Rattle.rg_delta.specs.Logs.{Known}
use Rattle.rg_delta.specs.Logs.Known.{Nothing, These, Unknown}
use Rattle.rg_delta.specs.Logs.{changes_after}
use Rattle.rg_admin_laws.specs.Downloads.{From, download, download_with, policy_part_by, tag_part_by}
use Rattle.rg_admin_laws.specs.Laws.{AreNoLess, IsNotDeleted, from_of}
use Rattle.rg_admin_laws.specs.Leading.{led, policies_in, tags_in, with_policies, with_roles, with_tags}
use Rattle.rg_admin_laws.specs.Logs.{Administration, log_at, policy_book, tag_book}
use Rattle.rg_admin_laws.specs.Machine.{Versions, document_of, download_ask, is_unchanged, same_versions, versions}
use Rattle.rg_admin_laws.specs.Starts.{IsStart}
use Rattle.rg_admin_laws.specs.Steps.{downloaded, fault, step, step_by}
use Rattle.rg_admin_laws.specs.Views.{view}
use Rattle.rg_admin_laws.proofs.Downloading.{viewed}
use Rattle.rg_admin_laws.proofs.Lists.{some_there}
use Rattle.rg_admin_laws.proofs.Lawful.{count_after, document_of_step, seq_is}
use Rattle.rg_publish.specs.declared.history.Publication.{Publication}
use Rattle.rg_session.specs.Documents.{IsForward, Leads, roles_in}
use Rattle.rg_session.specs.Right.{AreRightFor}
use Rattle.rg_session.proofs.Rights.{H, right_low, right_viewed}

-- ---- from which versions deltas lead

-- each delta of a document leads from the version that was asked
record HasFrom (facts : Facts) (d : Download) : Type 0 where
  policies : (delta : PolicyDelta) → d.policies ≡ PoliciesDelta delta → delta.from ≡ facts.policy_version
  tags : (delta : TagDelta) → d.tags ≡ TagsDelta delta → delta.from ≡ facts.tag_version

policy_from : (present : Facts) (from : Version) (known : Known LogEntry) (delta : PolicyDelta) → policy_part_by present from known ≡ PoliciesDelta delta → delta.from ≡ from
policy_from present from Nothing delta is = absurd (cc is)
policy_from present from (These entries) delta is = cc is
policy_from present from Unknown delta is = absurd (cc is)

tag_from : (present : Facts) (from : Version) (known : Known TagChange) (delta : TagDelta) → tag_part_by present from known ≡ TagsDelta delta → delta.from ≡ from
tag_from present from Nothing delta is = absurd (cc is)
tag_from present from (These changes) delta is = cc is
tag_from present from Unknown delta is = absurd (cc is)

has_from : (n : ℕ) (facts : Facts) (log : Option Log) (present : Option Facts) (d : Download) → download_with n (from_of facts) log present ≡ Some d → HasFrom facts d
has_from n facts None present d is = absurd (none-some d is)
has_from n facts (Some log) None d is = absurd (none-some d is)
has_from n facts (Some log) (Some f) d is = record {
  policies = λ delta there. policy_from f facts.policy_version (changes_after (policy_book log) facts.policy_version.0) delta (ap (λ (x : Download). x.policies) (same_Some _ d is) ∙ there);
  tags = λ delta there. tag_from f facts.tag_version (changes_after (tag_book log) facts.tag_version.0) delta (ap (λ (x : Download). x.tags) (same_Some _ d is) ∙ there);
}

-- ---- no delta ends before its base

policies_forward : (facts present : Facts) (p : PolicyPart) → ((delta : PolicyDelta) → p ≡ PoliciesDelta delta → (delta.from ≡ facts.policy_version) × (delta.to ≡ present.policy_version))
    → facts.policy_version.0 ≤ present.policy_version.0 → (policies_in facts p).from.0 ≤ (policies_in facts p).to.0
policies_forward facts present PoliciesUnchanged known less = omega arith
policies_forward facts present (PoliciesWhole whole) known less = omega arith
policies_forward facts present (PoliciesDelta delta) known less =
    let ends = known delta refl in
    let from = ap (λ (v : Version). v.0) ends.0 in
    let to = ap (λ (v : Version). v.0) ends.1 in
    omega (arith, from, to, less)

tags_forward : (facts present : Facts) (t : TagPart) → ((delta : TagDelta) → t ≡ TagsDelta delta → (delta.from ≡ facts.tag_version) × (delta.to ≡ present.tag_version))
    → facts.tag_version.0 ≤ present.tag_version.0 → (tags_in facts t).from.0 ≤ (tags_in facts t).to.0
tags_forward facts present TagsUnchanged known less = omega arith
tags_forward facts present (TagsWhole whole) known less = omega arith
tags_forward facts present (TagsDelta delta) known less =
    let ends = known delta refl in
    let from = ap (λ (v : Version). v.0) ends.0 in
    let to = ap (λ (v : Version). v.0) ends.1 in
    omega (arith, from, to, less)

roles_forward : (facts before present : Facts) (r : RolePart) → (with_roles before r).role_version ≡ present.role_version
    → facts.role_version.0 ≤ present.role_version.0 → (roles_in facts r).from.0 ≤ (roles_in facts r).to.0
roles_forward facts before present RolesUnchanged is less = omega arith
roles_forward facts before present (RolesWhole whole) is less = let to = ap (λ (v : Version). v.0) is in omega (arith, to, less)

abbrev replaced_by : Facts → Download → Facts
replaced_by facts d = with_roles (with_tags (with_policies facts d.policies) d.tags) d.roles

forward : (facts present : Facts) (d : Download) → HasFrom facts d → led facts d ≡ present → AreNoLess facts present → IsForward facts d
forward facts present d froms leads less = record {
  policies = policies_forward facts present d.policies
      (λ delta is. (froms.policies delta is, ap (λ p. (policies_in (replaced_by facts d) p).to) (sym is) ∙ ap (λ (f : Facts). f.policy_version) leads)) less.policies;
  tags = tags_forward facts present d.tags
      (λ delta is. (froms.tags delta is, ap (λ t. (tags_in (replaced_by facts d) t).to) (sym is) ∙ ap (λ (f : Facts). f.tag_version) leads)) less.tags;
  roles = roles_forward facts (with_tags (with_policies facts d.policies) d.tags) present d.roles (ap (λ (f : Facts). f.role_version) leads) less.roles;
}

-- ---- a document always comes

-- where the service has a view, its download is answered
answered : (a : Administration) (service : List ℕ) (from : Versions) (f : Facts) → view a service ≡ Some f → (d : Download) × ((step a (download_ask service from)).1 ≡ Downloaded d)
answered a service from f is =
    let v = viewed a service f is in
    let there : list_any (is_service service) a.state.services.items ≡ true = some_there (is_service service) a.state.services.items v.row v.row_is in
    let asked : From = record { policies = Some from.policies; tags = Some from.tags; roles = Some from.roles } in
    let passes : fault a.state (download_ask service from) ≡ None = λ i. option_or (first_failing ((E1, there i) ∷ [])) (first_failing []) in
    (_, ap (λ r. (step_by r a (download_ask service from)).1) passes ∙ (λ i. downloaded (download_with a.state.count asked (v.log_is i) (is i))))

-- in a history of the administration
pub comes : (reply : (s : Administration) (h : H) (e : Entry Ask AdminReply) → IsLegal step s (h ++ e ∷ []) → (step (state_after step s h) e.ask).1 ≡ e.reply)
    → (seen : (start : Administration) (h : H) → IsStart start → (k : ℕ) → (f : Facts) × (view (state_at step start h k) start.state.plugin ≡ Some f))
    → (start : Administration) (h : H) (from : Versions) (r : AdminReply) → IsStart start → IsLegal step start (h ++ entry (download_ask start.state.plugin from) r ∷ [])
    → (d : Download) × (r ≡ Downloaded d)
comes replies seen start h from r starts legal =
    let e : Entry Ask AdminReply = entry (download_ask start.state.plugin from) r in
    let v = seen start (h ++ e ∷ []) starts (length h) in
    let now : view (state_after step start h) start.state.plugin ≡ Some v.0 = ap (λ a. view a start.state.plugin) (sym (state_at_end step start h (e ∷ []))) ∙ v.1 in
    let d = answered (state_after step start h) start.state.plugin from v.0 now in
    (d.0, sym (replies start h e legal) ∙ d.1)

-- ---- the laws that are called

pub record Laws : Type 0 where
  pub begins : (s : Administration) (h k : H) → IsLegal step s (h ++ k) → IsLegal step s h
  pub states : (s : Administration) (h k : H) (n : ℕ) → n ≤ length h → state_at step s (h ++ k) n ≡ state_at step s h n
  pub reply : (s : Administration) (h : H) (e : Entry Ask AdminReply) → IsLegal step s (h ++ e ∷ []) → (step (state_after step s h) e.ask).1 ≡ e.reply
  pub leads : (start : Administration) (h : H) → IsStart start → IsLegal step start h → (j k : ℕ) → j ≤ k → k ≤ length h → (service : List ℕ) → IsNotDeleted h j k service
      → (before after : Facts) (d : Download) → view (state_at step start h j) service ≡ Some before → view (state_at step start h k) service ≡ Some after
      → download (state_at step start h k) service (from_of before) ≡ Some d → led before d ≡ after
  pub rise : (start : Administration) (h : H) → IsStart start → IsLegal step start h → (j k : ℕ) → j ≤ k → k ≤ length h → (service : List ℕ) → IsNotDeleted h j k service
      → (before after : Facts) → view (state_at step start h j) service ≡ Some before → view (state_at step start h k) service ≡ Some after → AreNoLess before after
  pub stays : (start : Administration) (h : H) → IsStart start → IsLegal step start h → IsNotDeleted h 0 (length h) start.state.plugin
  pub viewed : (start : Administration) (h : H) → IsStart start → (k : ℕ) → (f : Facts) × (view (state_at step start h k) start.state.plugin ≡ Some f)
  pub unchanged : (a : Administration) (service : List ℕ) (before after : Facts) (d : Download) → view a service ≡ Some after
      → download a service (from_of before) ≡ Some d → is_unchanged d ≡ same_versions (versions before) (versions after)
  pub soundly : (start : Administration) (h : H) → IsStart start → (k : ℕ) → k ≤ length h → k < 2 ^ 62
      → (service : List ℕ) (facts : Facts) → view (state_at step start h k) service ≡ Some facts → sound facts ≡ true

same_self : (v : Versions) → same_versions v v ≡ true
same_self v = rw (eq-eqb v.policies.0 v.policies.0 refl, eq-eqb v.tags.0 v.tags.0 refl, eq-eqb v.roles.0 v.roles.0 refl) refl

module _ (laws : Laws) (start : Administration) (h : H) (list : List Publication) (newest : Publication) (d : Download) (starts : IsStart start) (right : AreRightFor start h list)
    (last : slice_get list (length list - 1) ≡ Some newest)
    (legal : IsLegal step start (h ++ entry (download_ask start.state.plugin (versions newest.facts)) (Downloaded d) ∷ [])) (low : length h < 2 ^ 62) where
  abbrev plugin : List ℕ
  plugin = start.state.plugin

  abbrev last_entry : Entry Ask AdminReply
  last_entry = entry (download_ask plugin (versions newest.facts)) (Downloaded d)

  abbrev now : Administration
  now = state_after step start h

  before : IsLegal step start h
  before = laws.begins start h (last_entry ∷ []) legal

  is_now : state_at step start h (length h) ≡ now
  is_now = sym (laws.states start h (last_entry ∷ []) (length h) (omega arith)) ∙ state_at_end step start h (last_entry ∷ [])

  down : download now plugin (from_of newest.facts) ≡ Some d
  down = document_of_step now plugin (versions newest.facts) d (ap document_of (laws.reply start h last_entry legal))

  down_there : download (state_at step start h (length h)) plugin (from_of newest.facts) ≡ Some d
  down_there = ap (λ a. download a plugin (from_of newest.facts)) is_now ∙ down

  seq : d.seq ≡ length h
  seq =
      let none = starts.count in
      let count = count_after start h (omega (arith, none)) in
      let made = seq_is now plugin (from_of newest.facts) d down in
      omega (arith, none, count, made, low)

  seen : (f : Facts) × (view (state_at step start h (length h)) plugin ≡ Some f)
  seen = laws.viewed start h starts (length h)

  first : view (state_at step start h newest.seq) plugin ≡ Some newest.facts
  first = right_viewed start h list right (length list - 1) newest last

  order : newest.seq ≤ length h
  order = right_low start h list right (length list - 1) newest last

  kept : IsNotDeleted h newest.seq (length h) plugin
  kept n e from to there = laws.stays start h starts before n e (omega arith) to there

  leads : led newest.facts d ≡ seen.0
  leads = laws.leads start h starts before newest.seq (length h) order (omega arith) plugin kept newest.facts seen.0 d first seen.1 down_there

  less : AreNoLess newest.facts seen.0
  less = laws.rise start h starts before newest.seq (length h) order (omega arith) plugin kept newest.facts seen.0 first seen.1

  unchanged : is_unchanged d ≡ same_versions (versions newest.facts) (versions seen.0)
  unchanged = laws.unchanged now plugin newest.facts seen.0 d (ap (λ a. view a plugin) (sym is_now) ∙ seen.1) down

  newer : is_unchanged d ≡ false → newest.seq < length h
  newer changed = elim (cases_lt newest.seq (length h)) [
    | inl below ↦ below
    | inr past ↦
        let same : newest.seq ≡ length h = omega (arith, past, order) in
        let facts : newest.facts ≡ seen.0 = same_Some newest.facts seen.0 (sym first ∙ ap (λ k. view (state_at step start h k) plugin) same ∙ seen.1) in
        absurd (false≢true (sym changed ∙ unchanged ∙ ap (λ f. same_versions (versions newest.facts) (versions f)) (sym facts) ∙ same_self (versions newest.facts)))
  ]

  pub told : Leads start h list d
  told = record {
    newest = newest;
    last = last;
    present = seen.0;
    viewed = ap (λ a. view a plugin) (sym is_now) ∙ seen.1;
    leads = leads;
    seq = seq;
    soundly = laws.soundly start h starts (length h) (omega arith) low plugin seen.0 seen.1;
    forward = forward newest.facts seen.0 d (has_from now.state.count newest.facts (log_at now.logs plugin) (view now plugin) d down) leads less;
    unchanged = unchanged;
    newer = newer;
  }
