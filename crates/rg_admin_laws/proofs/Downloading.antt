-- For proofs alone: the law of downloads for one service of two states, from what the service's books say.
use Rattle.std.proofs.Common.{◌≡◌, ◌≤◌, ◌-◌, ℕ, zero, suc, drop, length, eqb, Bool, true, false, cond, List, [], ◌∷◌, Option, Some, None, refl, ap, sym, ◌∙◌, subst, fold, arith}
use Rattle.std.specs.List.{list_any}
use Rattle.std.proofs.lemmas.Bool.{eqb-true}
use Rattle.std.proofs.lemmas.Option.{none-some, same_Some}
use Rattle.rg_base.specs.Listed.{Listed, listed}
use Rattle.rg_base.specs.declared.numbers.Version.{Version}
use Rattle.rg_policy.specs.declared.policy.Policy.{Policy}
use Rattle.rg_policy.specs.declared.policy.TimeZoneRow.{TimeZoneRow}
use Rattle.rg_defs.specs.declared.service_def.ServiceDef.{ServiceDef}
use Rattle.rg_roles.specs.declared.row.RoleRow.{RoleRow}
use Rattle.rg_tags.specs.declared.row.TagRow.{TagRow}
use Rattle.rg_zone_rules.specs.declared.row.ZoneRow.{ZoneRow}
use Rattle.rg_facts.specs.declared.facts.Facts.{Facts}
use Rattle.rg_cmd.specs.Lookups.{def_of, service_at}
use Rattle.rg_cmd.specs.declared.changes.Log.{Log}
use Rattle.rg_cmd.specs.declared.changes.LogEntry.{LogEntry}
use Rattle.rg_cmd.specs.declared.changes.LogEntry.TheVariants.{Policy as OfPolicy, Zones}
use Rattle.rg_cmd.specs.declared.changes.TagChange.{TagChange}
use Rattle.rg_cmd.specs.declared.download.Download.{Download}
use Rattle.rg_cmd.specs.declared.download.PolicyPart.{PolicyPart}
use Rattle.rg_cmd.specs.declared.download.PolicyPart.TheVariants.{Unchanged as PoliciesUnchanged, Delta as PoliciesDelta, Whole as PoliciesWhole}
use Rattle.rg_cmd.specs.declared.download.RolePart.{RolePart}
use Rattle.rg_cmd.specs.declared.download.RolePart.TheVariants.{Unchanged as RolesUnchanged, Whole as RolesWhole}
use Rattle.rg_cmd.specs.declared.download.TagPart.{TagPart}
use Rattle.rg_cmd.specs.declared.download.TagPart.TheVariants.{Unchanged as TagsUnchanged, Delta as TagsDelta, Whole as TagsWhole}
use Rattle.rg_cmd.specs.declared.state.ServiceRow.{ServiceRow}
use Rattle.rg_delta.specs.Applied.{policies_after, rows_after, tag_policies_after, unless_new}
use Rattle.rg_delta.specs.Chains.{IsSince, Leads}
use Rattle.rg_delta.specs.Logs.Known.{These}
use Rattle.rg_delta.proofs.Chains.{known_says}
use Rattle.rg_admin_laws.specs.Downloads.{download, download_with, is_of_zones, policy_part, policy_part_by, role_part, role_whole, tag_part, tag_part_by}
use Rattle.rg_admin_laws.specs.Laws.{from_of}
use Rattle.rg_admin_laws.specs.Leading.{led, policies_in, tags_in, with_policies, with_roles, with_tags}
use Rattle.rg_admin_laws.specs.Logs.{Administration, log_at, policy_book, tag_book}
use Rattle.rg_admin_laws.specs.Sides.{IsNoted, IsRoleNoted, IsRowNoted, PolicySide, policy_side, role_book, side_after}
use Rattle.rg_admin_laws.specs.Views.{facts_of, facts_with, tag_rows_of, view}
use Rattle.rg_admin_laws.proofs.Books.{AreSince}
use Rattle.rg_admin_laws.proofs.Lists.{case}

-- ---- many changes

pub rows_led : (x : List TagRow) (cs : List TagChange) (y : List TagRow) → Leads IsRowNoted x cs y → y ≡ fold rows_after x cs
rows_led x [] y is = sym is
rows_led x (c ∷ cs) y led = rows_led led.0 cs y led.2 ∙ ap (λ z. fold rows_after z cs) led.1

pub side_led : (x : PolicySide) (es : List LogEntry) (y : PolicySide) → Leads IsNoted x es y → y ≡ side_after y es x
side_led x [] y is = sym is
side_led x (OfPolicy c ∷ es) y led = side_led led.0 es y led.2 ∙ ap (side_after y es) led.1
side_led x (Zones ∷ es) y led =
    let later = side_led led.0 es y led.2 in
    later
    ∙ (λ i. record (side_after y es led.0) { zones = sym (ap (λ (z : PolicySide). z.zones) later) i })
    ∙ (λ i. record (side_after y es (led.1 i)) { zones = y.zones })

drop_none : {X : Type 0} (n : ℕ) (xs : List X) → length xs ≡ 0 → drop n xs ≡ xs
drop_none zero [] none = refl
drop_none (suc n) [] none = refl
drop_none n (x ∷ xs) none = absurd (omega arith)

-- ---- what a view is made of

pub record Viewed (a : Administration) (service : List ℕ) (f : Facts) : Type 0 where
  pub log : Log
  pub row : ServiceRow
  pub def : ServiceDef
  pub log_is : log_at a.logs service ≡ Some log
  pub row_is : service_at a.state service ≡ Some row
  pub def_is : def_of a.state service ≡ Some def
  pub facts_are : facts_of service a.state log row def ≡ f

pub viewed : (a : Administration) (service : List ℕ) (f : Facts) → view a service ≡ Some f → Viewed a service f
viewed a service f is = go (log_at a.logs service) (service_at a.state service) (def_of a.state service) refl refl refl is
  where
    go : (l : Option Log) (r : Option ServiceRow) (d : Option ServiceDef) → log_at a.logs service ≡ l → service_at a.state service ≡ r → def_of a.state service ≡ d
        → facts_with service a.state l r d ≡ Some f → Viewed a service f
    go None r d l_is r_is d_is h = absurd (none-some f h)
    go (Some l) None d l_is r_is d_is h = absurd (none-some f h)
    go (Some l) (Some r) None l_is r_is d_is h = absurd (none-some f h)
    go (Some l) (Some r) (Some d) l_is r_is d_is h = record { log = l; row = r; def = d; log_is = l_is; row_is = r_is; def_is = d_is; facts_are = same_Some (facts_of service a.state l r d) f h }

unless : {X : Type 0} (b : Bool) (old new : X) → unless_new old (cond b (Some new) None) ≡ cond b new old
unless true old new = refl
unless false old new = refl

-- ---- each part

-- the facts' fields of which the policy version speaks
record PolicyFields : Type 0 where
  pub fallback : Bool
  pub def : ServiceDef
  pub tag_def : Option ServiceDef
  pub policies : Listed Policy
  pub tag_policies : Listed Policy
  pub zones : Listed ZoneRow
  pub time_zones : Listed TimeZoneRow
  pub version : Version

abbrev fields_of : Facts → PolicyFields
fields_of f = record {
  fallback = f.fallback;
  def = f.def;
  tag_def = f.tag_def;
  policies = f.policies;
  tag_policies = f.tag_policies;
  zones = f.zones;
  time_zones = f.time_zones;
  version = f.policy_version;
}

-- those after a part
abbrev fields_led : Facts → PolicyPart → PolicyFields
fields_led f p = record {
  fallback = (with_policies f p).fallback;
  def = (with_policies f p).def;
  tag_def = (with_policies f p).tag_def;
  policies = listed (fold policies_after (with_policies f p).policies.items (policies_in f p).changes.items);
  tag_policies = listed (fold tag_policies_after (with_policies f p).tag_policies.items (policies_in f p).changes.items);
  zones = unless_new (with_policies f p).zones (policies_in f p).zones;
  time_zones = (with_policies f p).time_zones;
  version = (policies_in (with_policies f p) p).to;
}

-- the tag rows, and the roles, with their versions
abbrev rows_with : Facts → TagPart → Listed TagRow × Version
rows_with f t = (listed (fold rows_after (with_tags f t).tag_rows.items (tags_in f t).changes.items), (tags_in (with_tags f t) t).to)

abbrev roles_with : Facts → RolePart → Listed RoleRow × Version
roles_with f r = ((with_roles f r).roles, (with_roles f r).role_version)

abbrev made_of : List ℕ → PolicyFields → Listed TagRow × Version → Listed RoleRow × Version → Facts
made_of service p t r = record {
  service = service;
  fallback = p.fallback;
  def = p.def;
  tag_def = p.tag_def;
  policies = p.policies;
  tag_policies = p.tag_policies;
  zones = p.zones;
  roles = r.0;
  tag_rows = t.0;
  time_zones = p.time_zones;
  policy_version = p.version;
  tag_version = t.1;
  role_version = r.1;
}

-- each part has its own fields
parts_are : (f : Facts) (seq : ℕ) (p : PolicyPart) (t : TagPart) (r : RolePart)
    → led f (record { seq = seq; policies = p; tags = t; roles = r }) ≡ made_of f.service (fields_led f p) (rows_with f t) (roles_with f r)
parts_are f seq PoliciesUnchanged TagsUnchanged RolesUnchanged = refl
parts_are f seq PoliciesUnchanged TagsUnchanged (RolesWhole r) = refl
parts_are f seq PoliciesUnchanged (TagsDelta t) RolesUnchanged = refl
parts_are f seq PoliciesUnchanged (TagsDelta t) (RolesWhole r) = refl
parts_are f seq PoliciesUnchanged (TagsWhole t) RolesUnchanged = refl
parts_are f seq PoliciesUnchanged (TagsWhole t) (RolesWhole r) = refl
parts_are f seq (PoliciesDelta p) TagsUnchanged RolesUnchanged = refl
parts_are f seq (PoliciesDelta p) TagsUnchanged (RolesWhole r) = refl
parts_are f seq (PoliciesDelta p) (TagsDelta t) RolesUnchanged = refl
parts_are f seq (PoliciesDelta p) (TagsDelta t) (RolesWhole r) = refl
parts_are f seq (PoliciesDelta p) (TagsWhole t) RolesUnchanged = refl
parts_are f seq (PoliciesDelta p) (TagsWhole t) (RolesWhole r) = refl
parts_are f seq (PoliciesWhole p) TagsUnchanged RolesUnchanged = refl
parts_are f seq (PoliciesWhole p) TagsUnchanged (RolesWhole r) = refl
parts_are f seq (PoliciesWhole p) (TagsDelta t) RolesUnchanged = refl
parts_are f seq (PoliciesWhole p) (TagsDelta t) (RolesWhole r) = refl
parts_are f seq (PoliciesWhole p) (TagsWhole t) RolesUnchanged = refl
parts_are f seq (PoliciesWhole p) (TagsWhole t) (RolesWhole r) = refl

module _ (early late : Administration) (service : List ℕ) (l k : Log) (r q : ServiceRow) (d e : ServiceDef)
    (row_is : service_at early.state service ≡ Some r) (def_is : def_of early.state service ≡ Some d)
    (row_was : service_at late.state service ≡ Some q) (def_was : def_of late.state service ≡ Some e) where
  abbrev before : Facts
  before = facts_of service early.state l r d

  abbrev after : Facts
  after = facts_of service late.state k q e

  pub policies_lead : IsSince IsNoted l.policy_version.0 (policy_side early.state service) (policy_book k) (policy_side late.state service)
      → fields_led before (policy_part after (policy_book k) (Some l.policy_version)) ≡ fields_of after
  policies_lead since =
      known_says IsNoted (λ known. fields_led before (policy_part_by after l.policy_version known) ≡ fields_of after) l.policy_version.0 (policy_side early.state service) (policy_book k) (policy_side late.state service) since
      (λ version same. unchanged version same) (λ es lead. changed es (side_led (policy_side early.state service) es (policy_side late.state service) lead)) refl
    where
      x : PolicySide
      x = policy_side early.state service

      y : PolicySide
      y = policy_side late.state service

      row_same : x.row ≡ y.row → r ≡ q
      row_same h = same_Some r q (sym row_is ∙ h ∙ row_was)

      def_same : x.def ≡ y.def → d ≡ e
      def_same h = same_Some d e (sym def_is ∙ h ∙ def_was)

      unchanged : l.policy_version.0 ≡ k.policy_version.0 → x ≡ y → fields_led before PoliciesUnchanged ≡ fields_of after
      unchanged version same = λ i. record {
        fallback = (row_same (ap (λ (z : PolicySide). z.row) same) i).fallback;
        def = def_same (ap (λ (z : PolicySide). z.def) same) i;
        tag_def = (same i).tag_def;
        policies = listed (same i).policies;
        tag_policies = listed (same i).tag_policies;
        zones = (same i).zones;
        time_zones = (same i).time_zones;
        version = record { 0 = version i };
      }

      changed : (es : List LogEntry) → y ≡ side_after y es x → fields_led before (policy_part_by after l.policy_version (These es)) ≡ fields_of after
      changed es is = λ i. record {
        fallback = (row_same (sym (ap (λ (z : PolicySide). z.row) is)) i).fallback;
        def = def_same (sym (ap (λ (z : PolicySide). z.def) is)) i;
        tag_def = sym (ap (λ (z : PolicySide). z.tag_def) is) i;
        policies = listed (sym (ap (λ (z : PolicySide). z.policies) is) i);
        tag_policies = listed (sym (ap (λ (z : PolicySide). z.tag_policies) is) i);
        zones = (unless (list_any is_of_zones es) x.zones y.zones ∙ sym (ap (λ (z : PolicySide). z.zones) is)) i;
        time_zones = sym (ap (λ (z : PolicySide). z.time_zones) is) i;
        version = k.policy_version;
      }

  pub tags_lead : IsSince IsRowNoted l.tag_version.0 (tag_rows_of early.state service) (tag_book k) (tag_rows_of late.state service)
      → rows_with before (tag_part after (tag_book k) (Some l.tag_version)) ≡ (after.tag_rows, after.tag_version)
  tags_lead since =
      known_says IsRowNoted (λ known. rows_with before (tag_part_by after l.tag_version known) ≡ (after.tag_rows, after.tag_version)) l.tag_version.0 (tag_rows_of early.state service) (tag_book k) (tag_rows_of late.state service) since
      (λ version same. λ i. (listed (same i), record { 0 = version i }))
      (λ cs lead. λ i. (listed (sym (rows_led (tag_rows_of early.state service) cs (tag_rows_of late.state service) lead) i), k.tag_version))
      refl

  -- where the version is the present one, no role changed
  pub roles_lead : IsSince IsRoleNoted early.state.role_version.0 early.state.roles (role_book late.state) late.state.roles
      → roles_with before (role_part after (Some early.state.role_version)) ≡ (after.roles, after.role_version)
  roles_lead since = case (λ b. eqb early.state.role_version.0 late.state.role_version.0 ≡ b → roles_with before (cond b RolesUnchanged (RolesWhole (role_whole after))) ≡ (after.roles, after.role_version))
      (eqb early.state.role_version.0 late.state.role_version.0)
      (λ _ is. let same = eqb-true early.state.role_version.0 late.state.role_version.0 is in let none : late.state.role_version.0 - early.state.role_version.0 ≤ 0 = omega (arith, same) in
      let lead = subst (λ cs. Leads IsRoleNoted early.state.roles cs late.state.roles) (drop_none (0 - (late.state.role_version.0 - early.state.role_version.0)) (role_book late.state).changes refl) (since.led none) in
      λ i. (lead i, record { 0 = same i }))
      (λ _ _. refl)
      refl

-- ---- the law

-- where the books lead from the early state to the late one, the download leads from the early view to the late one
pub leads_to_view : (early late : Administration) (service : List ℕ) (first last : Facts) (d : Download) → view early service ≡ Some first → view late service ≡ Some last
    → AreSince early first.policy_version.0 first.tag_version.0 first.role_version.0 service late → download late service (from_of first) ≡ Some d → led first d ≡ last
leads_to_view early late service first last d first_is last_is since d_is =
    ap (led first) (sym given) ∙ subst (λ f. Holds f last) v.facts_are (subst (λ g. Holds (facts_of service early.state v.log v.row v.def) g) w.facts_are whole)
  where
    v : Viewed early service first
    v = viewed early service first first_is

    w : Viewed late service last
    w = viewed late service last last_is

    -- the download, by the facts from which and to which it leads
    given_by : Facts → Facts → Download
    given_by f g = record {
      seq = late.state.count;
      policies = policy_part g (policy_book w.log) (Some f.policy_version);
      tags = tag_part g (tag_book w.log) (Some f.tag_version);
      roles = role_part g (Some f.role_version);
    }

    Holds : Facts → Facts → Type 0
    Holds f g = led f (given_by f g) ≡ g

    given : given_by first last ≡ d
    given = same_Some (given_by first last) d (sym (λ i. download_with late.state.count (from_of first) (w.log_is i) (last_is i)) ∙ d_is)

    late_log : since.log ≡ w.log
    late_log = same_Some since.log w.log (sym since.found ∙ w.log_is)

    start : Facts
    start = facts_of service early.state v.log v.row v.def

    end : Facts
    end = facts_of service late.state w.log w.row w.def

    policies : IsSince IsNoted v.log.policy_version.0 (policy_side early.state service) (policy_book w.log) (policy_side late.state service)
    policies = subst (λ (m : Log). IsSince IsNoted v.log.policy_version.0 (policy_side early.state service) (policy_book m) (policy_side late.state service)) late_log
        (subst (λ (f : Facts). IsSince IsNoted f.policy_version.0 (policy_side early.state service) (policy_book since.log) (policy_side late.state service)) (sym v.facts_are) since.policy_since)

    tags : IsSince IsRowNoted v.log.tag_version.0 (tag_rows_of early.state service) (tag_book w.log) (tag_rows_of late.state service)
    tags = subst (λ (m : Log). IsSince IsRowNoted v.log.tag_version.0 (tag_rows_of early.state service) (tag_book m) (tag_rows_of late.state service)) late_log
        (subst (λ (f : Facts). IsSince IsRowNoted f.tag_version.0 (tag_rows_of early.state service) (tag_book since.log) (tag_rows_of late.state service)) (sym v.facts_are) since.tag_since)

    roles : IsSince IsRoleNoted early.state.role_version.0 early.state.roles (role_book late.state) late.state.roles
    roles = subst (λ (f : Facts). IsSince IsRoleNoted f.role_version.0 early.state.roles (role_book late.state) late.state.roles) (sym v.facts_are) since.role_since

    whole : Holds start end
    whole = parts_are start late.state.count (policy_part end (policy_book w.log) (Some v.log.policy_version)) (tag_part end (tag_book w.log) (Some v.log.tag_version)) (role_part end (Some early.state.role_version))
        ∙ (λ i. made_of service
        (policies_lead early late service v.log w.log v.row w.row v.def w.def v.row_is v.def_is w.row_is w.def_is policies i)
        (tags_lead early late service v.log w.log v.row w.row v.def w.def v.row_is v.def_is w.row_is w.def_is tags i)
        (roles_lead early late service v.log w.log v.row w.row v.def w.def v.row_is v.def_is w.row_is w.def_is roles i))
