-- What a plugin makes of the downloads that it asks for. The routes tell each part alone and no seq, so here a download is what three
-- questions found, one after another: for the policies, the tag rows and the roles.
use Rattle.std.specs.Prelude.{◌≡◌, ℕ, ◌==◌, ◌&&◌, nat_le, Bool, true, false, List, [], ◌∷◌, Option, Some, None}
use Rattle.rg_base.specs.declared.numbers.Version.{Version}
use Rattle.rg_facts.specs.declared.facts.Facts.{Facts}
use Rattle.rg_cmd.specs.declared.download.Download.{Download}
use Rattle.rg_cmd.specs.declared.download.PolicyPart.{PolicyPart}
use Rattle.rg_cmd.specs.declared.download.PolicyPart.TheVariants.{Unchanged as PoliciesUnchanged, Delta as PoliciesDelta, Whole as PoliciesWhole}
use Rattle.rg_cmd.specs.declared.download.PolicyWhole.{PolicyWhole}
use Rattle.rg_cmd.specs.declared.download.RolePart.{RolePart}
use Rattle.rg_cmd.specs.declared.download.RolePart.TheVariants.{Unchanged as RolesUnchanged, Whole as RolesWhole}
use Rattle.rg_cmd.specs.declared.download.RoleWhole.{RoleWhole}
use Rattle.rg_cmd.specs.declared.download.TagPart.{TagPart}
use Rattle.rg_cmd.specs.declared.download.TagPart.TheVariants.{Unchanged as TagsUnchanged, Delta as TagsDelta, Whole as TagsWhole}
use Rattle.rg_cmd.specs.declared.download.TagWhole.{TagWhole}
use Rattle.rg_admin_laws.specs.Leading.{led}
use Rattle.rg_admin_laws.specs.Machine.{is_unchanged}

-- ---- deltas that fit

-- the changes begin at this version, and don't go back
abbrev pub goes_on : Version → Version → Version → Bool
goes_on had from to = from.0 == had.0 && nat_le from.0 to.0

abbrev pub policies_fit : Version → PolicyPart → Bool
policies_fit had PoliciesUnchanged = true
policies_fit had (PoliciesDelta delta) = goes_on had delta.from delta.to
policies_fit had (PoliciesWhole whole) = true

abbrev pub tags_fit : Version → TagPart → Bool
tags_fit had TagsUnchanged = true
tags_fit had (TagsDelta delta) = goes_on had delta.from delta.to
tags_fit had (TagsWhole whole) = true

-- the deltas of the download begin at the versions of these facts
abbrev pub fits : Facts → Download → Bool
fits facts d = policies_fit facts.policy_version d.policies && tags_fit facts.tag_version d.tags

-- ---- the first download

abbrev pub facts_of : List ℕ → PolicyWhole → TagWhole → RoleWhole → Facts
facts_of service policies tags roles = record {
  service = service;
  fallback = policies.fallback;
  def = policies.def;
  tag_def = policies.tag_def;
  policies = policies.policies;
  tag_policies = policies.tag_policies;
  zones = policies.zones;
  roles = roles.roles;
  tag_rows = tags.rows;
  time_zones = policies.time_zones;
  policy_version = policies.version;
  tag_version = tags.version;
  role_version = roles.version;
}

abbrev pub begun_with : List ℕ → PolicyPart → TagPart → RolePart → Option Facts
begun_with service (PoliciesWhole p) (TagsWhole t) (RolesWhole r) = Some (facts_of service p t r)
begun_with service (PoliciesWhole p) (TagsWhole t) RolesUnchanged = None
begun_with service (PoliciesWhole p) TagsUnchanged roles = None
begun_with service (PoliciesWhole p) (TagsDelta t) roles = None
begun_with service PoliciesUnchanged tags roles = None
begun_with service (PoliciesDelta p) tags roles = None

-- the facts of a download whose parts are whole
abbrev pub begun : List ℕ → Download → Option Facts
begun service d = begun_with service d.policies d.tags d.roles

-- ---- rounds

-- Downloads from these facts, one after another: each but the last changes something and fits what the ones before it led to, and the
-- last finds nothing changed. So it stands still there, at these other facts.
abbrev pub Settles : Facts → List Download → Facts → Type 0
Settles facts [] after = ⊥
Settles facts (d ∷ []) after = (is_unchanged d ≡ true) × (after ≡ facts)
Settles facts (d ∷ e ∷ ds) after = (is_unchanged d ≡ false) × (fits facts d ≡ true) × Settles (led facts d) (e ∷ ds) after

-- the same where nothing is had
abbrev pub SettlesAnew : List ℕ → List Download → Facts → Type 0
SettlesAnew service [] after = ⊥
SettlesAnew service (d ∷ ds) after = (facts : Facts) × (begun service d ≡ Some facts) × Settles facts ds after
