-- For proofs alone: facts whose policies, tag rows and roles are those of three other facts, and the parts of a download to which
-- each of the three is led.
use Rattle.std.proofs.Common.{◌≡◌, ◌&&◌, ℕ, true, refl, ap, sym, ◌∙◌}
use Rattle.std.proofs.lemmas.Bool.{false≢true}
use Rattle.rg_facts.specs.declared.facts.Facts.{Facts}
use Rattle.rg_cmd.specs.declared.download.Download.{Download}
use Rattle.rg_cmd.specs.declared.download.PolicyPart.{PolicyPart}
use Rattle.rg_cmd.specs.declared.download.PolicyPart.TheVariants.{Unchanged as PoliciesUnchanged, Delta as PoliciesDelta, Whole as PoliciesWhole}
use Rattle.rg_cmd.specs.declared.download.RolePart.{RolePart}
use Rattle.rg_cmd.specs.declared.download.RolePart.TheVariants.{Unchanged as RolesUnchanged, Whole as RolesWhole}
use Rattle.rg_cmd.specs.declared.download.TagPart.{TagPart}
use Rattle.rg_cmd.specs.declared.download.TagPart.TheVariants.{Unchanged as TagsUnchanged, Delta as TagsDelta, Whole as TagsWhole}
use Rattle.rg_admin_laws.specs.Leading.{led}
use Rattle.rg_admin_laws.specs.Machine.{is_unchanged, same_policies, same_roles, same_tags}

-- the first's facts, with the second's tag rows and the third's roles
abbrev pub mixed : Facts → Facts → Facts → Facts
mixed p t r = record p { roles = r.roles; tag_rows = t.tag_rows; tag_version = t.tag_version; role_version = r.role_version }

-- ---- downloads of one part, and of none

abbrev pub only_policies : PolicyPart → Download
only_policies p = record { seq = 0; policies = p; tags = TagsUnchanged; roles = RolesUnchanged }

abbrev pub only_tags : TagPart → Download
only_tags t = record { seq = 0; policies = PoliciesUnchanged; tags = t; roles = RolesUnchanged }

abbrev pub only_roles : RolePart → Download
only_roles r = record { seq = 0; policies = PoliciesUnchanged; tags = TagsUnchanged; roles = r }

abbrev pub nothing : Download
nothing = record { seq = 0; policies = PoliciesUnchanged; tags = TagsUnchanged; roles = RolesUnchanged }

-- ---- each part leads its own fields

pub apart : (f g k : Facts) (seq : ℕ) (p : PolicyPart) (t : TagPart) (r : RolePart)
    → led (mixed f g k) (record { seq = seq; policies = p; tags = t; roles = r }) ≡ mixed (led f (only_policies p)) (led g (only_tags t)) (led k (only_roles r))
apart f g k seq PoliciesUnchanged TagsUnchanged RolesUnchanged = refl
apart f g k seq PoliciesUnchanged TagsUnchanged (RolesWhole r) = refl
apart f g k seq PoliciesUnchanged (TagsDelta t) RolesUnchanged = refl
apart f g k seq PoliciesUnchanged (TagsDelta t) (RolesWhole r) = refl
apart f g k seq PoliciesUnchanged (TagsWhole t) RolesUnchanged = refl
apart f g k seq PoliciesUnchanged (TagsWhole t) (RolesWhole r) = refl
apart f g k seq (PoliciesDelta p) TagsUnchanged RolesUnchanged = refl
apart f g k seq (PoliciesDelta p) TagsUnchanged (RolesWhole r) = refl
apart f g k seq (PoliciesDelta p) (TagsDelta t) RolesUnchanged = refl
apart f g k seq (PoliciesDelta p) (TagsDelta t) (RolesWhole r) = refl
apart f g k seq (PoliciesDelta p) (TagsWhole t) RolesUnchanged = refl
apart f g k seq (PoliciesDelta p) (TagsWhole t) (RolesWhole r) = refl
apart f g k seq (PoliciesWhole p) TagsUnchanged RolesUnchanged = refl
apart f g k seq (PoliciesWhole p) TagsUnchanged (RolesWhole r) = refl
apart f g k seq (PoliciesWhole p) (TagsDelta t) RolesUnchanged = refl
apart f g k seq (PoliciesWhole p) (TagsDelta t) (RolesWhole r) = refl
apart f g k seq (PoliciesWhole p) (TagsWhole t) RolesUnchanged = refl
apart f g k seq (PoliciesWhole p) (TagsWhole t) (RolesWhole r) = refl

-- where a download leads from some facts to others, each of its parts alone leads its own fields there
module _ (f g : Facts) (d : Download) (leads : led f d ≡ g) where
  each : mixed (led f (only_policies d.policies)) (led f (only_tags d.tags)) (led f (only_roles d.roles)) ≡ g
  each = sym (apart f f f d.seq d.policies d.tags d.roles) ∙ leads

  pub policies_lead : (t r : Facts) → mixed (led f (only_policies d.policies)) t r ≡ mixed g t r
  policies_lead t r = ap (λ x. mixed x t r) each

  pub tags_lead : (p r : Facts) → mixed p (led f (only_tags d.tags)) r ≡ mixed p g r
  tags_lead p r = ap (λ x. mixed p x r) each

  pub roles_lead : (p t : Facts) → mixed p t (led f (only_roles d.roles)) ≡ mixed p t g
  roles_lead p t = ap (λ x. mixed p t x) each

-- ---- where nothing changed

unchanged_parts : (seq : ℕ) (p : PolicyPart) (t : TagPart) (r : RolePart) → (same_policies p && (same_tags t && same_roles r)) ≡ true
    → (f : Facts) → led f (record { seq = seq; policies = p; tags = t; roles = r }) ≡ led f nothing
unchanged_parts seq PoliciesUnchanged TagsUnchanged RolesUnchanged is f = refl
unchanged_parts seq PoliciesUnchanged TagsUnchanged (RolesWhole r) is f = absurd (false≢true is)
unchanged_parts seq PoliciesUnchanged (TagsDelta t) r is f = absurd (false≢true is)
unchanged_parts seq PoliciesUnchanged (TagsWhole t) r is f = absurd (false≢true is)
unchanged_parts seq (PoliciesDelta p) t r is f = absurd (false≢true is)
unchanged_parts seq (PoliciesWhole p) t r is f = absurd (false≢true is)

pub unchanged_leads : (d : Download) → is_unchanged d ≡ true → (f : Facts) → led f d ≡ led f nothing
unchanged_leads d is f = unchanged_parts d.seq d.policies d.tags d.roles is f
