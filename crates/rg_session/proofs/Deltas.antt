-- Documents whose deltas are applied.
use Rattle.std.proofs.Common.{◌≡◌, ◌∙◌, ◌≤◌, ◌&&◌, true, false, not, refl, ap, sym, subst}
use Rattle.std.proofs.lemmas.Bool.{false≢true}
use Rattle.rg_base.specs.Counts.{Counts}
use Rattle.rg_facts.specs.Sound.{sound}
use Rattle.rg_facts.specs.declared.facts.Facts.{Facts}
use Rattle.rg_cmd.specs.declared.download.Download.{Download}
use Rattle.rg_cmd.specs.declared.download.PolicyDelta.{PolicyDelta}
use Rattle.rg_cmd.specs.declared.download.PolicyPart.{PolicyPart}
use Rattle.rg_cmd.specs.declared.download.PolicyPart.TheVariants.{Unchanged as PoliciesUnchanged, Delta as PoliciesDelta, Whole as PoliciesWhole}
use Rattle.rg_cmd.specs.declared.download.RoleDelta.{RoleDelta}
use Rattle.rg_cmd.specs.declared.download.RolePart.{RolePart}
use Rattle.rg_cmd.specs.declared.download.RolePart.TheVariants.{Unchanged as RolesUnchanged, Whole as RolesWhole}
use Rattle.rg_cmd.specs.declared.download.TagDelta.{TagDelta}
use Rattle.rg_cmd.specs.declared.download.TagPart.{TagPart}
use Rattle.rg_cmd.specs.declared.download.TagPart.TheVariants.{Unchanged as TagsUnchanged, Delta as TagsDelta, Whole as TagsWhole}
use Rattle.rg_delta.specs.Applied.{applied}
use Rattle.rg_publish.specs.Bounds.{WorkWithin, made, pairs_of_changes}
use Rattle.rg_admin_laws.specs.Leading.{led, no_roles, policies_in, tags_in, with_policies, with_roles, with_tags}
use Rattle.rg_session.specs.Documents.{IsFit, roles_in}
use Rattle.rg_session.specs.Refreshing.{IsWithin, is_partial, is_whole_policies, is_whole_tags}

module _ (facts : Facts) where
  abbrev replaced_by : PolicyPart → TagPart → RolePart → Facts
  replaced_by p t r = with_roles (with_tags (with_policies facts p) t) r

  abbrev led_by : PolicyPart → TagPart → RolePart → Facts
  led_by p t r = applied (replaced_by p t r) (policies_in (replaced_by p t r) p) (tags_in (replaced_by p t r) t) (no_roles (replaced_by p t r))

  abbrev applied_by : PolicyPart → TagPart → RolePart → Facts
  applied_by p t r = applied facts (policies_in facts p) (tags_in facts t) (roles_in facts r)

  same_end : (p : PolicyPart) (t : TagPart) (r : RolePart) → (not (is_whole_policies p) && not (is_whole_tags t)) ≡ true → applied_by p t r ≡ led_by p t r
  same_end (PoliciesWhole w) t r partial = absurd (false≢true partial)
  same_end PoliciesUnchanged (TagsWhole w) r partial = absurd (false≢true partial)
  same_end (PoliciesDelta d) (TagsWhole w) r partial = absurd (false≢true partial)
  same_end PoliciesUnchanged TagsUnchanged RolesUnchanged partial = refl
  same_end PoliciesUnchanged TagsUnchanged (RolesWhole w) partial = refl
  same_end PoliciesUnchanged (TagsDelta e) RolesUnchanged partial = refl
  same_end PoliciesUnchanged (TagsDelta e) (RolesWhole w) partial = refl
  same_end (PoliciesDelta d) TagsUnchanged RolesUnchanged partial = refl
  same_end (PoliciesDelta d) TagsUnchanged (RolesWhole w) partial = refl
  same_end (PoliciesDelta d) (TagsDelta e) RolesUnchanged partial = refl
  same_end (PoliciesDelta d) (TagsDelta e) (RolesWhole w) partial = refl

  module _ (d : Download) (p : PolicyDelta) (t : TagDelta) (r : RoleDelta) (p_is : p ≡ policies_in facts d.policies) (t_is : t ≡ tags_in facts d.tags) (r_is : r ≡ roles_in facts d.roles) where
    pub ends_as_led : is_partial d ≡ true → applied facts p t r ≡ led facts d
    ends_as_led partial = (λ i. applied facts (p_is i) (t_is i) (r_is i)) ∙ same_end d.policies d.tags d.roles partial

    pub ends_soundly : is_partial d ≡ true → IsFit facts d → sound (applied facts p t r) ≡ true
    ends_soundly partial fit = ap sound (ends_as_led partial) ∙ fit.soundly

    pub goes_forward : IsFit facts d → (p.from.0 ≤ p.to.0) × (t.from.0 ≤ t.to.0) × (r.from.0 ≤ r.to.0)
    goes_forward fit = (
      subst (λ (x : PolicyDelta). x.from.0 ≤ x.to.0) (sym p_is) fit.forward.policies,
      subst (λ (x : TagDelta). x.from.0 ≤ x.to.0) (sym t_is) fit.forward.tags,
      subst (λ (x : RoleDelta). x.from.0 ≤ x.to.0) (sym r_is) fit.forward.roles,
    )

    pub works_within : (old new : Counts) → WorkWithin (made p.changes.items) (pairs_of_changes facts p t) old new → IsWithin facts d old new
    works_within old new work =
        subst (λ (x : TagDelta). WorkWithin (made (policies_in facts d.policies).changes.items) (pairs_of_changes facts (policies_in facts d.policies) x) old new) t_is
        (subst (λ (x : PolicyDelta). WorkWithin (made x.changes.items) (pairs_of_changes facts x t) old new) p_is work)
