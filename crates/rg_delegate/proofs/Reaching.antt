-- Who may administer a policy may administer one that it covers.
use Rattle.std.proofs.Common.{◌≡◌, ◌&&◌, not, ℕ, true, false, List, Contains, Option, Some, sym, ap, ◌∙◌}
use Rattle.std.proofs.lemmas.Bool.{and_parts, and_from}
use Rattle.std.specs.List.{list_all, list_any}
use Rattle.std.specs.Option.{option_map_or}
use Rattle.std.specs.Ordering.{int_eq}
use Rattle.std.specs.Str.{bytes_eq}
use Rattle.rg_base.proofs.Lists.{any_from, any_holds}
use Rattle.rg_base.specs.Texts.{is_empty}
use Rattle.rg_cmd.specs.declared.state.State.{State}
use Rattle.rg_defs.specs.declared.service_def.ServiceDef.{ServiceDef}
use Rattle.rg_policy.specs.Kinds.{access_policy}
use Rattle.rg_policy.specs.declared.policy.Policy.{Policy}
use Rattle.rg_delegate.specs.Accesses.{accesses}
use Rattle.rg_delegate.specs.Authority.{admins_of, delegates_to, is_admin, is_delegated, known, may, may_by_delegation, may_delegate, named, named_in_zone}
use Rattle.rg_delegate.specs.Covering.{policy_covers}
use Rattle.rg_delegate.specs.Laws.{every_resource, writes_star}
use Rattle.rg_cmd.specs.Lookups.{def_of, zone_at}
use Rattle.rg_delegate.specs.Ready.{IsReady}
use Rattle.rg_delegate.proofs.Finding.{of_its_service, policies_fit}
use Rattle.rg_delegate.proofs.Keeping.{delegation_reaches, one_of_three}
use Rattle.rg_delegate.proofs.Maps.{policy_third}
use Rattle.rg_delegate.proofs.Patterns.{CoversLaw}

module _ (law : CoversLaw) (s : State) (actor : List ℕ) (p other : Policy) (def : ServiceDef) (ready : IsReady s) (known_def : def_of s p.service ≡ Some def)
    (starry : (q : Policy) → Contains s.policies.items q → may_delegate p q ≡ true → every_resource (writes_star def) q ≡ true)
    (service : other.service ≡ p.service) (zone : other.zone ≡ p.zone) (covered : policy_covers def p other ≡ true) where
  same_candidates : (q : Policy) → may_delegate p q ≡ may_delegate other q
  same_candidates q =
      ap (λ name. q.enabled && (int_eq q.policy_type access_policy && (bytes_eq q.service name && bytes_eq q.zone p.zone))) (sym service)
      ∙ ap (λ name. q.enabled && (int_eq q.policy_type access_policy && (bytes_eq q.service other.service && bytes_eq q.zone name))) (sym zone)

  also_delegated : (access : List ℕ) → is_delegated s def (known s actor) p access ≡ true → is_delegated s def (known s actor) other access ≡ true
  also_delegated access h =
      let items = λ (q : Policy). list_any (delegates_to def (known s actor) access) q.items.items in
      let q = any_holds (λ q. may_delegate p q && (items q && policy_covers def q p)) s.policies.items h in
      let one = and_parts (may_delegate p q.0) (items q.0 && policy_covers def q.0 p) q.2 in
      let two = and_parts (items q.0) (policy_covers def q.0 p) one.1 in
      any_from (λ q. may_delegate other q && (items q && policy_covers def q other)) s.policies.items q.0 q.1
      (and_from _ _ (sym (same_candidates q.0) ∙ one.0) (and_from _ _ two.0
      (policy_third law def q.0 p other (policies_fit s p.service def ready known_def q.0 q.1 (of_its_service p q.0 one.0)).0 (starry q.0 q.1 one.0) two.1 covered)))

  in_its_zone : named_in_zone admins_of s actor p ≡ true → named_in_zone admins_of s actor other ≡ true
  in_its_zone h = ap (λ name. not (is_empty name) && option_map_or (λ z. named (known s actor) (admins_of z)) (zone_at s name) false) zone ∙ h

  by_delegation : ((access : List ℕ) → Contains (accesses def other) access → Contains (accesses def p) access) → may_by_delegation s actor p ≡ true → may_by_delegation s actor other ≡ true
  by_delegation fewer h =
      let each = λ (r : Policy). λ (d : ServiceDef). list_all (is_delegated s d (known s actor) r) (accesses d r) in
      ap (λ (o : Option ServiceDef). option_map_or (each other) o false) (ap (def_of s) service ∙ known_def)
      ∙ delegation_reaches s s (known s actor) p other def fewer also_delegated
      (ap (λ (o : Option ServiceDef). option_map_or (each p) o false) (sym known_def) ∙ h)

  pub may_too : ((access : List ℕ) → Contains (accesses def other) access → Contains (accesses def p) access) → may s actor p ≡ true → may s actor other ≡ true
  may_too fewer h =
      one_of_three (is_admin s actor) (named_in_zone admins_of s actor p) (may_by_delegation s actor p) (is_admin s actor) (named_in_zone admins_of s actor other) (may_by_delegation s actor other)
      (λ x. x) in_its_zone (by_delegation fewer) h
