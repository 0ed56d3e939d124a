-- A service's plugin asks each policy of the service.
use Rattle.std.proofs.Common.{◌≡◌, ℕ, true, List, Option, Some, None, Contains, subst}
use Rattle.std.specs.List.{flat_map}
use Rattle.std.proofs.lemmas.List.Elements.{Contains-append_right}
use Rattle.std.proofs.lemmas.Option.{none-some, same_Some}
use Rattle.rg_base.proofs.Lists.{Contains-filter, Contains-map}
use Rattle.rg_policy.specs.declared.policy.Policy.{Policy}
use Rattle.rg_policy.specs.declared.request.AccessRequest.{AccessRequest}
use Rattle.rg_defs.specs.declared.service_def.ServiceDef.{ServiceDef}
use Rattle.rg_evalr.specs.declared.frame.Side.TheVariants.{Resource}
use Rattle.rg_facts.specs.Candidates.{candidate, candidates, frame_of, resource_candidates, tag_candidates, tags_of}
use Rattle.rg_facts.specs.declared.facts.Facts.{Facts}
use Rattle.rg_cmd.specs.Lookups.{def_of, is_of, service_at}
use Rattle.rg_cmd.specs.declared.changes.Log.{Log}
use Rattle.rg_cmd.specs.declared.state.ServiceRow.{ServiceRow}
use Rattle.rg_cmd.specs.declared.state.State.{State}
use Rattle.rg_admin_laws.specs.Logs.{Administration, log_at}
use Rattle.rg_admin_laws.specs.Views.{facts_of, facts_with, view}

asked_in : (facts : Facts) (q : AccessRequest) (p : Policy) → Contains facts.policies.items p → Contains (candidates facts q) (candidate (frame_of facts) Resource None p)
asked_in facts q p there =
    Contains-append_right (flat_map (tag_candidates facts) (tags_of facts q)) (resource_candidates facts) (candidate (frame_of facts) Resource None p)
    (Contains-map (candidate (frame_of facts) Resource None) facts.policies.items p there)

seen_with : (service : List ℕ) (s : State) (p : Policy) → Contains s.policies.items p → is_of service p ≡ true
    → (o : Option Log) (r : Option ServiceRow) (d : Option ServiceDef) (facts : Facts) → facts_with service s o r d ≡ Some facts → Contains facts.policies.items p
seen_with service s p there own None r d facts is = absurd (none-some facts is)
seen_with service s p there own (Some l) None d facts is = absurd (none-some facts is)
seen_with service s p there own (Some l) (Some r) None facts is = absurd (none-some facts is)
seen_with service s p there own (Some l) (Some r) (Some d) facts is =
    subst (λ (f : Facts). Contains f.policies.items p) (same_Some (facts_of service s l r d) facts is) (Contains-filter (is_of service) s.policies.items p there own)

pub asked_of : (a : Administration) (service : List ℕ) (p : Policy) → Contains a.state.policies.items p → is_of service p ≡ true
    → (facts : Facts) (q : AccessRequest) → view a service ≡ Some facts → Contains (candidates facts q) (candidate (frame_of facts) Resource None p)
asked_of a service p there own facts q is =
    asked_in facts q p (seen_with service a.state p there own (log_at a.logs service) (service_at a.state service) (def_of a.state service) facts is)
