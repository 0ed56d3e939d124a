use Rattle.std.proofs.Common.{◌∙◌, Contains, List, Some, map, sym, ap, subst}
use Rattle.std.specs.List.{list_all, list_any}
use Rattle.rg_defs.specs.declared.service_def.ServiceDef.{ServiceDef}
use Rattle.rg_items.specs.Accesses.{any_grants}
use Rattle.rg_delegate.specs.Accesses.{accesses}
use Rattle.rg_delegate.specs.Authority.{is_delegated}
use Rattle.rg_delegate.specs.Compiled.{DefinedPolicy, under}
use Rattle.rg_delegate.specs.Found.{Delegated, candidates, items_in}
use Rattle.rg_delegate.proofs.Finding.{all_found, candidates_suffice, policies_under, under_it}
use Rattle.rg_delegate.proofs.authority.all_delegated.Goals as goal

pub delegating_items-requires : goal.delegating_items-requires
delegating_items-requires c = λ q within.
    let view = c.delegated.view_is in
    let policies = candidates c.args.policy.now.service c.args.actor.now c.args.state.now.policies.items in
    ap (λ (a : DefinedPolicy). a.def) c.in_ok-asked.ensures
    ∙ ap (λ (d : Delegated). d.def) view
    ∙ under_it c.args.delegated.now.def policies q (subst (λ (policies : List DefinedPolicy). Contains policies q)
    (c.deref.ensures.value ∙ ap (λ (d : Delegated). d.policies) (view ∙ c.requires.delegations)) within)

pub returns-clause-answer : goal.returns-clause-answer
returns-clause-answer c =
    let s = c.args.state.now in
    let def = c.delegated.inside.def.now in
    let p = c.args.policy.now in
    let k = c.args.actor.now in
    let a = under def p in
    c.all_granted.ensures
    ∙ ap (λ found. list_all (λ access. list_any (λ item. any_grants def access item.now.accesses.items) found) (accesses def p)) c.deref-2.ensures.value
    ∙ all_found (λ item. item.now) s a k c.in_ok-items.items.items
    (c.in_ok-items.ensures.answer
    ∙ ap (λ (b : DefinedPolicy). items_in b k (map (λ q. q.policy) c.deref.result.now)) c.in_ok-asked.ensures
    ∙ ap (λ (policies : List DefinedPolicy). items_in a k (map (λ q. q.policy) policies))
    (c.deref.ensures.value ∙ ap (λ (d : Delegated). d.policies) (c.delegated.view_is ∙ c.requires.delegations))
    ∙ ap (items_in a k) (policies_under c.args.delegated.now.def (candidates p.service k s.policies.items))
    ∙ candidates_suffice a k s.policies.items)
    ∙ ap (λ (def : ServiceDef). list_all (is_delegated s def k p) (accesses def p)) (ap (λ (d : Delegated). d.def) c.delegated.view_is)
