-- The items that were found grant an access exactly where it is delegated.
use Rattle.std.proofs.Common.{◌≡◌, ◌&&◌, ◌||◌, ℕ, Bool, true, false, cond, if◌then◌else◌, List, [], ◌∷◌, ◌++◌, map, filter, Option, Some, None, option_and_then, Contains, refl, sym, ap, ◌∙◌, subst}
use Rattle.std.proofs.lemmas.Bool.{and_parts, and_from, false_from_ne_true, false≢true}
use Rattle.std.proofs.lemmas.Option.{none-some}
use Rattle.std.specs.Prelude.{ℤ}
use Rattle.std.proofs.lemmas.Slice.Eq.{bytes_eq-Decides}
use Rattle.std.specs.List.{list_all, list_any}
use Rattle.std.specs.Ordering.{int_eq}
use Rattle.std.specs.Str.{bytes_eq}
use Rattle.rg_base.proofs.Lists.{Contains-filter, Contains-filtered, Contains-flat_map, Contains-flat_mapped, Contains-mapped, Contains-none, any_from, any_holds, find_contained, list_any-map, same_truth}
use Rattle.rg_cmd.specs.declared.state.ServiceRow.{ServiceRow}
use Rattle.rg_cmd.specs.declared.state.State.{State}
use Rattle.rg_defs.specs.Rules.{def_fault}
use Rattle.rg_defs.specs.declared.service_def.ServiceDef.{ServiceDef}
use Rattle.rg_items.specs.Accesses.{any_grants}
use Rattle.rg_policy.specs.declared.policy.Item.{Item}
use Rattle.rg_policy.specs.declared.policy.Policy.{Policy}
use Rattle.rg_policy.specs.Kinds.{access_policy}
use Rattle.rg_delegate.specs.Accesses.{accesses}
use Rattle.rg_delegate.specs.Authority.{Known, delegates, delegates_to, is_delegated, may_delegate, named}
use Rattle.rg_delegate.specs.Covering.{policy_covers}
use Rattle.rg_delegate.specs.Compiled.{DefinedPolicy, under}
use Rattle.rg_delegate.specs.Found.{FitUnder, candidates, delegates_anything, delegates_some, is_candidate, is_wanted, items_in, items_of}
use Rattle.rg_cmd.specs.Lookups.{def_at, def_of, is_of, policy_at, service_at}
use Rattle.rg_delegate.specs.Ready.{Fits, IsReady}
use Rattle.rg_delegate.proofs.Members.{agree_all}

-- ---- one access

pub chosen : {X : Type 0} (b : Bool) (xs : List X) (x : X) → Contains (if b then xs else []) x → (b ≡ true) × Contains xs x
chosen true xs x h = (refl, h)
chosen false xs x h = absurd (Contains-none x h)

taken : {X : Type 0} (b : Bool) (xs : List X) (x : X) → b ≡ true → Contains xs x → Contains (if b then xs else []) x
taken b xs x e h = subst (λ b. Contains (if b then xs else []) x) (sym e) h

module _ (a : DefinedPolicy) (k : Known) (access : List ℕ) where
  abbrev IsItem : Item → Bool
  IsItem i = any_grants a.def access i.accesses.items

  abbrev IsPolicy : Policy → Bool
  IsPolicy q = may_delegate a.policy q && (list_any (delegates_to a.def k access) q.items.items && policy_covers a.def q a.policy)

  from_item : (policies : List Policy) → list_any IsItem (items_in a k policies) ≡ true → list_any IsPolicy policies ≡ true
  from_item policies h =
      let i = any_holds IsItem (items_in a k policies) h in
      let q = Contains-flat_mapped (items_of a k) policies i.0 i.1 in
      let c = chosen (may_delegate a.policy q.0 && policy_covers a.def q.0 a.policy) (filter (delegates_some a k) q.0.items.items) i.0 q.2 in
      let may = and_parts (may_delegate a.policy q.0) (policy_covers a.def q.0 a.policy) c.0 in
      let f = Contains-filtered (delegates_some a k) q.0.items.items i.0 c.1 in
      let one = and_parts i.0.delegate (is_wanted a i.0.accesses.items && named k (delegates k.name i.0)) f.1 in
      let two = and_parts (is_wanted a i.0.accesses.items) (named k (delegates k.name i.0)) one.1 in
      any_from IsPolicy policies q.0 q.1 (and_from _ _ may.0 (and_from _ _
      (any_from (delegates_to a.def k access) q.0.items.items i.0 f.0 (and_from _ _ one.0 (and_from _ _ i.2 two.1)))
      may.1))

  from_policy : Contains (accesses a.def a.policy) access → (policies : List Policy) → list_any IsPolicy policies ≡ true → list_any IsItem (items_in a k policies) ≡ true
  from_policy asked policies h =
      let q = any_holds IsPolicy policies h in
      let one = and_parts (may_delegate a.policy q.0) (list_any (delegates_to a.def k access) q.0.items.items && policy_covers a.def q.0 a.policy) q.2 in
      let two = and_parts (list_any (delegates_to a.def k access) q.0.items.items) (policy_covers a.def q.0 a.policy) one.1 in
      let i = any_holds (delegates_to a.def k access) q.0.items.items two.0 in
      let three = and_parts i.0.delegate (any_grants a.def access i.0.accesses.items && named k (delegates k.name i.0)) i.2 in
      let four = and_parts (any_grants a.def access i.0.accesses.items) (named k (delegates k.name i.0)) three.1 in
      let wanted = any_from (λ access. any_grants a.def access i.0.accesses.items) (accesses a.def a.policy) access asked four.0 in
      any_from IsItem (items_in a k policies) i.0
      (Contains-flat_map (items_of a k) policies q.0 i.0 q.1 (taken (may_delegate a.policy q.0 && policy_covers a.def q.0 a.policy) _ i.0 (and_from _ _ one.0 two.1)
      (Contains-filter (delegates_some a k) q.0.items.items i.0 i.1 (and_from _ _ three.0 (and_from _ _ wanted four.1)))))
      four.0

  pub access_found : Contains (accesses a.def a.policy) access → (policies : List Policy) → list_any IsItem (items_in a k policies) ≡ list_any IsPolicy policies
  access_found asked policies = same_truth _ _ (from_item policies) (from_policy asked policies)

-- ---- a policy that gives no item

none_pass : {X : Type 0} (p : X → Bool) (xs : List X) → list_any p xs ≡ false → filter p xs ≡ []
none_pass p [] h = refl
none_pass p (x ∷ xs) h = at (p x) h (none_pass p xs) where
  at : (b : Bool) → (b || list_any p xs) ≡ false → (list_any p xs ≡ false → filter p xs ≡ []) → cond b (x ∷ filter p xs) (filter p xs) ≡ []
  at true k rest = absurd (false≢true (sym k))
  at false k rest = rest k

-- a policy that is no candidate gives no item
none_of_others : (a : DefinedPolicy) (k : Known) (q : Policy) → is_candidate a.policy.service k q ≡ false → items_of a k q ≡ []
none_of_others a k q h = at (may_delegate a.policy q && policy_covers a.def q a.policy) refl where
  at : (b : Bool) → (may_delegate a.policy q && policy_covers a.def q a.policy) ≡ b → (if b then filter (delegates_some a k) q.items.items else []) ≡ []
  at false e = refl
  at true e = none_pass (delegates_some a k) q.items.items (false_from_ne_true (list_any (delegates_some a k) q.items.items) (λ some.
      let may = (and_parts (may_delegate a.policy q) (policy_covers a.def q a.policy) e).0 in
      let one = and_parts q.enabled (int_eq q.policy_type access_policy && (bytes_eq q.service a.policy.service && bytes_eq q.zone a.policy.zone)) may in
      let two = and_parts (int_eq q.policy_type access_policy) (bytes_eq q.service a.policy.service && bytes_eq q.zone a.policy.zone) one.1 in
      let three = and_parts (bytes_eq q.service a.policy.service) (bytes_eq q.zone a.policy.zone) two.1 in
      let i = any_holds (delegates_some a k) q.items.items some in
      let four = and_parts i.0.delegate (is_wanted a i.0.accesses.items && named k (delegates k.name i.0)) i.2 in
      let five = and_parts (is_wanted a i.0.accesses.items) (named k (delegates k.name i.0)) four.1 in
      false≢true (sym h ∙ and_from _ _ one.0 (and_from _ _ two.0 (and_from _ _ three.0
      (any_from (delegates_anything k) q.items.items i.0 i.1 (and_from _ _ four.0 five.1)))))))

-- so the candidates suffice
pub candidates_suffice : (a : DefinedPolicy) (k : Known) (policies : List Policy) → items_in a k (candidates a.policy.service k policies) ≡ items_in a k policies
candidates_suffice a k [] = refl
candidates_suffice a k (q ∷ policies) = at (is_candidate a.policy.service k q) refl (candidates_suffice a k policies) where
  at : (b : Bool) → is_candidate a.policy.service k q ≡ b → items_in a k (candidates a.policy.service k policies) ≡ items_in a k policies
      → items_in a k (cond b (q ∷ candidates a.policy.service k policies) (candidates a.policy.service k policies)) ≡ items_of a k q ++ items_in a k policies
  at true e rest = ap (λ items. items_of a k q ++ items) rest
  at false e rest = rest ∙ ap (λ items. items ++ items_in a k policies) (sym (none_of_others a k q e))

-- ---- all accesses

pub all_found : {R : Type 0} (read : R → Item) (s : State) (a : DefinedPolicy) (k : Known) (found : List R) → map read found ≡ items_in a k s.policies.items
    → list_all (λ access. list_any (λ r. any_grants a.def access (read r).accesses.items) found) (accesses a.def a.policy) ≡ list_all (is_delegated s a.def k a.policy) (accesses a.def a.policy)
all_found read s a k found e =
    agree_all (λ access. list_any (λ r. any_grants a.def access (read r).accesses.items) found) (is_delegated s a.def k a.policy) (accesses a.def a.policy)
    (λ access asked. sym (list_any-map (λ (i : Item). any_grants a.def access i.accesses.items) read found)
    ∙ ap (list_any (λ (i : Item). any_grants a.def access i.accesses.items)) e
    ∙ access_found a k access asked s.policies.items)

-- ---- what a state that is ready gives

-- those of the service pass V5 and V6 under its definition
pub policies_fit : (s : State) (service : List ℕ) (def : ServiceDef) → IsReady s → def_of s service ≡ Some def → FitUnder def service s.policies.items
policies_fit s service def ready e q within here = ready q within def (ap (def_of s) ((bytes_eq-Decides q.service service).0 here) ∙ e)

pub of_its_service : (p q : Policy) → may_delegate p q ≡ true → is_of p.service q ≡ true
of_its_service p q may =
    let one = and_parts q.enabled (int_eq q.policy_type access_policy && (bytes_eq q.service p.service && bytes_eq q.zone p.zone)) may in
    let two = and_parts (int_eq q.policy_type access_policy) (bytes_eq q.service p.service && bytes_eq q.zone p.zone) one.1 in
    (and_parts (bytes_eq q.service p.service) (bytes_eq q.zone p.zone) two.1).0

pub held_fits : (s : State) (id : ℤ) (p : Policy) → IsReady s → policy_at s id ≡ Some p → Fits s p
held_fits s id p ready e = ready p (find_contained (λ (q : Policy). int_eq q.id.0 id) s.policies.items p e).0

-- ---- what is delegated in a service

-- every one of these policies stands under the definition
pub under_it : (def : ServiceDef) (policies : List Policy) (q : DefinedPolicy) → Contains (map (under def) policies) q → def ≡ q.def
under_it def policies q within = let p = Contains-mapped (under def) policies q within in ap (λ (d : DefinedPolicy). d.def) p.2

pub policies_under : (def : ServiceDef) (policies : List Policy) → map (λ (q : DefinedPolicy). q.policy) (map (under def) policies) ≡ policies
policies_under def [] = refl
policies_under def (p ∷ policies) = ap (λ policies. p ∷ policies) (policies_under def policies)
