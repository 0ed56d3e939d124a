-- A policy with the allow item of a grant allows what the row speaks of.
use Rattle.std.proofs.Common.{◌≡◌, ◌&&◌, ◌||◌, ◌<◌, ℕ, ℤ, Bool, true, false, not, cond, eqb, List, [], ◌∷◌, map, filter, Some, None, Contains, refl, sym, ap, ◌∙◌, arith}
use Rattle.std.specs.Option.{option_map_or, option_or}
use Rattle.std.specs.Ordering.{int_eq}
use Rattle.std.specs.Prelude.{option_map}
use Rattle.std.specs.Str.{bytes_eq}
use Rattle.std.proofs.lemmas.Bool.{and_from, and_parts, eq-eqb}
use Rattle.std.proofs.lemmas.Bool.Decides.{Decides-int_eq}
use Rattle.rg_base.specs.Texts.{is_among}
use Rattle.rg_base.proofs.Lists.{Contains-filter, Contains-map, Contains-none, any_from, any_holds, list_any-map}
use Rattle.rg_policy.specs.Kinds.{normal}
use Rattle.rg_policy.specs.declared.policy.Policy.{Policy}
use Rattle.rg_policy.specs.declared.request.AccessRequest.{AccessRequest}
use Rattle.rg_defs.specs.Grants.{implied_by}
use Rattle.rg_defs.specs.declared.service_def.ServiceDef.{ServiceDef}
use Rattle.rg_items.specs.Accesses.{any_grants, entry_grants}
use Rattle.rg_items.specs.Subjects.{names_asker}
use Rattle.rg_evalr.specs.Effects.{access_of, effect_of, in_play}
use Rattle.rg_evalr.specs.Frames.{def_of, requested_access}
use Rattle.rg_evalr.specs.Items.{Context, any_matches, item_matches}
use Rattle.rg_evalr.specs.declared.frame.Effect.TheVariants.{Nothing, Allow, Deny}
use Rattle.rg_evalr.specs.declared.frame.Frame.{Frame}
use Rattle.rg_evalr.specs.declared.frame.Side.{Side}
use Rattle.rg_evalr.specs.declared.frame.Side.TheVariants.{Resource, Tag}
use Rattle.rg_facts.specs.Best.{best_from, better}
use Rattle.rg_facts.specs.Candidates.{Candidate, Setting, candidates, context_of, is_chosen, setting_of}
use Rattle.rg_facts.specs.Firsts.{first_by}
use Rattle.rg_facts.specs.Flow.{access_in, cell_at, cell_of, decided_in, decider, eval, given, has_lesser_id, outcome_of, policies_in, stands_in}
use Rattle.rg_facts.specs.declared.decision.Access.TheVariants.{Allowed}
use Rattle.rg_facts.specs.declared.facts.Facts.{Facts}
use Rattle.rg_facts.proofs.Least.{best_from_none, by_id}
use Rattle.rg_grant.specs.Allowing.{IsAllowed, IsFirst, IsGranting, IsSpokenOf, IsUnopposed, some_matches}
use Rattle.rg_grant.specs.Forms.{entry_of, granting_item}
use Rattle.rg_grant.specs.declared.row.GrantRow.{GrantRow}

-- ---- the item matches

entries_grant : (def : ServiceDef) (asked : List ℕ) (types : List (List ℕ)) → is_among asked types ≡ true → any_grants def asked (map entry_of types) ≡ true
entries_grant def asked types h =
    let one = any_holds (λ t. bytes_eq t asked) types h in
    list_any-map (entry_grants def asked) entry_of types
    ∙ any_from (λ t. entry_grants def asked (entry_of t)) types one.0 one.1 (ap (λ b. b || is_among asked (implied_by def one.0)) one.2)

item_grants : (frame : Frame) (side : Side) (c : Context) (g : GrantRow) → names_asker c.roles c.request (granting_item g) ≡ true
    → is_among (requested_access frame side c.request.access) g.accesses.items ≡ true → item_matches frame side c (granting_item g) ≡ true
unfolding granting_item
item_grants frame side c g subject access =
    and_from (any_grants (def_of frame side) (requested_access frame side c.request.access) (granting_item g).accesses.items) (names_asker c.roles c.request (granting_item g) && true)
    (entries_grant (def_of frame side) (requested_access frame side c.request.access) g.accesses.items access)
    (and_from (names_asker c.roles c.request (granting_item g)) true subject refl)

-- ---- the policy allows

policy_allows : (frame : Frame) (side : Side) (c : Context) (p : Policy) → in_play frame side c p ≡ true → any_matches frame side c p.items.items ≡ true
    → any_matches frame side c p.deny_items.items ≡ false → any_matches frame side c p.allow_exceptions.items ≡ false → access_of frame side c p ≡ Allow
unfolding access_of effect_of
policy_allows frame side c p plays matches deny except = λ i.
    cond (plays i)
    (cond (deny i && not (any_matches frame side c p.deny_exceptions.items)) Deny
    (cond (matches i && not (except i)) Allow
    (cond p.deny_all_else Deny Nothing)))
    Nothing

-- ---- the cell decides

-- where a policy of priority 0 that allows stands
abbrev own_cell : Side → ℕ
own_cell Tag = 7
own_cell Resource = 8

allowing_cell : (priority : ℤ) (side : Side) → int_eq priority normal ≡ true → cell_of priority side Allow ≡ Some (own_cell side)
allowing_cell priority side h = at side ((Decides-int_eq priority normal).0 h) where
  at : (side : Side) → priority ≡ normal → cell_of priority side Allow ≡ Some (own_cell side)
  at Tag is = ap (λ z. cell_of z Tag Allow) is
  at Resource is = ap (λ z. cell_of z Resource Allow) is

first_there : (b : Policy) (ps : List Policy) → (p : Policy) × (best_from has_lesser_id (Some b) ps ≡ Some p)
first_there b [] = (b, refl)
first_there b (p ∷ ps) = first_there (better has_lesser_id (Some b) p) ps

some_first : (ps : List Policy) (p : Policy) → Contains ps p → (q : Policy) × (first_by has_lesser_id ps ≡ Some q)
some_first [] p there = absurd (Contains-none p there)
some_first (b ∷ ps) p there = let r = first_there b ps in (r.0, sym (best_from_none has_lesser_id by_id (b ∷ ps)) ∙ r.1)

module _ (s : Setting) (cs : List Candidate) where
  none_in : (n : ℕ) → policies_in s cs n ≡ [] → decided_in s cs n ≡ None
  none_in n none = ap (λ ps. option_map (λ (p : Policy). (n, p)) (first_by has_lesser_id ps)) none

  some_in : (n : ℕ) (p : Policy) → Contains (policies_in s cs n) p → (q : Policy) × (decided_in s cs n ≡ Some (n, q))
  some_in n p there = let r = some_first (policies_in s cs n) p there in (r.0, ap (option_map (λ (p : Policy). (n, p))) r.1)

  -- where no cell before its own is filled it allows
  decides : (fallback : Bool) (side : Side) (p : Policy) → Contains (policies_in s cs (own_cell side)) p → ((n : ℕ) → n < own_cell side → policies_in s cs n ≡ [])
      → access_in fallback (decider s cs) ≡ Allowed
  decides fallback Tag p there none =
      let d = some_in 7 p there in
      λ i. access_in fallback (option_or (none_in 1 (none 1 (omega arith)) i) (option_or (none_in 2 (none 2 (omega arith)) i)
      (option_or (none_in 3 (none 3 (omega arith)) i) (option_or (none_in 4 (none 4 (omega arith)) i) (option_or (none_in 5 (none 5 (omega arith)) i)
      (option_or (none_in 6 (none 6 (omega arith)) i) (option_or (d.1 i) (option_or (decided_in s cs 8) None))))))))
  decides fallback Resource p there none =
      let d = some_in 8 p there in
      λ i. access_in fallback (option_or (none_in 1 (none 1 (omega arith)) i) (option_or (none_in 2 (none 2 (omega arith)) i)
      (option_or (none_in 3 (none 3 (omega arith)) i) (option_or (none_in 4 (none 4 (omega arith)) i) (option_or (none_in 5 (none 5 (omega arith)) i)
      (option_or (none_in 6 (none 6 (omega arith)) i) (option_or (none_in 7 (none 7 (omega arith)) i) (option_or (d.1 i) None))))))))

-- ---- what was said

module _ (g : GrantRow) (facts : Facts) (q : AccessRequest) (c : Candidate) (granting : IsGranting g c.source.policy) (spoken : IsSpokenOf g facts q c) where
  abbrev setting : Setting
  setting = setting_of facts q

  abbrev part : (is_chosen setting c ≡ true) × (in_play c.source.frame c.source.side (context_of setting c) c.source.policy ≡ true)
  part = and_parts (is_chosen setting c) (in_play c.source.frame c.source.side (context_of setting c) c.source.policy) spoken.takes

  matching : some_matches facts q c c.source.policy.items.items ≡ true
  matching = any_from (item_matches c.source.frame c.source.side (context_of setting c)) c.source.policy.items.items (granting_item g) granting.has
      (item_grants c.source.frame c.source.side (context_of setting c) g spoken.subject spoken.access)

  allowing : IsUnopposed facts q c → access_of c.source.frame c.source.side (context_of setting c) c.source.policy ≡ Allow
  allowing free = policy_allows c.source.frame c.source.side (context_of setting c) c.source.policy part.1 matching free.deny_items free.allow_exceptions

  giving : IsUnopposed facts q c → given setting c ≡ Allow
  unfolding given
  giving free = λ i. cond (granting.gives_access i && part.0 i) (allowing free i) Nothing

  standing : IsUnopposed facts q c → cell_at setting c ≡ Some (own_cell c.source.side)
  standing free = ap (cell_of c.source.policy.priority c.source.side) (giving free) ∙ allowing_cell c.source.policy.priority c.source.side granting.is_normal

  there : IsUnopposed facts q c → Contains (policies_in setting (candidates facts q) (own_cell c.source.side)) c.source.policy
  there free =
      let own = own_cell c.source.side in
      let stands : stands_in setting own c ≡ true = ap (λ o. option_map_or (λ m. eqb m own) o false) (standing free) ∙ eq-eqb own own refl in
      Contains-map (λ (d : Candidate). d.source.policy) (filter (stands_in setting own) (candidates facts q)) c (Contains-filter (stands_in setting own) (candidates facts q) c spoken.asked stands)

  deciding : IsUnopposed facts q c → IsFirst facts q c → (eval facts q).access ≡ Allowed
  unfolding outcome_of
  deciding free first = decides setting (candidates facts q) facts.fallback c.source.side c.source.policy (there free) (λ n before. first (own_cell c.source.side) n (standing free) before)

  pub is_allowed : IsAllowed facts q c
  is_allowed = record { matches = matching; allows = allowing; decides = deciding }
