-- A row has at most one policy.
use Rattle.std.proofs.Common.{◌≡◌, ◌&&◌, ◌||◌, ◌==◌, ℕ, Bool, true, false, not, List, [], ◌∷◌, Some, length, Contains, arith, refl, sym, ap, ◌∙◌}
use Rattle.std.specs.List.{list_all, list_any}
use Rattle.std.specs.Ordering.{int_eq}
use Rattle.std.specs.Str.{bytes_eq}
use Rattle.std.proofs.lemmas.Bool.{and_from, and_parts, false≢true}
use Rattle.std.proofs.lemmas.Bool.Decides.{Decides-int_eq, nat_tests}
use Rattle.std.proofs.lemmas.Slice.Eq.{bytes_eq-Decides}
use Rattle.rg_base.specs.Texts.{is_among}
use Rattle.rg_base.proofs.Lists.{Contains-first, all_from, all_holds, among_holds, any_from, any_holds}
use Rattle.rg_policy.specs.Kinds.{access_policy, normal}
use Rattle.rg_policy.specs.Maps.{maps_of}
use Rattle.rg_policy.specs.declared.policy.Policy.{Policy}
use Rattle.rg_policy.specs.declared.policy.PolicyResource.{PolicyResource}
use Rattle.rg_policy.specs.declared.policy.ResourceMap.{ResourceMap}
use Rattle.rg_policy.specs.declared.policy.ScheduleText.{ScheduleText}
use Rattle.rg_cmd.specs.Lookups.{has_id}
use Rattle.rg_cmd.specs.declared.state.State.{State}
use Rattle.rg_validate.specs.Policies.{has_no_twin, is_other}
use Rattle.rg_same_resources.specs.Twins.{each_among, each_map_in, each_resource_in, has_map, is_twin, same_flag, same_levels, same_maps, same_resource, same_schedules, same_texts}
use Rattle.rg_validate.specs.Valid.{IsKept, policy_is_single}
use Rattle.rg_admin_laws.proofs.Lists.{case, find_some, none_passes, not_true, one_of_id}
use Rattle.rg_grant.specs.Planning.{is_for, is_of_kind, map_of}
use Rattle.rg_grant.specs.declared.row.GrantRow.{GrantRow}
use Rattle.rg_grant.proofs.InForce.{id_self}
use Rattle.rg_grant.proofs.OneMap.{levels_turned, maps_same}

-- ---- maps that are the same as a third are the same

flag_is : (a b : Bool) → same_flag a b ≡ true → a ≡ b
flag_is true b h = sym h
flag_is false false h = refl
flag_is false true h = absurd (false≢true h)

flags_through : (a b c : Bool) → same_flag a b ≡ true → same_flag b c ≡ true → same_flag a c ≡ true
flags_through a b c h k = ap (λ d. same_flag d c) (flag_is a b h) ∙ k

text_is : (a b : List ℕ) → bytes_eq a b ≡ true → a ≡ b
text_is a b h = (bytes_eq-Decides a b).0 h

text_from : (a b : List ℕ) → a ≡ b → bytes_eq a b ≡ true
text_from a b e = (bytes_eq-Decides a b).1 e

among_through : (a b c : List (List ℕ)) → each_among a b ≡ true → each_among b c ≡ true → each_among a c ≡ true
among_through a b c h k = all_from (λ t. is_among t c) a (λ t here. all_holds (λ u. is_among u c) b k t (among_holds t b (all_holds (λ u. is_among u b) a h t here)))

texts_through : (a b c : List (List ℕ)) → same_texts a b ≡ true → same_texts b c ≡ true → same_texts a c ≡ true
texts_through a b c h k =
    let ab = and_parts (each_among a b) (each_among b a) h in
    let bc = and_parts (each_among b c) (each_among c b) k in
    and_from (each_among a c) (each_among c a) (among_through a b c ab.0 bc.0) (among_through c b a bc.1 ab.1)

resource_through : (r s t : PolicyResource) → same_resource r s ≡ true → same_resource s t ≡ true → same_resource r t ≡ true
resource_through r s t h k =
    let h0 = and_parts (bytes_eq s.level r.level) _ h in
    let h1 = and_parts (same_flag r.excludes s.excludes) _ h0.1 in
    let h2 = and_parts (same_flag r.recursive s.recursive) _ h1.1 in
    let k0 = and_parts (bytes_eq t.level s.level) _ k in
    let k1 = and_parts (same_flag s.excludes t.excludes) _ k0.1 in
    let k2 = and_parts (same_flag s.recursive t.recursive) _ k1.1 in
    λ i. text_from t.level r.level (text_is t.level s.level k0.0 ∙ text_is s.level r.level h0.0) i
    && (flags_through r.excludes s.excludes t.excludes h1.0 k1.0 i
    && (flags_through r.recursive s.recursive t.recursive h2.0 k2.0 i
    && texts_through r.values.items s.values.items t.values.items h2.1 k2.1 i))

resources_through : (a b c : List PolicyResource) → each_resource_in a b ≡ true → each_resource_in b c ≡ true → each_resource_in a c ≡ true
resources_through a b c h k = all_from (λ r. list_any (same_resource r) c) a (λ r here.
    let s = any_holds (same_resource r) b (all_holds (λ x. list_any (same_resource x) b) a h r here) in
    let t = any_holds (same_resource s.0) c (all_holds (λ x. list_any (same_resource x) c) b k s.0 s.1) in
    any_from (same_resource r) c t.0 t.1 (resource_through r s.0 t.0 s.2 t.2))

levels_through : (a b c : List PolicyResource) → same_levels a b ≡ true → same_levels b c ≡ true → same_levels a c ≡ true
levels_through a b c h k =
    let ab = and_parts (each_resource_in a b) (each_resource_in b a) h in
    let bc = and_parts (each_resource_in b c) (each_resource_in c b) k in
    and_from (each_resource_in a c) (each_resource_in c a) (resources_through a b c ab.0 bc.0) (resources_through c b a bc.1 ab.1)

abbrev as_row : GrantRow → ResourceMap → Bool
as_row g m = same_levels g.resources.items m.levels.items

-- each map of the one is the same as the first map of the other
each_in_other : (g : GrantRow) (p q : Policy) → list_all (as_row g) (maps_of p) ≡ true → list_all (as_row g) (maps_of q) ≡ true → each_map_in (maps_of p) (maps_of q) ≡ true
each_in_other g p q ps qs = all_from (λ (m : ResourceMap). has_map (maps_of q) m.levels.items) (maps_of p) (λ m here.
    let first : ResourceMap = record { levels = q.resources } in
    let own = levels_turned m.levels.items g.resources.items ∙ all_holds (as_row g) (maps_of p) ps m here in
    any_from (λ (n : ResourceMap). same_levels m.levels.items n.levels.items) (maps_of q) first (Contains-first first q.additional.items)
    (levels_through m.levels.items g.resources.items q.resources.items own (all_holds (as_row g) (maps_of q) qs first (Contains-first first q.additional.items))))

no_schedules : (a b : List ScheduleText) → (length a == 0) ≡ true → (length b == 0) ≡ true → same_schedules a b ≡ true
no_schedules [] [] h k = refl
no_schedules [] (x ∷ b) h k = absurd (grind (arith, nat_tests))
no_schedules (x ∷ a) b h k = absurd (grind (arith, nat_tests))

-- ---- two policies of one row

twins_in : (g : GrantRow) (p q : Policy) → is_for g p ≡ true → is_for g q ≡ true → is_twin p q ≡ true
twins_in g p q h k =
    let hp = and_parts p.enabled (is_of_kind g p && same_maps (map_of g) (maps_of p)) h in
    let kq = and_parts q.enabled (is_of_kind g q && same_maps (map_of g) (maps_of q)) k in
    let hk = and_parts (is_of_kind g p) (same_maps (map_of g) (maps_of p)) hp.1 in
    let kk = and_parts (is_of_kind g q) (same_maps (map_of g) (maps_of q)) kq.1 in
    let h0 = and_parts (bytes_eq p.service g.service && bytes_eq p.zone g.zone) _ hk.0 in
    let k0 = and_parts (bytes_eq q.service g.service && bytes_eq q.zone g.zone) _ kk.0 in
    let hz = and_parts (bytes_eq p.service g.service) (bytes_eq p.zone g.zone) h0.0 in
    let kz = and_parts (bytes_eq q.service g.service) (bytes_eq q.zone g.zone) k0.0 in
    let ht = and_parts (int_eq p.policy_type access_policy) _ h0.1 in
    let kt = and_parts (int_eq q.policy_type access_policy) _ k0.1 in
    let hs = and_parts (int_eq p.priority normal) (length p.schedules.items == 0) ht.1 in
    let ks = and_parts (int_eq q.priority normal) (length q.schedules.items == 0) kt.1 in
    let ps = sym (maps_same g p) ∙ hk.1 in
    let qs = sym (maps_same g q) ∙ kk.1 in
    λ i. kq.0 i
    && (((text_from q.service p.service (text_is q.service g.service kz.0 ∙ sym (text_is p.service g.service hz.0)) i
    && text_from q.zone p.zone (text_is q.zone g.zone kz.1 ∙ sym (text_is p.zone g.zone hz.1)) i)
    && ((Decides-int_eq q.policy_type p.policy_type).1 ((Decides-int_eq q.policy_type access_policy).0 kt.0 ∙ sym ((Decides-int_eq p.policy_type access_policy).0 ht.0)) i
    && ((Decides-int_eq q.priority p.priority).1 ((Decides-int_eq q.priority normal).0 ks.0 ∙ sym ((Decides-int_eq p.priority normal).0 hs.0)) i
    && no_schedules p.schedules.items q.schedules.items hs.1 ks.1 i)))
    && (each_in_other g p q ps qs i && each_in_other g q p qs ps i))

pub one_policy : (s : State) (g : GrantRow) (p q : Policy) → IsKept s → Contains s.policies.items p → Contains s.policies.items q → is_for g p ≡ true → is_for g q ≡ true → p ≡ q
unfolding has_no_twin
one_policy s g p q kept here there h k =
    let xs = s.policies.items in
    let single : has_no_twin s (Some p.id) p ≡ true = all_holds (policy_is_single s) xs kept.single p here in
    let enabled = (and_parts p.enabled (is_of_kind g p && same_maps (map_of g) (maps_of p)) h).0 in
    let other = λ (r : Policy). is_other (Some p.id) r && is_twin p r in
    let none : list_any other xs ≡ false = not_true (list_any other xs) (sym (ap (λ b. not b || not (list_any other xs)) enabled) ∙ single) in
    let fails : (not (has_id p.id.0 q) && is_twin p q) ≡ false = none_passes other xs none q there in
    let its : has_id p.id.0 q ≡ true = case (λ b. (not b && is_twin p q) ≡ false → b ≡ true) (has_id p.id.0 q) (λ _ _. refl) (λ _ no. absurd (false≢true (sym no ∙ twins_in g p q h k))) fails in
    let shared : (a b : Policy) → has_id p.id.0 a ≡ true → has_id p.id.0 b ≡ true → int_eq a.id.0 b.id.0 ≡ true =
    λ a b x y. (Decides-int_eq a.id.0 b.id.0).1 ((Decides-int_eq a.id.0 p.id.0).0 x ∙ sym ((Decides-int_eq b.id.0 p.id.0).0 y)) in
    let first = find_some (has_id p.id.0) xs (any_from (has_id p.id.0) xs p here (id_self p.id.0)) in
    let one = one_of_id (λ (a b : Policy). int_eq a.id.0 b.id.0) (has_id p.id.0) shared xs kept.valid.policy_ids first.0 in
    one p first.1 here (id_self p.id.0) ∙ sym (one q first.1 there its)
