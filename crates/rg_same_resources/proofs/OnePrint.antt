-- Maps that are the same have the same print, and so have names.
use Rattle.std.proofs.Common.{◌≡◌, ◌++◌, ◌/◌, ◌^◌, ◌⊎◌, ℕ, zero, suc, true, List, [], ◌∷◌, flat_map, map, max, Contains, arith, refl, ap, sym, ◌∙◌, inl, inr}
use Rattle.std.specs.List.{list_any}
use Rattle.std.specs.Str.{bytes_eq}
use Rattle.std.proofs.lemmas.Bool.{and_parts}
use Rattle.std.proofs.lemmas.Slice.Eq.{bytes_eq-Decides}
use Rattle.rg_base.proofs.Lists.{Contains-cases, Contains-first, Contains-flat_map, Contains-flat_mapped, Contains-later, Contains-map, Contains-mapped, Contains-none, Contains-same, all_holds, among_holds, any_holds}
use Rattle.rg_base.specs.Texts.{is_among}
use Rattle.rg_policy.specs.declared.policy.Policy.{Policy}
use Rattle.rg_policy.specs.declared.policy.PolicyResource.{PolicyResource}
use Rattle.rg_policy.specs.declared.policy.ResourceMap.{ResourceMap}
use Rattle.rg_same_resources.specs.Prints.{ended, hash_from, marked, name_print_of, no_marks, print_of, raised_mark, with_levels, with_maps, with_texts}
use Rattle.rg_same_resources.specs.Twins.{each_among, each_map_in, each_resource_in, has_map, same_flag, same_levels, same_maps, same_place, same_resource}

-- ---- marks

max_twice : (n h : ℕ) → max (max n h) h ≡ max n h
max_twice n h = omega arith

max_either : (n a b : ℕ) → max (max n a) b ≡ max (max n b) a
max_either n a b = omega arith

raised_twice : (marks : List ℕ) (place hash : ℕ) → raised_mark (raised_mark marks place hash) place hash ≡ raised_mark marks place hash
raised_twice [] place hash = refl
raised_twice (n ∷ marks) zero hash = ap (λ m. m ∷ marks) (max_twice n hash)
raised_twice (n ∷ marks) (suc place) hash = ap (λ ms. n ∷ ms) (raised_twice marks place hash)

either_first : (marks : List ℕ) (p q a b : ℕ) → raised_mark (raised_mark marks p a) q b ≡ raised_mark (raised_mark marks q b) p a
either_first [] p q a b = refl
either_first (n ∷ marks) zero zero a b = ap (λ m. m ∷ marks) (max_either n a b)
either_first (n ∷ marks) zero (suc q) a b = refl
either_first (n ∷ marks) (suc p) zero a b = refl
either_first (n ∷ marks) (suc p) (suc q) a b = ap (λ ms. n ∷ ms) (either_first marks p q a b)

marked_twice : (marks : List ℕ) (a : ℕ) → marked (marked marks a) a ≡ marked marks a
unfolding marked
marked_twice marks a = raised_twice marks (a / 2 ^ 55) a

marked_both : (marks : List ℕ) (a b : ℕ) → marked (marked marks a) b ≡ marked (marked marks b) a
unfolding marked
marked_both marks a b = either_first marks (a / 2 ^ 55) (b / 2 ^ 55) a b

-- ---- hashes

abbrev with_hashes : List ℕ → List ℕ → List ℕ
with_hashes marks [] = marks
with_hashes marks (h ∷ hashes) = with_hashes (marked marks h) hashes

both_hashes : (marks hashes others : List ℕ) → with_hashes (with_hashes marks hashes) others ≡ with_hashes marks (hashes ++ others)
both_hashes marks [] others = refl
both_hashes marks (h ∷ hashes) others = both_hashes (marked marks h) hashes others

-- one more hash may come first
one_first : (marks hashes : List ℕ) (h : ℕ) → marked (with_hashes marks hashes) h ≡ with_hashes (marked marks h) hashes
one_first marks [] h = refl
one_first marks (g ∷ hashes) h = one_first (marked marks g) hashes h ∙ ap (λ ms. with_hashes ms hashes) (marked_both marks g h)

all_first : (marks hashes others : List ℕ) → with_hashes (with_hashes marks hashes) others ≡ with_hashes (with_hashes marks others) hashes
all_first marks hashes [] = refl
all_first marks hashes (h ∷ others) = ap (λ ms. with_hashes ms others) (one_first marks hashes h) ∙ all_first (marked marks h) hashes others

-- what is among the hashes adds nothing
one_added : (marks hashes : List ℕ) (h : ℕ) → Contains hashes h → marked (with_hashes marks hashes) h ≡ with_hashes marks hashes
one_added marks [] h here = absurd (Contains-none h here)
one_added marks (g ∷ hashes) h here = at (Contains-cases g hashes h here) (one_added (marked marks g) hashes h)
  where
    at : (g ≡ h) ⊎ Contains hashes h → (Contains hashes h → marked (with_hashes (marked marks g) hashes) h ≡ with_hashes (marked marks g) hashes)
        → marked (with_hashes (marked marks g) hashes) h ≡ with_hashes (marked marks g) hashes
    at (inl is) rest =
        one_first (marked marks g) hashes h
        ∙ ap (λ x. with_hashes (marked (marked marks g) x) hashes) (sym is)
        ∙ ap (λ ms. with_hashes ms hashes) (marked_twice marks g)
    at (inr later) rest = rest later

all_added : (marks hashes others : List ℕ) → ((h : ℕ) → Contains others h → Contains hashes h) → with_hashes (with_hashes marks hashes) others ≡ with_hashes marks hashes
all_added marks hashes [] within = refl
all_added marks hashes (h ∷ others) within =
    ap (λ ms. with_hashes ms others) (one_added marks hashes h (within h (Contains-first h others)))
    ∙ all_added marks hashes others (λ x there. within x (Contains-later h others x there))

one_set : (marks hashes others : List ℕ) → ((h : ℕ) → Contains hashes h → Contains others h) → ((h : ℕ) → Contains others h → Contains hashes h) → with_hashes marks hashes ≡ with_hashes marks others
one_set marks hashes others forth back = sym (all_added marks hashes others back) ∙ all_first marks hashes others ∙ all_added marks others hashes forth

-- ---- maps

abbrev hashes_of : PolicyResource → List ℕ
hashes_of r = map (hash_from (hash_from 1 r.level)) r.values.items

abbrev hashes_in : ResourceMap → List ℕ
hashes_in m = flat_map hashes_of m.levels.items

texts_hashes : (seed : ℕ) (marks : List ℕ) (texts : List (List ℕ)) → with_texts seed marks texts ≡ with_hashes marks (map (hash_from seed) texts)
texts_hashes seed marks [] = refl
texts_hashes seed marks (t ∷ texts) = texts_hashes seed (marked marks (hash_from seed t)) texts

levels_hashes : (marks : List ℕ) (levels : List PolicyResource) → with_levels marks levels ≡ with_hashes marks (flat_map hashes_of levels)
levels_hashes marks [] = refl
levels_hashes marks (r ∷ levels) =
    levels_hashes (with_texts (hash_from 1 r.level) marks r.values.items) levels
    ∙ ap (λ ms. with_hashes ms (flat_map hashes_of levels)) (texts_hashes (hash_from 1 r.level) marks r.values.items)
    ∙ both_hashes marks (hashes_of r) (flat_map hashes_of levels)

maps_hashes : (marks : List ℕ) (maps : List ResourceMap) → with_maps marks maps ≡ with_hashes marks (flat_map hashes_in maps)
maps_hashes marks [] = refl
maps_hashes marks (m ∷ maps) =
    maps_hashes (with_levels marks m.levels.items) maps
    ∙ ap (λ ms. with_hashes ms (flat_map hashes_in maps)) (levels_hashes marks m.levels.items)
    ∙ both_hashes marks (hashes_in m) (flat_map hashes_in maps)

-- resources that are the same have one level, and each text of the one is one of the other
hash_within : (r q : PolicyResource) (h : ℕ) → same_resource r q ≡ true → Contains (hashes_of r) h → Contains (hashes_of q) h
hash_within r q h same here =
    let flags = and_parts (bytes_eq q.level r.level) _ same in
    let level : q.level ≡ r.level = (bytes_eq-Decides q.level r.level).0 flags.0 in
    let texts = (and_parts (same_flag r.recursive q.recursive) _ (and_parts (same_flag r.excludes q.excludes) _ flags.1).1).1 in
    let forth = (and_parts (each_among r.values.items q.values.items) (each_among q.values.items r.values.items) texts).0 in
    let t = Contains-mapped (hash_from (hash_from 1 r.level)) r.values.items h here in
    let there = among_holds t.0 q.values.items (all_holds (λ u. is_among u q.values.items) r.values.items forth t.0 t.1) in
    let its : hash_from (hash_from 1 q.level) t.0 ≡ h = ap (λ l. hash_from (hash_from 1 l) t.0) level ∙ t.2 in
    Contains-same (hashes_of q) (hash_from (hash_from 1 q.level) t.0) h its (Contains-map (hash_from (hash_from 1 q.level)) q.values.items t.0 there)

-- a hash of the maps is one of the others'
hash_in : (maps others : List ResourceMap) → each_map_in maps others ≡ true → (h : ℕ) → Contains (flat_map hashes_in maps) h → Contains (flat_map hashes_in others) h
hash_in maps others each h here =
    let m = Contains-flat_mapped hashes_in maps h here in
    let r = Contains-flat_mapped hashes_of m.0.levels.items h m.2 in
    let n = any_holds (λ (o : ResourceMap). same_levels m.0.levels.items o.levels.items) others (all_holds (λ (o : ResourceMap). has_map others o.levels.items) maps each m.0 m.1) in
    let forth = (and_parts (each_resource_in m.0.levels.items n.0.levels.items) (each_resource_in n.0.levels.items m.0.levels.items) n.2).0 in
    let q = any_holds (same_resource r.0) n.0.levels.items (all_holds (λ s. list_any (same_resource s) n.0.levels.items) m.0.levels.items forth r.0 r.1) in
    Contains-flat_map hashes_in others n.0 h n.1 (Contains-flat_map hashes_of n.0.levels.items q.0 h q.1 (hash_within r.0 q.0 h q.2 r.2))

pub one_print : (maps others : List ResourceMap) → same_maps maps others ≡ true → print_of maps ≡ print_of others
unfolding print_of
one_print maps others same =
    let both = and_parts (each_map_in maps others) (each_map_in others maps) same in
    let marks = maps_hashes no_marks maps ∙ one_set no_marks (flat_map hashes_in maps) (flat_map hashes_in others) (hash_in maps others both.0) (hash_in others maps both.1) ∙ sym (maps_hashes no_marks others) in
    ap (λ (ms : List ℕ). hash_from 1 ms) marks

-- ---- names

pub one_name_print : (p q : Policy) → bytes_eq q.name p.name ≡ true → same_place p q ≡ true → name_print_of p ≡ name_print_of q
unfolding name_print_of
one_name_print p q named placed =
    let both = and_parts (bytes_eq q.service p.service) (bytes_eq q.zone p.zone) placed in
    let service : p.service ≡ q.service = sym ((bytes_eq-Decides q.service p.service).0 both.0) in
    let zone : p.zone ≡ q.zone = sym ((bytes_eq-Decides q.zone p.zone).0 both.1) in
    let name : p.name ≡ q.name = sym ((bytes_eq-Decides q.name p.name).0 named) in
    λ i. hash_from (ended (hash_from (ended (hash_from 1 (service i))) (zone i))) (name i)
