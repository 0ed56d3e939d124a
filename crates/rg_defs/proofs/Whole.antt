-- The computed paths are all paths, and every level lies on one.
use Rattle.std.proofs.Common.{◌≡◌, ◌<◌, ◌≤◌, ◌+◌, ℕ, zero, suc, Bool, true, false, not, ◌&&◌, ◌||◌, int_lt, List, [], ◌∷◌, length, get_or, reverse, Option, Some, None, slice_get, option_and_then, All, Contains, filter, refl, sym, ap, subst, ◌∙◌, arith, inl, inr}
use Rattle.std.proofs.lemmas.Bool.{false≢true, and_parts, or_cases, not-true, true_from_ne_false, eqb-true, eq-eqb, cases_Bool}
use Rattle.std.proofs.lemmas.List.{reverse-append}
use Rattle.std.proofs.lemmas.List.Elements.{All-map, All-filter, All-contains, filter_passes, Contains-append_left, Contains-append_right}
use Rattle.std.proofs.lemmas.List.FromFn.{length-range_with_len, get_or-range_with_len}
use Rattle.std.proofs.lemmas.List.Quantifiers.{position-Some}
use Rattle.std.proofs.lemmas.Option.{none-some, same_Some, slice_get-get_or, slice_get_within}
use Rattle.std.proofs.lemmas.Slice.Eq.{bytes_eq-Decides}
use Rattle.std.specs.List.{list_all, list_any, range_with_len}
use Rattle.std.specs.Str.{bytes_eq}
use Rattle.rg_base.specs.Texts.{all_distinct, is_empty, is_name}
use Rattle.rg_base.proofs.Lists.{Contains-cases, Contains-filter, Contains-first, Contains-later, Contains-map}
use Rattle.rg_defs.specs.declared.service_def.Level.{Level}
use Rattle.rg_defs.specs.Paths.{IsAbove, IsLeaf, IsPath, parent_of, place_of}
use Rattle.rg_defs.specs.PathTests.{climb, is_leaf, is_some_place, path_to, paths_of}
use Rattle.rg_defs.specs.Rules.{has_from_to, is_parent, levels_rule, parents_rule}
use Rattle.rg_defs.proofs.Climbs.{climb_none}
use Rattle.rg_defs.proofs.Ranks.{all_at, any_at, any_from, at_within, rank, rank_lt, rank_within, same_level}

-- the levels pass their rules
pub record Lawful (levels : List Level) : Type 0 where
  pub named : levels_rule levels ≡ true
  pub rooted : parents_rule levels ≡ true

names_fit : (levels : List Level) → Lawful levels → (list_all (λ (l : Level). is_name l.name) levels ≡ true) × (all_distinct (λ (l m : Level). bytes_eq m.name l.name) levels ≡ true)
names_fit levels ok =
    let fit = list_all (λ (l : Level). is_name l.name) levels in
    let apart = all_distinct (λ (l m : Level). bytes_eq m.name l.name) levels in
    let parts = and_parts (has_from_to 1 16 (length levels) && fit) apart ok.named in
    ((and_parts (has_from_to 1 16 (length levels)) fit parts.0).1, parts.1)

no_name : (t : List ℕ) → is_empty t ≡ true → is_name t ≡ true → ⊥
no_name [] e h = false≢true h
no_name (c ∷ t) e h = false≢true e

-- the level whose parent is asked for, and the parent's name
parent_parts : (levels : List Level) (place parent : ℕ) → parent_of levels place ≡ Some parent → (l : Level) × (slice_get levels place ≡ Some l) × (place_of levels l.parent ≡ Some parent)
parent_parts levels place parent h = split (slice_get levels place) refl where
  split : (o : Option Level) → slice_get levels place ≡ o → (l : Level) × (slice_get levels place ≡ Some l) × (place_of levels l.parent ≡ Some parent)
  split None e = absurd (none-some parent (sym (ap (option_and_then (λ (l : Level). place_of levels l.parent)) e) ∙ h))
  split (Some l) e = (l, e, sym (ap (option_and_then (λ (l : Level). place_of levels l.parent)) e) ∙ h)

-- the parent has a smaller number
parent_less : (levels : List Level) → Lawful levels → (place parent : ℕ) (l : Level) → slice_get levels place ≡ Some l → parent_of levels place ≡ Some parent
    → (p : Level) × (slice_get levels parent ≡ Some p) × (int_lt p.level l.level ≡ true)
parent_less levels ok place parent l e h =
    let at : place_of levels l.parent ≡ Some parent = sym (ap (option_and_then (λ (l : Level). place_of levels l.parent)) e) ∙ h in
    let found = position-Some (λ (m : Level). bytes_eq m.name l.parent) levels parent l at in
    let p = get_or levels parent l in
    let there : slice_get levels parent ≡ Some p = slice_get-get_or levels parent l found.0 in
    let name : p.name ≡ l.parent = (bytes_eq-Decides p.name l.parent).0 found.1 in
    let rule = all_at (λ (l : Level). is_empty l.parent || list_any (is_parent l) levels) levels place l ok.rooted e in
    let fit = names_fit levels ok in
    elim (or_cases (is_empty l.parent) (list_any (is_parent l) levels) rule) [
      | inl none ↦ absurd (no_name l.parent none (ap is_name (sym name) ∙ all_at (λ (l : Level). is_name l.name) levels parent p fit.0 there))
      | inr some ↦
          let q = any_at (is_parent l) levels some in
          let parts = and_parts (bytes_eq q.1.name l.parent) (int_lt q.1.level l.level) q.3 in
          let same : q.1 ≡ p = same_level levels q.0 parent q.1 p fit.1 q.2 there ((bytes_eq-Decides q.1.name l.parent).0 parts.0 ∙ sym name) in
          (p, there, ap (λ (m : Level). int_lt m.level l.level) (sym same) ∙ parts.1)
    ]

abbrev pub Climbed : List Level → ℕ → ℕ → Type 0
Climbed levels n place = (above : List ℕ) × (climb levels n (Some place) ≡ place ∷ above) × IsAbove levels place above

climb_step : (levels : List Level) → Lawful levels → (n place : ℕ) (l : Level) → slice_get levels place ≡ Some l → rank levels l.level < suc n
    → ((q : ℕ) (m : Level) → slice_get levels q ≡ Some m → rank levels m.level < n → Climbed levels n q) → (o : Option ℕ) → parent_of levels place ≡ o → Climbed levels (suc n) place
climb_step levels ok n place l e h again None at =
    ([], ap (λ (o : Option ℕ). place ∷ climb levels n o) at ∙ ap (λ (r : List ℕ). place ∷ r) (climb_none levels n), at)
climb_step levels ok n place l e h again (Some parent) at =
    let p = parent_less levels ok place parent l e at in
    let lower = rank_lt levels parent p.0 l.level p.1 p.2 in
    let r = again parent p.0 p.1 (omega arith) in
    (parent ∷ r.0, ap (λ (o : Option ℕ). place ∷ climb levels n o) at ∙ ap (λ (s : List ℕ). place ∷ s) r.1, (at, r.2))

-- climbing reaches the root
climbed : (levels : List Level) → Lawful levels → (n place : ℕ) (l : Level) → slice_get levels place ≡ Some l → rank levels l.level < n → Climbed levels n place
climbed levels ok zero place l e h = absurd (omega arith)
climbed levels ok (suc n) place l e h = climb_step levels ok n place l e h (climbed levels ok n) (parent_of levels place) refl

pub whole_climb : (levels : List Level) → Lawful levels → (place : ℕ) → place < length levels → Climbed levels (length levels) place
whole_climb levels ok place h = let l = at_within levels place h in climbed levels ok (length levels) place l.0 l.1 (rank_within levels place l.0 l.1)

pub same_above : (levels : List Level) (place : ℕ) (a b : List ℕ) → IsAbove levels place a → IsAbove levels place b → a ≡ b
same_above levels place [] [] h k = refl
same_above levels place [] (q ∷ b) h k = absurd (none-some q (sym h ∙ k.0))
same_above levels place (p ∷ a) [] h k = absurd (none-some p (sym k ∙ h.0))
same_above levels place (p ∷ a) (q ∷ b) h k =
    let e : p ≡ q = same_Some p q (sym h.0 ∙ k.0) in
    ap (λ (z : ℕ). z ∷ a) e ∙ ap (λ (r : List ℕ). q ∷ r) (same_above levels q a b (subst (λ (z : ℕ). IsAbove levels z a) e h.1) k.1)

some_place : (place : ℕ) (o : Option ℕ) → is_some_place place o ≡ true → o ≡ Some place
some_place place None h = absurd (false≢true h)
some_place place (Some other) h = ap Some (eqb-true other place h)

abbrev has_child : List Level → ℕ → Level → Bool
has_child levels place l = is_some_place place (place_of levels l.parent)

leaf_holds : (levels : List Level) (place : ℕ) → is_leaf levels place ≡ true → IsLeaf levels place
leaf_holds levels place h = λ k within e.
    let l = parent_parts levels k place e in
    let child = any_from (has_child levels place) levels k l.0 l.1 (ap (is_some_place place) l.2 ∙ eq-eqb place place refl) in
    false≢true (sym (not-true _ h) ∙ child)

child_of : (levels : List Level) (place : ℕ) → is_leaf levels place ≡ false → (k : ℕ) × (l : Level) × (slice_get levels k ≡ Some l) × (parent_of levels k ≡ Some place)
child_of levels place h =
    let q = any_at (has_child levels place) levels (not_from_false' (list_any (has_child levels place) levels) h) in
    (q.0, q.1, q.2, ap (option_and_then (λ (l : Level). place_of levels l.parent)) q.2 ∙ some_place place (place_of levels q.1.parent) q.3)
  where
    not_from_false' : (b : Bool) → not b ≡ false → b ≡ true
    not_from_false' true e = refl
    not_from_false' false e = absurd (false≢true (sym e))

leaf_from : (levels : List Level) (place : ℕ) → IsLeaf levels place → is_leaf levels place ≡ true
leaf_from levels place leaf = true_from_ne_false (is_leaf levels place) (λ e.
    let k = child_of levels place e in
    leaf k.0 (slice_get_within levels k.0 k.1 k.2) k.3)

contains_reverse : {X : Type 0} (xs : List X) (y : X) → Contains xs y → Contains (reverse xs) y
contains_reverse [] y h = absurd (omega (arith, h.1))
contains_reverse (x ∷ xs) y h = subst (λ ys. Contains ys y) (sym (reverse-append (x ∷ []) xs)) (elim (Contains-cases x xs y h) [
  | inl now ↦ Contains-append_right (reverse xs) (x ∷ []) y (subst (λ z. Contains (x ∷ []) z) now (Contains-first x []))
  | inr on ↦ Contains-append_left (reverse xs) (x ∷ []) y (contains_reverse xs y on)
])

range_contains : (n k : ℕ) → k < n → Contains (range_with_len 0 n) k
range_contains n k h = (k, subst (λ m. k < m) (sym (length-range_with_len 0 n)) h, get_or-range_with_len 0 n k k h ∙ omega arith)

path_from : (levels : List Level) → Lawful levels → (leaf : ℕ) → leaf < length levels → is_leaf levels leaf ≡ true → IsPath levels (path_to levels leaf)
path_from levels ok leaf within h = let r = whole_climb levels ok leaf within in record {
  leaf = leaf;
  above = r.0;
  there = within;
  lowest = leaf_holds levels leaf h;
  chain = r.2;
  listed = ap reverse r.1;
}

pub member_is_path : (levels : List Level) → Lawful levels → (path : List ℕ) → Contains (paths_of levels) path → IsPath levels path
member_is_path levels ok path h =
    let places = range_with_len 0 (length levels) in
    let within : All (λ place. place < length levels) places = λ k d w.
    let w' : k < length levels = subst (λ m. k < m) (length-range_with_len 0 (length levels)) w in
    subst (λ z. z < length levels) (sym (get_or-range_with_len 0 (length levels) k d w')) (omega arith) in
    let each : All (λ leaf. IsPath levels (path_to levels leaf)) (filter (is_leaf levels) places) = λ k d w.
    path_from levels ok (get_or (filter (is_leaf levels) places) k d) (All-filter (is_leaf levels) (λ place. place < length levels) places within k d w) (filter_passes (is_leaf levels) places k d w) in
    All-contains (IsPath levels) (paths_of levels) path (All-map (IsPath levels) (path_to levels) (filter (is_leaf levels) places) each) h

leaf_path : (levels : List Level) (leaf : ℕ) → leaf < length levels → is_leaf levels leaf ≡ true → Contains (paths_of levels) (path_to levels leaf)
leaf_path levels leaf within h =
    Contains-map (path_to levels) (filter (is_leaf levels) (range_with_len 0 (length levels))) leaf
    (Contains-filter (is_leaf levels) (range_with_len 0 (length levels)) leaf (range_contains (length levels) leaf within) h)

pub path_is_member : (levels : List Level) → Lawful levels → (path : List ℕ) → IsPath levels path → Contains (paths_of levels) path
path_is_member levels ok path p =
    let r = whole_climb levels ok p.leaf p.there in
    let above = same_above levels p.leaf r.0 p.above r.2 p.chain in
    let same : path_to levels p.leaf ≡ path = ap reverse (r.1 ∙ ap (λ (a : List ℕ). p.leaf ∷ a) above) ∙ sym p.listed in
    subst (Contains (paths_of levels)) same (leaf_path levels p.leaf p.there (leaf_from levels p.leaf p.lowest))

-- the parent of what stands above stands above
parent_too : (levels : List Level) (leaf k place : ℕ) (above : List ℕ) → IsAbove levels leaf above → Contains (leaf ∷ above) k → parent_of levels k ≡ Some place → Contains (leaf ∷ above) place
parent_too levels leaf k place [] chain h e = elim (Contains-cases leaf [] k h) [
  | inl now ↦ absurd (none-some place (sym chain ∙ ap (parent_of levels) now ∙ e))
  | inr on ↦ absurd (omega (arith, on.1))
]
parent_too levels leaf k place (q ∷ above) chain h e = elim (Contains-cases leaf (q ∷ above) k h) [
  | inl now ↦
      let same : q ≡ place = same_Some q place (sym chain.0 ∙ ap (parent_of levels) now ∙ e) in
      Contains-later leaf (q ∷ above) place (subst (Contains (q ∷ above)) same (Contains-first q above))
  | inr on ↦ Contains-later leaf (q ∷ above) place (parent_too levels q k place above chain.1 on e)
]

abbrev Below : List Level → ℕ → Type 0
Below levels place = (leaf : ℕ) × (above : List ℕ) × (leaf < length levels) × (is_leaf levels leaf ≡ true) × IsAbove levels leaf above × Contains (leaf ∷ above) place

below_step : (levels : List Level) → Lawful levels → (m place : ℕ) (l : Level) → slice_get levels place ≡ Some l → length levels ≤ rank levels l.level + suc m
    → ((k : ℕ) (c : Level) → slice_get levels k ≡ Some c → length levels ≤ rank levels c.level + m → Below levels k) → Below levels place
below_step levels ok m place l e h again = elim (cases_Bool (is_leaf levels place)) [
  | inl last ↦
      let within = slice_get_within levels place l e in
      let r = whole_climb levels ok place within in
      (place, r.0, within, last, r.2, Contains-first place r.0)
  | inr other ↦
      let k = child_of levels place other in
      let p = parent_less levels ok k.0 place k.1 k.2 k.3 in
      let same : p.0 ≡ l = same_Some p.0 l (sym p.1 ∙ e) in
      let lower = rank_lt levels place l k.1.level e (ap (λ (z : Level). int_lt z.level k.1.level) (sym same) ∙ p.2) in
      let r = again k.0 k.1 k.2 (omega arith) in
      (r.0, r.1, r.2, r.3, r.4, parent_too levels r.0 k.0 place r.1 r.4 r.5 k.3)
]

below : (levels : List Level) → Lawful levels → (m place : ℕ) (l : Level) → slice_get levels place ≡ Some l → length levels ≤ rank levels l.level + m → Below levels place
below levels ok zero place l e h = let w = rank_within levels place l e in absurd (omega arith)
below levels ok (suc m) place l e h = below_step levels ok m place l e h (below levels ok m)

pub lies_on_path : (levels : List Level) → Lawful levels → (place : ℕ) → place < length levels → (path : List ℕ) × Contains (paths_of levels) path × Contains path place
lies_on_path levels ok place within =
    let l = at_within levels place within in
    let b = below levels ok (length levels) place l.0 l.1 (omega arith) in
    let r = whole_climb levels ok b.0 b.2 in
    let above = same_above levels b.0 r.0 b.1 r.2 b.4 in
    let whole : b.0 ∷ b.1 ≡ climb levels (length levels) (Some b.0) = ap (λ (a : List ℕ). b.0 ∷ a) (sym above) ∙ sym r.1 in
    (path_to levels b.0, leaf_path levels b.0 b.2 b.3, contains_reverse (climb levels (length levels) (Some b.0)) place (subst (λ (xs : List ℕ). Contains xs place) whole b.5))
