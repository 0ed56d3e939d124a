-- The pair that is found is the least one.
use Rattle.std.proofs.Common.{◌≡◌, ◌<◌, ◌≤◌, ◌+◌, ◌-◌, ◌⊎◌, ℕ, zero, suc, Bool, true, false, cond, IsTrue, List, length, map, Option, Some, None, slice_get, refl, sym, ap, subst, ◌∙◌, inl, inr, arith}
use Rattle.std.proofs.lemmas.Bool.{false≢true}
use Rattle.std.proofs.lemmas.List.Folds.{find-append}
use Rattle.std.proofs.lemmas.Option.{slice_get_within}
use Rattle.std.specs.List.{find, flat_map, list_all, range_with_len}
use Rattle.std.specs.Option.{option_or}
use Rattle.rg_defs.specs.declared.service_def.ServiceDef.{ServiceDef}
use Rattle.rg_zone_rules.specs.declared.row.ZoneRow.{ZoneRow}
use Rattle.rg_zone_rules.specs.Overlap.{IsBefore, IsLeastOverlap, OverlapAt, ZonesOverlap, at_pair, first_overlap, holds_of, pairs_from, zone_patterns, zone_scalars, zones_overlap}
use Rattle.rg_zone_rules.specs.Rules.{all_maps_fit, maps_fit}
use Rattle.rg_zones.proofs.Members.{has_all, has_get, has_map}
use Rattle.rg_zones.proofs.Pairs.{pair_there}

-- the first of the pairs with this first place, from the second place a on
abbrev pub RowFirst : (ℕ × ℕ → Bool) → ℕ → ℕ → ℕ → Option (ℕ × ℕ) → Type 0
RowFirst p i a n None = (j : ℕ) → a ≤ j → j < n → p (i, j) ≡ false
RowFirst p i a n (Some q) = (q.0 ≡ i) × (a ≤ q.1) × (q.1 < n) × (p q ≡ true) × ((j : ℕ) → a ≤ j → j < q.1 → p (i, j) ≡ false)

-- the place itself, or one after it
from_first : (a j : ℕ) → a ≤ j → (j ≡ a) ⊎ (a + 1 ≤ j)
from_first zero zero h = inl refl
from_first zero (suc j) h = inr (omega arith)
from_first (suc a) zero h = absurd (omega arith)
from_first (suc a) (suc j) h = elim (from_first a j (omega arith)) [
  | inl same ↦ inl (ap suc same)
  | inr on ↦ inr (omega arith)
]

false_on : (p : ℕ × ℕ → Bool) (i a : ℕ) → p (i, a) ≡ false → (j : ℕ) → a ≤ j → (a + 1 ≤ j → p (i, j) ≡ false) → p (i, j) ≡ false
false_on p i a e j h f = elim (from_first a j h) [
  | inl same ↦ ap (λ (k : ℕ). p (i, k)) same ∙ e
  | inr on ↦ f on
]

row_passed : (p : ℕ × ℕ → Bool) (i a n : ℕ) → p (i, a) ≡ false → (o : Option (ℕ × ℕ)) → RowFirst p i (a + 1) n o → RowFirst p i a n o
row_passed p i a n e None r = λ j h g. false_on p i a e j h (λ k. r j k g)
row_passed p i a n e (Some q) r =
    let later = r.1 in
    let low : a ≤ q.1 = omega arith in
    (r.0, low, r.2, r.3, λ j h g. false_on p i a e j h (λ k. r.4 j k g))

row_first : (p : ℕ × ℕ → Bool) (i n k a : ℕ) → a + k ≡ n → RowFirst p i a n (find p (map (λ (j : ℕ). (i, j)) (range_with_len a k)))
row_first p i n zero a e = λ j h g. absurd (omega arith)
row_first p i n (suc k) a e = at (p (i, a)) refl (row_first p i n k (a + 1) (omega arith)) where
  at : (b : Bool) → p (i, a) ≡ b → RowFirst p i (a + 1) n (find p (map (λ (j : ℕ). (i, j)) (range_with_len (a + 1) k)))
      → RowFirst p i a n (cond b (Some (i, a)) (find p (map (λ (j : ℕ). (i, j)) (range_with_len (a + 1) k))))
  at true h rest = let within : a < n = omega arith in let low : a ≤ a = omega arith in (refl, low, within, h, λ j u v. absurd (omega arith))
  at false h rest = row_passed p i a n h (find p (map (λ (j : ℕ). (i, j)) (range_with_len (a + 1) k))) rest

-- the first of the pairs, from the first place i on
abbrev pub First : (ℕ × ℕ → Bool) → ℕ → ℕ → Option (ℕ × ℕ) → Type 0
First p m n None = (i j : ℕ) → m ≤ i → i < j → j < n → p (i, j) ≡ false
First p m n (Some q) = (m ≤ q.0) × (q.0 < q.1) × (q.1 < n) × (p q ≡ true) × ((i j : ℕ) → m ≤ i → i < j → j < n → IsBefore (i, j) q → p (i, j) ≡ false)

no_row : (p : ℕ × ℕ → Bool) (m n : ℕ) → ((j : ℕ) → m + 1 ≤ j → j < n → p (m, j) ≡ false) → (i j : ℕ) → m ≤ i → i < j → j < n → (m + 1 ≤ i → p (i, j) ≡ false) → p (i, j) ≡ false
no_row p m n row i j h k within f = elim (from_first m i h) [
  | inl same ↦
      let low : m + 1 ≤ j = omega arith in
      ap (λ (i : ℕ). p (i, j)) same ∙ row j low within
  | inr on ↦ f on
]

rows_passed : (p : ℕ × ℕ → Bool) (m n : ℕ) → ((j : ℕ) → m + 1 ≤ j → j < n → p (m, j) ≡ false) → (o : Option (ℕ × ℕ)) → First p (m + 1) n o → First p m n o
rows_passed p m n row None r = λ i j h k within. no_row p m n row i j h k within (λ on. r i j on k within)
rows_passed p m n row (Some q) r =
    let later = r.0 in
    let low : m ≤ q.0 = omega arith in
    (low, r.1, r.2, r.3, λ i j h k within before. no_row p m n row i j h k within (λ on. r.4 i j on k within before))

-- a pair in the first row
row_found : (p : ℕ × ℕ → Bool) (m n : ℕ) (q : ℕ × ℕ) → RowFirst p m (m + 1) n (Some q) → First p m n (Some q)
row_found p m n q r =
    let same = r.0 in
    let after = r.1 in
    let low : m ≤ q.0 = omega arith in
    let less : q.0 < q.1 = omega arith in (
      low,
      less,
      r.2,
      r.3,
      λ i j h k within before. elim before [
        | inl above ↦ absurd (omega arith)
        | inr in_row ↦
            let here = in_row.0 in
            let left = in_row.1 in
            let first : m + 1 ≤ j = omega arith in
            ap (λ (i : ℕ). p (i, j)) (here ∙ same) ∙ r.4 j first left
      ],
    )

pub first_of : (p : ℕ × ℕ → Bool) (n k m : ℕ) → m + k ≡ n → First p m n (find p (flat_map (pairs_from n) (range_with_len m k)))
first_of p n zero m e = λ i j h g within. absurd (omega arith)
first_of p n (suc k) m e =
    let rest = flat_map (pairs_from n) (range_with_len (m + 1) k) in
    let full : (m + 1) + (n - (m + 1)) ≡ n = omega arith in
    subst (First p m n) (sym (find-append p (pairs_from n m) rest))
    (at (find p (pairs_from n m)) (row_first p m n (n - (m + 1)) (m + 1) full) (find p rest) (first_of p n k (m + 1) (omega arith))) where
      at : (o : Option (ℕ × ℕ)) → RowFirst p m (m + 1) n o → (q : Option (ℕ × ℕ)) → First p (m + 1) n q → First p m n (option_or o q)
      at None row q r = rows_passed p m n row q r
      at (Some x) row q r = row_found p m n x row

pub there_both : {X : Type 0} (f : X → X → Bool) (o q : Option X) → holds_of f o q ≡ true → (x y : X) × (o ≡ Some x) × (q ≡ Some y) × (f x y ≡ true)
there_both f None q h = absurd (false≢true h)
there_both f (Some x) None h = absurd (false≢true h)
there_both f (Some x) (Some y) h = (x, y, refl, refl, h)

abbrev pub ShownAll : List ℕ → ServiceDef → Type 0
ShownAll service def = (a b : ZoneRow) → maps_fit service def a ≡ true → maps_fit service def b ≡ true → ZonesOverlap service def a b → IsTrue (zones_overlap service def a b)

abbrev pub FoundAll : List ℕ → ServiceDef → Type 0
FoundAll service def = (a b : ZoneRow) → maps_fit service def a ≡ true → maps_fit service def b ≡ true
    → IsTrue (zone_scalars (zone_patterns service def a)) → IsTrue (zone_scalars (zone_patterns service def b)) → IsTrue (zones_overlap service def a b) → ZonesOverlap service def a b

fit_at : (service : List ℕ) (def : ServiceDef) (zones : List ZoneRow) → all_maps_fit service def zones ≡ true → (i : ℕ) (a : ZoneRow) → slice_get zones i ≡ Some a → maps_fit service def a ≡ true
fit_at service def zones h i a e = has_all (maps_fit service def) zones h a (has_get zones i a e)

scalars_at : (service : List ℕ) (def : ServiceDef) (zones : List ZoneRow) → list_all zone_scalars (map (zone_patterns service def) zones) ≡ true → (i : ℕ) (a : ZoneRow) → slice_get zones i ≡ Some a
    → zone_scalars (zone_patterns service def a) ≡ true
scalars_at service def zones h i a e = has_all zone_scalars (map (zone_patterns service def) zones) h (zone_patterns service def a) (has_map (zone_patterns service def) zones a (has_get zones i a e))

-- zones that overlap pass the test
passes : (service : List ℕ) (def : ServiceDef) (zones : List ZoneRow) → ShownAll service def → all_maps_fit service def zones ≡ true → (i j : ℕ) → OverlapAt service def zones i j
    → at_pair (zones_overlap service def) zones (i, j) ≡ true
passes service def zones shown fit i j z =
    pair_there (zones_overlap service def) zones i j z.0 z.1 z.2 z.3
    ∙ shown z.0 z.1 (fit_at service def zones fit i z.0 z.2) (fit_at service def zones fit j z.1 z.3) z.4

overlap_from : (service : List ℕ) (def : ServiceDef) (zones : List ZoneRow) → FoundAll service def → all_maps_fit service def zones ≡ true
    → list_all zone_scalars (map (zone_patterns service def) zones) ≡ true → (q : ℕ × ℕ) → at_pair (zones_overlap service def) zones q ≡ true → OverlapAt service def zones q.0 q.1
overlap_from service def zones found fit scalars q h =
    let k = there_both (zones_overlap service def) (slice_get zones q.0) (slice_get zones q.1) h in (
      k.0,
      k.1,
      k.2,
      k.3,
      found k.0 k.1 (fit_at service def zones fit q.0 k.0 k.2) (fit_at service def zones fit q.1 k.1 k.3)
          (scalars_at service def zones scalars q.0 k.0 k.2) (scalars_at service def zones scalars q.1 k.1 k.3) k.4,
    )

pub least : (service : List ℕ) (def : ServiceDef) (zones : List ZoneRow) → ShownAll service def → FoundAll service def → all_maps_fit service def zones ≡ true
    → list_all zone_scalars (map (zone_patterns service def) zones) ≡ true → IsLeastOverlap service def zones (first_overlap service def zones)
least service def zones shown found fit scalars =
    at (first_overlap service def zones) (first_of (at_pair (zones_overlap service def) zones) (length zones) (length zones) 0 (omega arith)) where
      at : (o : Option (ℕ × ℕ)) → First (at_pair (zones_overlap service def) zones) 0 (length zones) o → IsLeastOverlap service def zones o
      at None r = λ i j less z.
          let within = slice_get_within zones j z.1 z.3 in
          let low : 0 ≤ i = omega arith in
          false≢true (sym (r i j low less within) ∙ passes service def zones shown fit i j z)
      at (Some q) r = (
        r.1,
        overlap_from service def zones found fit scalars q r.3,
        λ i j less before z.
            let within = slice_get_within zones j z.1 z.3 in
            let low : 0 ≤ i = omega arith in
            false≢true (sym (r.4 i j low less within before) ∙ passes service def zones shown fit i j z),
      )
