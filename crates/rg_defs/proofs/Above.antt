-- The levels above another, by names.
use Rattle.std.proofs.Common.{◌≡◌, ◌<◌, ◌≤◌, ℕ, zero, suc, true, false, List, [], ◌∷◌, length, Option, Some, None, slice_get, option_and_then, option_map, unwrap_or, refl, sym, ap, ◌∙◌, arith}
use Rattle.std.proofs.lemmas.Bool.{false≢true}
use Rattle.std.proofs.lemmas.List.Quantifiers.{position-Some}
use Rattle.std.proofs.lemmas.Option.{none-some}
use Rattle.std.proofs.lemmas.Slice.Eq.{bytes_eq-Decides}
use Rattle.std.specs.List.{list_any}
use Rattle.std.specs.Str.{bytes_eq}
use Rattle.rg_base.proofs.Lists.{any_from, any_holds}
use Rattle.rg_defs.specs.declared.service_def.Level.{Level}
use Rattle.rg_defs.specs.Paths.{IsAbove, IsAncestor, parent_of, place_of}
use Rattle.rg_defs.specs.PathTests.{ancestors, climb, has_name, is_above}
use Rattle.rg_defs.proofs.Climbs.{climb_none}
use Rattle.rg_defs.proofs.Whole.{Lawful, same_above, whole_climb}

length_climb : (levels : List Level) (n : ℕ) (at : Option ℕ) → length (climb levels n at) ≤ n
length_climb levels zero at = omega arith
length_climb levels (suc n) None = omega arith
length_climb levels (suc n) (Some place) = let rest = length_climb levels n (parent_of levels place) in omega arith

-- a climb from the parent gives what stands above, where it may go so far
climb_above : (levels : List Level) (place : ℕ) (above : List ℕ) (n : ℕ) → IsAbove levels place above → length above ≤ n → climb levels n (parent_of levels place) ≡ above
climb_above levels place [] n root few = ap (climb levels n) root ∙ climb_none levels n
climb_above levels place (p ∷ above) zero chain few = absurd (omega arith)
climb_above levels place (p ∷ above) (suc n) chain few =
    ap (climb levels (suc n)) chain.0 ∙ ap (λ (r : List ℕ). p ∷ r) (climb_above levels p above n chain.1 (omega arith))

place_within : (levels : List Level) (name : List ℕ) (place : ℕ) → place_of levels name ≡ Some place → place < length levels
place_within [] name place e = absurd (none-some place e)
place_within (l ∷ ls) name place e = (position-Some (λ (m : Level). bytes_eq m.name name) (l ∷ ls) place l e).0

-- the levels above one that is there
ancestors_are : (levels : List Level) → Lawful levels → (lower : List ℕ) (place : ℕ) → place_of levels lower ≡ Some place
    → (above : List ℕ) × (ancestors levels lower ≡ above) × IsAbove levels place above
ancestors_are levels ok lower place there =
    let r = whole_climb levels ok place (place_within levels lower place there) in
    let many = length_climb levels (length levels) (Some place) in
    let long = ap length r.1 in
    (r.0, ap (λ o. climb levels (length levels) (option_and_then (parent_of levels) o)) there ∙ climb_above levels place r.0 (length levels) r.2 (omega arith), r.2)

level_at : (levels : List Level) (name : List ℕ) (place : ℕ) → has_name levels name place ≡ true → (l : Level) × (slice_get levels place ≡ Some l) × (l.name ≡ name)
level_at levels name place h = at (slice_get levels place) refl h where
  at : (o : Option Level) → slice_get levels place ≡ o → unwrap_or (option_map (λ (l : Level). bytes_eq l.name name) o) false ≡ true → (l : Level) × (slice_get levels place ≡ Some l) × (l.name ≡ name)
  at None e h = absurd (false≢true h)
  at (Some l) e h = (l, e, (bytes_eq-Decides l.name name).0 h)

pub above_holds : (levels : List Level) → Lawful levels → (upper lower : List ℕ) → is_above levels upper lower ≡ true → IsAncestor levels upper lower
above_holds levels ok upper lower h = at (place_of levels lower) refl h where
  at : (o : Option ℕ) → place_of levels lower ≡ o → list_any (has_name levels upper) (climb levels (length levels) (option_and_then (parent_of levels) o)) ≡ true → IsAncestor levels upper lower
  at None e h = absurd (false≢true (sym (ap (list_any (has_name levels upper)) (climb_none levels (length levels))) ∙ h))
  at (Some place) e h =
      let a = ancestors_are levels ok lower place e in
      let same : climb levels (length levels) (parent_of levels place) ≡ a.0 = ap (λ o. climb levels (length levels) (option_and_then (parent_of levels) o)) (sym e) ∙ a.1 in
      let p = any_holds (has_name levels upper) a.0 (ap (list_any (has_name levels upper)) (sym same) ∙ h) in
      let l = level_at levels upper p.0 p.2 in
      record { place = place; above = a.0; higher = p.0; level = l.0; there = e; chain = a.2; among = p.1; at = l.1; named = l.2 }

pub above_from : (levels : List Level) → Lawful levels → (upper lower : List ℕ) → IsAncestor levels upper lower → is_above levels upper lower ≡ true
above_from levels ok upper lower i =
    let a = ancestors_are levels ok lower i.place i.there in
    let same = same_above levels i.place a.0 i.above a.2 i.chain in
    let named : has_name levels upper i.higher ≡ true = ap (λ o. unwrap_or (option_map (λ (l : Level). bytes_eq l.name upper) o) false) i.at ∙ (bytes_eq-Decides i.level.name upper).1 i.named in
    ap (list_any (has_name levels upper)) (a.1 ∙ same) ∙ any_from (has_name levels upper) i.above i.higher i.among named
