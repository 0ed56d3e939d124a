-- The least place that passes among ids is the first in the list, and the zones that a resource lies in are among the candidates.
use Rattle.std.proofs.Common.{◌≡◌, ◌<◌, ◌≤◌, ◌+◌, ◌++◌, ◌&&◌, ◌||◌, ℕ, zero, suc, ℤ, pos, Bool, true, false, not, cond, List, [], ◌∷◌, Option, Some, None, Contains, IfSome, nat_lt, fold, length, map, take, get_or, refl, sym, ap, subst, ◌∙◌, inl, inr, arith}
use Rattle.std.proofs.lemmas.Bool.{and_parts, and_from}
use Rattle.std.proofs.lemmas.Bool.Decides.{nat_tests}
use Rattle.std.proofs.lemmas.Int.{ints}
use Rattle.std.proofs.lemmas.List.{length-take-le}
use Rattle.std.proofs.lemmas.Iterator.Adapters.{position_from-zero}
use Rattle.std.specs.List.{list_any, position, position_from}
use Rattle.std.specs.Ordering.{int_eq}
use Rattle.rg_base.proofs.Lists.{Contains-cases, Contains-first, Contains-later, Contains-none, take_next}
use Rattle.rg_defs.specs.declared.service_def.ServiceDef.{ServiceDef}
use Rattle.rg_index.specs.Changes.{forms_fit, ids_differ, same_id}
use Rattle.rg_index.specs.declared.form.Form.{Form}
use Rattle.rg_policy.specs.declared.request.Element.{Element}
use Rattle.rg_resmatch.specs.Tests.{some_lies}
use Rattle.rg_zone_rules.specs.declared.row.ZoneRow.{ZoneRow}
use Rattle.rg_zones.specs.Matched.{RowMatching, is_matched, rows_of}
use Rattle.rg_zones.specs.Places.{AreNamed, after_id, is_below, least_place, lesser_place, passes_at, place_of, zone_form, zone_forms}
use Rattle.rg_zone_rules.specs.Rules.{all_maps_fit, maps_fit}
use Rattle.rg_zone_rules.specs.Zones.{in_zone}
use Rattle.rg_zones.proofs.Fitting.{fit_values, matched}

-- ---- the least place

-- a place was found, and it is no later than this one
abbrev IsUpTo : Option ℕ → ℕ → Type 0
IsUpTo None k = ⊥
IsUpTo (Some best) k = best ≤ k

module _ {X : Type 0} (test : X → Bool) where
  abbrev DoesPass : List X → Option ℕ → Type 0
  DoesPass xs o = IfSome o (λ k. passes_at test xs k ≡ true)

  one_passes : (xs : List X) (best o : Option ℕ) → DoesPass xs best → DoesPass xs (lesser_place test xs best o)
  one_passes xs best None h = h
  one_passes xs best (Some n) h = chosen (is_below n best && passes_at test xs n) refl where
    chosen : (b : Bool) → (is_below n best && passes_at test xs n) ≡ b → DoesPass xs (cond b (Some n) best)
    chosen true e = (and_parts (is_below n best) (passes_at test xs n) e).1
    chosen false e = h

  least_passes : (xs : List X) (ids : List ℤ) (best : Option ℕ) → DoesPass xs best → DoesPass xs (fold (after_id test xs) best ids)
  least_passes xs [] best h = h
  least_passes xs (id ∷ ids) best h = least_passes xs ids (after_id test xs best id) (one_passes xs best (place_of id) h)

  one_stays : (xs : List X) (best o : Option ℕ) (k : ℕ) → IsUpTo best k → IsUpTo (lesser_place test xs best o) k
  one_stays xs best None k h = h
  one_stays xs None (Some n) k h = absurd h
  one_stays xs (Some m) (Some n) k h = chosen (nat_lt n m && passes_at test xs n) refl where
    chosen : (b : Bool) → (nat_lt n m && passes_at test xs n) ≡ b → IsUpTo (cond b (Some n) (Some m)) k
    chosen true e = let l = (and_parts (nat_lt n m) (passes_at test xs n) e).0 in grind (arith, nat_tests)
    chosen false e = h

  stays : (xs : List X) (ids : List ℤ) (best : Option ℕ) (k : ℕ) → IsUpTo best k → IsUpTo (fold (after_id test xs) best ids) k
  stays xs [] best k h = h
  stays xs (id ∷ ids) best k h = stays xs ids (after_id test xs best id) k (one_stays xs best (place_of id) k h)

  one_reaches : (xs : List X) (best : Option ℕ) (k : ℕ) → passes_at test xs k ≡ true → IsUpTo (lesser_place test xs best (Some k)) k
  one_reaches xs None k h = subst (λ b. IsUpTo (cond b (Some k) None) k) (sym h) (omega arith)
  one_reaches xs (Some m) k h = chosen (nat_lt k m) refl where
    chosen : (b : Bool) → nat_lt k m ≡ b → IsUpTo (cond (nat_lt k m && passes_at test xs k) (Some k) (Some m)) k
    chosen true e = rw (e, h) (omega arith)
    chosen false e = rw e (grind (arith, nat_tests))

  reaches : (xs : List X) (ids : List ℤ) (best : Option ℕ) (k : ℕ) → passes_at test xs k ≡ true → Contains ids (pos k) → IsUpTo (fold (after_id test xs) best ids) k
  reaches xs [] best k h there = absurd (Contains-none (pos k) there)
  reaches xs (id ∷ ids) best k h there = elim (Contains-cases id ids (pos k) there) [
    | inl same ↦ stays xs ids (after_id test xs best id) k (subst (λ (z : ℤ). IsUpTo (after_id test xs best z) k) (sym same) (one_reaches xs best k h))
    | inr on ↦ reaches xs ids (after_id test xs best id) k h on
  ]

  -- ---- it is the first

  abbrev shifted : ℕ → Option ℕ → Option ℕ
  shifted i None = None
  shifted i (Some n) = Some (i + n)

  is_first : (xs : List X) (i : ℕ) (o : Option ℕ) → DoesPass xs o → ((k : ℕ) → passes_at test xs k ≡ true → IsUpTo o k) → position_from test i xs ≡ shifted i o
  is_first [] i None h least = refl
  is_first [] i (Some n) h least = absurd (cc h)
  is_first (x ∷ xs) i o h least = by_test (is_first xs (i + 1)) (test x) refl o h least where
    by_test : ((o : Option ℕ) → DoesPass xs o → ((k : ℕ) → passes_at test xs k ≡ true → IsUpTo o k) → position_from test (i + 1) xs ≡ shifted (i + 1) o) → (b : Bool) → test x ≡ b
        → (o : Option ℕ) → DoesPass (x ∷ xs) o → ((k : ℕ) → passes_at test (x ∷ xs) k ≡ true → IsUpTo o k) → cond (test x) (Some i) (position_from test (i + 1) xs) ≡ shifted i o
    by_test later true e None h least = absurd (least 0 e)
    by_test later true e (Some n) h least = let l : n ≤ 0 = least 0 e in rw e (ap Some (let s : i ≡ i + n = omega arith in s))
    by_test later false e None h least = rw e (later None tt (λ k p. least (suc k) p))
    by_test later false e (Some zero) h least = absurd (cc (h, e))
    by_test later false e (Some (suc n)) h least =
        rw e (later (Some n) h (λ k p. let l : suc n ≤ suc k = least (suc k) p in omega arith) ∙ ap Some (let s : (i + 1) + n ≡ i + suc n = omega arith in s))

  none_shifted : (o : Option ℕ) → shifted 0 o ≡ o
  none_shifted None = refl
  none_shifted (Some n) = ap Some (let s : 0 + n ≡ n = omega arith in s)

  pub least_is_first : (xs : List X) (ids : List ℤ) → AreNamed test xs ids → least_place test xs ids ≡ position test xs
  least_is_first xs ids named = sym (position_from-zero test xs ∙ is_first xs 0 (least_place test xs ids) (least_passes xs ids None tt) (λ k p. reaches xs ids None k p (named k p)) ∙ none_shifted (least_place test xs ids))

  is_within : (xs : List X) (k : ℕ) → passes_at test xs k ≡ true → k < length xs
  is_within [] k h = absurd (cc h)
  is_within (x ∷ xs) zero h = omega arith
  is_within (x ∷ xs) (suc k) h = let l = is_within xs k h in omega arith

  pub least_within : (xs : List X) (ids : List ℤ) → IfSome (least_place test xs ids) (λ place. place < length xs)
  least_within xs ids = within (least_place test xs ids) (least_passes xs ids None tt) where
    within : (o : Option ℕ) → DoesPass xs o → IfSome o (λ place. place < length xs)
    within None h = tt
    within (Some k) h = is_within xs k h

-- ---- the forms of zones

module _ (service : List ℕ) (def : ServiceDef) where
  forms_push : (place : ℕ) (zones : List ZoneRow) (zone : ZoneRow) → zone_forms service def place (zones ++ zone ∷ []) ≡ zone_forms service def place zones ++ zone_form service def (place + length zones) zone ∷ []
  forms_push place [] zone = ap (λ (n : ℕ). zone_form service def n zone ∷ []) (let s : place ≡ place + 0 = omega arith in s)
  forms_push place (z ∷ zones) zone =
      ap (λ fs. zone_form service def place z ∷ fs)
      (forms_push (place + 1) zones zone
      ∙ ap (λ (n : ℕ). zone_forms service def (place + 1) zones ++ zone_form service def n zone ∷ []) (let s : (place + 1) + length zones ≡ place + length (z ∷ zones) = omega arith in s))

  -- one more
  pub forms_more : (forms : List Form) (zones : List ZoneRow) (i : ℕ) (zone : ZoneRow) (form : Form) → forms ≡ zone_forms service def 0 (take i zones)
      → form ≡ zone_form service def i zone → i < length zones → zone ≡ get_or zones i zone → forms ++ form ∷ [] ≡ zone_forms service def 0 (take (i + 1) zones)
  forms_more forms zones i zone form so e l is =
      let taken = length-take-le i zones (omega arith) in
      (λ k. so k ++ e k ∷ [])
      ∙ ap (λ (n : ℕ). zone_forms service def 0 (take i zones) ++ zone_form service def n zone ∷ []) (let s : i ≡ 0 + length (take i zones) = omega (arith, taken) in s)
      ∙ sym (forms_push 0 (take i zones) zone)
      ∙ ap (zone_forms service def 0) (sym (take_next i zones zone l is))

  none_later : (place later : ℕ) (zone : ZoneRow) (zones : List ZoneRow) → place < later → list_any (same_id (zone_form service def place zone)) (zone_forms service def later zones) ≡ false
  none_later place later zone [] l = refl
  none_later place later zone (z ∷ zones) l =
      let apart : int_eq (pos later) (pos place) ≡ false = grind (arith, ints) in
      ap (λ b. b || list_any (same_id (zone_form service def place zone)) (zone_forms service def (later + 1) zones)) apart ∙ none_later place (later + 1) zone zones (omega arith)

  pub forms_differ : (place : ℕ) (zones : List ZoneRow) → ids_differ (zone_forms service def place zones) ≡ true
  forms_differ place [] = refl
  forms_differ place (z ∷ zones) = ap (λ b. not b && ids_differ (zone_forms service def (place + 1) zones)) (none_later place (place + 1) z zones (omega arith)) ∙ forms_differ (place + 1) zones

  pub do_fit : (place : ℕ) (zones : List ZoneRow) → all_maps_fit service def zones ≡ true → forms_fit def (zone_forms service def place zones) ≡ true
  do_fit place [] h = refl
  do_fit place (z ∷ zones) h =
      let p = and_parts (maps_fit service def z) (all_maps_fit service def zones) h in
      and_from _ (forms_fit def (zone_forms service def (place + 1) zones)) (fit_values service def z p.0) (do_fit (place + 1) zones p.1)

  -- a zone in which the resource lies has its form among them, which lies on it
  abbrev IsFiled : List Element → List Form → ℕ → Type 0
  IsFiled elements forms id = (f : Form) × Contains forms f × (f.id ≡ pos id) × (some_lies def f.maps.items f.reach elements [] ≡ true)

  pub matched_is_filed : (elements : List Element) (zones : List RowMatching) (place : ℕ) → map (is_matched elements) zones ≡ map (in_zone service def elements) (rows_of zones)
      → (k : ℕ) → passes_at (is_matched elements) zones k ≡ true → IsFiled elements (zone_forms service def place (rows_of zones)) (place + k)
  matched_is_filed elements [] place e k h = absurd (cc h)
  matched_is_filed elements (z ∷ zones) place e zero h =
      let first : is_matched elements z ≡ in_zone service def elements z.row = cc e in
      let n : ℕ = place in
      (zone_form service def n z.row, Contains-first (zone_form service def n z.row) (zone_forms service def (n + 1) (rows_of zones)), ap pos (let s : place ≡ place + 0 = omega arith in s), matched service def z.row elements ∙ sym first ∙ h)
  matched_is_filed elements (z ∷ zones) place e (suc k) h =
      let rest : map (is_matched elements) zones ≡ map (in_zone service def elements) (rows_of zones) = cc e in
      let r = matched_is_filed elements zones (place + 1) rest k h in
      (r.0, Contains-later (zone_form service def place z.row) (zone_forms service def (place + 1) (rows_of zones)) r.0 r.1, r.2 ∙ ap pos (let s : (place + 1) + k ≡ place + suc k = omega arith in s), r.3)

  -- so the candidates name each
  pub all_named : (elements : List Element) (zones : List RowMatching) (ids : List ℤ) → map (is_matched elements) zones ≡ map (in_zone service def elements) (rows_of zones)
      → ((form : Form) → Contains (zone_forms service def 0 (rows_of zones)) form → some_lies def form.maps.items form.reach elements [] ≡ true → Contains ids form.id) → AreNamed (is_matched elements) zones ids
  all_named elements zones ids e all place h =
      let r = matched_is_filed elements zones 0 e place h in
      subst (Contains ids) (r.2 ∙ ap pos (let s : 0 + place ≡ place = omega arith in s)) (all r.0 r.1 r.3)
