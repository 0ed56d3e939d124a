-- Zones that overlap no other, in the words of lists.
use Rattle.std.proofs.Common.{◌≡◌, ◌<◌, ◌+◌, ◌&&◌, ◌||◌, ◌++◌, ℕ, zero, suc, Bool, true, false, not, cond, nat_eq, List, [], ◌∷◌, length, map, filter, Option, Some, None, Contains, slice_get, refl, sym, ap, subst, ◌∙◌, inl, inr, arith}
use Rattle.std.proofs.lemmas.Bool.{and_from, and_parts, false≢true, not-true, not_from_false, or_left, or_right}
use Rattle.std.proofs.lemmas.List.Elements.{Contains-append_cases, Contains-append_left, Contains-append_right}
use Rattle.std.proofs.lemmas.Option.{none-some, same_Some, slice_get_within}
use Rattle.std.proofs.lemmas.Slice.Eq.{bytes_eq-Decides}
use Rattle.std.specs.List.{list_all, list_any}
use Rattle.std.specs.Option.{is_none}
use Rattle.std.specs.Str.{bytes_eq}
use Rattle.rg_base.specs.Listed.{Listed}
use Rattle.rg_base.specs.Texts.{all_distinct}
use Rattle.rg_base.proofs.Lists.{Contains-cases, Contains-filtered, Contains-mapped, Contains-slice_get, all_from, all_holds, any_from, any_holds}
use Rattle.rg_defs.specs.declared.service_def.Level.{Level}
use Rattle.rg_defs.specs.declared.service_def.ServiceDef.{ServiceDef}
use Rattle.rg_defs.specs.Paths.{level_of}
use Rattle.rg_pattern.specs.declared.atoms.Atom.{Atom}
use Rattle.rg_pattern.specs.declared.atoms.Atom.TheVariants.{Character, One, Any, User}
use Rattle.rg_pattern.specs.Tests.{cell, is_any, overlaps, share_char}
use Rattle.rg_zone_rules.specs.declared.row.ZoneLevel.{ZoneLevel}
use Rattle.rg_zone_rules.specs.declared.row.ZoneRow.{ZoneRow}
use Rattle.rg_zone_rules.specs.Overlap.{LevelPatterns, all_meet, at_pair, first_overlap, folds, holds_of, level_patterns, levels_meet, map_patterns, maps_overlap, needed_names, needs_none, patterns_overlap, reaches, share_levels, zones_overlap}
use Rattle.rg_zone_rules.specs.Zones.{maps_for}
use Rattle.rg_zones.proofs.Keys.{nat_eq-flip}
use Rattle.rg_zones.proofs.Least.{First, first_of}
use Rattle.rg_zones.proofs.Members.{bool_cases}

-- ---- truth values

pub same_bool : (a b : Bool) → (a ≡ true → b ≡ true) → (b ≡ true → a ≡ true) → a ≡ b
same_bool true b f g = sym (f refl)
same_bool false true f g = g refl
same_bool false false f g = refl

not_yet : (a b : Bool) → b ≡ false → (a ≡ true → b ≡ true) → a ≡ false
not_yet true b e f = absurd (false≢true (sym e ∙ f refl))
not_yet false b e f = refl

or_flip : (a b : Bool) → (a || b) ≡ (b || a)
or_flip true true = refl
or_flip true false = refl
or_flip false true = refl
or_flip false false = refl

either_flip : (s t x y : Bool) → (x ≡ true → y ≡ true) → ((s && t) || x) ≡ true → ((t && s) || y) ≡ true
either_flip true true x y f h = refl
either_flip true false x y f h = f h
either_flip false true x y f h = f h
either_flip false false x y f h = f h

-- ---- overlap is symmetric

nat_eq-comm : (m n : ℕ) → nat_eq m n ≡ nat_eq n m
nat_eq-comm m n = same_bool (nat_eq m n) (nat_eq n m) (nat_eq-flip m n) (nat_eq-flip n m)

share_flip : (fold : Bool) (a b : Atom) → share_char fold a b ≡ share_char fold b a
share_flip fold (Character c) (Character d) = nat_eq-comm _ _
share_flip fold (Character c) One = refl
share_flip fold (Character c) Any = refl
share_flip fold (Character c) User = refl
share_flip fold One (Character d) = refl
share_flip fold One One = refl
share_flip fold One Any = refl
share_flip fold One User = refl
share_flip fold Any (Character d) = refl
share_flip fold Any One = refl
share_flip fold Any Any = refl
share_flip fold Any User = refl
share_flip fold User (Character d) = refl
share_flip fold User One = refl
share_flip fold User Any = refl
share_flip fold User User = refl

cell_flip : (fold : Bool) (a b : Atom) (x y z : Bool) → cell fold a b x y z ≡ cell fold b a y x z
cell_flip fold a b x y z =
    ap (λ (some : Bool). cond some (x || y) (share_char fold a b && z)) (or_flip (is_any a) (is_any b))
    ∙ ap (λ (either : Bool). cond (is_any b || is_any a) either (share_char fold a b && z)) (or_flip x y)
    ∙ ap (λ (share : Bool). cond (is_any b || is_any a) (y || x) (share && z)) (share_flip fold a b)

none_flip : (fold : Bool) (p : List Atom) → overlaps fold p [] ≡ overlaps fold [] p
none_flip fold [] = refl
none_flip fold (a ∷ p) = ap (λ b. is_any a && b) (none_flip fold p)

more_flip : (fold : Bool) (a : Atom) (p : List Atom) → ((q : List Atom) → overlaps fold p q ≡ overlaps fold q p) → (q : List Atom) → overlaps fold (a ∷ p) q ≡ overlaps fold q (a ∷ p)
more_flip fold a p rest [] = none_flip fold (a ∷ p)
more_flip fold a p rest (b ∷ q) =
    ap (λ x. cell fold a b x (overlaps fold (a ∷ p) q) (overlaps fold p q)) (rest (b ∷ q))
    ∙ ap (λ y. cell fold a b (overlaps fold (b ∷ q) p) y (overlaps fold p q)) (more_flip fold a p rest q)
    ∙ ap (λ z. cell fold a b (overlaps fold (b ∷ q) p) (overlaps fold q (a ∷ p)) z) (rest q)
    ∙ cell_flip fold a b (overlaps fold (b ∷ q) p) (overlaps fold q (a ∷ p)) (overlaps fold q p)

overlaps_flip : (fold : Bool) (p q : List Atom) → overlaps fold p q ≡ overlaps fold q p
overlaps_flip fold [] q = sym (none_flip fold q)
overlaps_flip fold (a ∷ p) q = more_flip fold a p (overlaps_flip fold p) q

any_flip : {X Y : Type 0} (f : X → Y → Bool) (g : Y → X → Bool) (xs : List X) (ys : List Y) → ((x : X) (y : Y) → Contains xs x → Contains ys y → f x y ≡ true → g y x ≡ true)
    → list_any (λ x. list_any (f x) ys) xs ≡ true → list_any (λ y. list_any (g y) xs) ys ≡ true
any_flip f g xs ys e h =
    let x = any_holds (λ x. list_any (f x) ys) xs h in
    let y = any_holds (f x.0) ys x.2 in
    any_from (λ y. list_any (g y) xs) ys y.0 y.1 (any_from (g y.0) xs x.0 x.1 (e x.0 y.0 x.1 y.1 y.2))

all_flip : {X Y : Type 0} (f : X → Y → Bool) (g : Y → X → Bool) (xs : List X) (ys : List Y) → ((x : X) (y : Y) → Contains xs x → Contains ys y → f x y ≡ true → g y x ≡ true)
    → list_all (λ x. list_all (f x) ys) xs ≡ true → list_all (λ y. list_all (g y) xs) ys ≡ true
all_flip f g xs ys e h =
    all_from (λ y. list_all (g y) xs) ys (λ y u. all_from (g y) xs (λ x w. e x y w u (all_holds (f x) ys (all_holds (λ x. list_all (f x) ys) xs h x w) y u)))

patterns_flip : (f g : Bool) (ps qs : List (List Atom)) → f ≡ g → patterns_overlap f ps qs ≡ true → patterns_overlap g qs ps ≡ true
patterns_flip f g ps qs same h =
    any_flip (overlaps f) (overlaps g) ps qs (λ p q w u k. sym (overlaps_flip g p q) ∙ ap (λ (fold : Bool). overlaps fold p q) (sym same) ∙ k) h

level_flip : (a b : LevelPatterns) → (a.name ≡ b.name → a.fold ≡ b.fold) → levels_meet a b ≡ true → levels_meet b a ≡ true
level_flip a b alike h = elim (bool_cases (bytes_eq b.name a.name)) [
  | inr apart ↦ or_left (not (bytes_eq b.name a.name)) _ (not_from_false _ apart)
  | inl same ↦
      let e = sym ((bytes_eq-Decides b.name a.name).0 same) in
      or_right (not (bytes_eq b.name a.name)) _ (either_flip a.lists_star b.lists_star _ _ (patterns_flip a.fold b.fold a.patterns b.patterns (alike e)) (at (bytes_eq a.name b.name) ((bytes_eq-Decides a.name b.name).1 e) h))
] where
  at : (n : Bool) → n ≡ true → (not n || ((a.lists_star && b.lists_star) || patterns_overlap a.fold a.patterns b.patterns)) ≡ true → ((a.lists_star && b.lists_star) || patterns_overlap a.fold a.patterns b.patterns) ≡ true
  at true e k = k
  at false e k = absurd (false≢true e)

share_flip-levels : (levels : List Level) (ms ns : List LevelPatterns) → share_levels levels ms ns ≡ true → share_levels levels ns ms ≡ true
share_flip-levels levels ms ns h = at (needs_none ms) (needs_none ns) h where
  one : List LevelPatterns → List LevelPatterns → Bool
  one = λ ms ns. list_any (λ (l : Level). reaches levels ms (l.name ∷ []) && reaches levels ns (l.name ∷ [])) levels

  needed : List LevelPatterns → List LevelPatterns → Bool
  needed = λ ms ns. reaches levels ms (needed_names ns) && reaches levels ns (needed_names ms)

  turned : needed ms ns ≡ true → needed ns ms ≡ true
  turned k = let p = and_parts (reaches levels ms (needed_names ns)) (reaches levels ns (needed_names ms)) k in and_from _ _ p.1 p.0

  at : (a b : Bool) → cond (a && b) (one ms ns) (needed ms ns) ≡ true → cond (b && a) (one ns ms) (needed ns ms) ≡ true
  at true true k =
      let l = any_holds (λ (l : Level). reaches levels ms (l.name ∷ []) && reaches levels ns (l.name ∷ [])) levels k in
      let p = and_parts (reaches levels ms (l.0.name ∷ [])) (reaches levels ns (l.0.name ∷ [])) l.2 in
      any_from (λ (l : Level). reaches levels ns (l.name ∷ []) && reaches levels ms (l.name ∷ [])) levels l.0 l.1 (and_from _ _ p.1 p.0)
  at true false k = turned k
  at false true k = turned k
  at false false k = turned k

maps_flip : (def : ServiceDef) (m n : Listed ZoneLevel) → maps_overlap def m n ≡ true → maps_overlap def n m ≡ true
maps_flip def m n h =
    let ms = map_patterns def m in
    let ns = map_patterns def n in
    let p = and_parts (share_levels def.levels.items ms ns) (all_meet ms ns) h in
    and_from (share_levels def.levels.items ns ms) (all_meet ns ms) (share_flip-levels def.levels.items ms ns p.0)
    (all_flip levels_meet levels_meet ms ns (λ a b w u k. level_flip a b (alike a b w u) k) p.1) where
      fold_of : (m : Listed ZoneLevel) (a : LevelPatterns) → Contains (map_patterns def m) a → a.fold ≡ folds (level_of def a.name)
      fold_of m a w = let l = Contains-mapped (level_patterns def) m.items a w in subst (λ (a : LevelPatterns). a.fold ≡ folds (level_of def a.name)) l.2 refl

      alike : (a b : LevelPatterns) → Contains (map_patterns def m) a → Contains (map_patterns def n) b → a.name ≡ b.name → a.fold ≡ b.fold
      alike a b w u e = fold_of m a w ∙ ap (λ (name : List ℕ). folds (level_of def name)) e ∙ sym (fold_of n b u)

zones_flip : (service : List ℕ) (def : ServiceDef) (a b : ZoneRow) → zones_overlap service def a b ≡ true → zones_overlap service def b a ≡ true
zones_flip service def a b h = any_flip (maps_overlap def) (maps_overlap def) (maps_for service a) (maps_for service b) (λ m n w u k. maps_flip def m n k) h

pub symmetric : (service : List ℕ) (def : ServiceDef) (a b : ZoneRow) → zones_overlap service def a b ≡ zones_overlap service def b a
symmetric service def a b = same_bool (zones_overlap service def a b) (zones_overlap service def b a) (zones_flip service def a b) (zones_flip service def b a)

-- ---- lists of which no element is the same as one after it

any_place : {X : Type 0} (p : X → Bool) (xs : List X) → list_any p xs ≡ true → (k : ℕ) × (y : X) × (slice_get xs k ≡ Some y) × (p y ≡ true)
any_place p [] h = absurd (false≢true h)
any_place {X = X} p (x ∷ xs) h = at (p x) refl h (any_place p xs) where
  at : (b : Bool) → p x ≡ b → (b || list_any p xs) ≡ true → (list_any p xs ≡ true → (k : ℕ) × (y : X) × (slice_get xs k ≡ Some y) × (p y ≡ true))
      → (k : ℕ) × (y : X) × (slice_get (x ∷ xs) k ≡ Some y) × (p y ≡ true)
  at true e k rest = (0, x, refl, e)
  at false e k rest = let r = rest k in (suc r.0, r.1, r.2, r.3)

distinct_from : {X : Type 0} (same : X → X → Bool) (xs : List X) → ((i j : ℕ) → i < j → j < length xs → at_pair same xs (i, j) ≡ false) → all_distinct same xs ≡ true
distinct_from same [] h = refl
distinct_from same (x ∷ xs) h =
    and_from (not (list_any (same x) xs)) (all_distinct same xs)
    (elim (bool_cases (list_any (same x) xs)) [
      | inl some ↦
          let r = any_place (same x) xs some in
          let within = slice_get_within xs r.0 r.1 r.2 in
          absurd (false≢true (sym (h 0 (suc r.0) (omega arith) (omega arith)) ∙ ap (λ o. holds_of same (Some x) o) r.2 ∙ r.3))
      | inr none ↦ not_from_false (list_any (same x) xs) none
    ])
    (distinct_from same xs (λ i j less within. h (suc i) (suc j) (omega arith) (omega arith)))

distinct_at : {X : Type 0} (same : X → X → Bool) (xs : List X) → all_distinct same xs ≡ true → (i j : ℕ) → i < j → (x y : X) → slice_get xs i ≡ Some x → slice_get xs j ≡ Some y → same x y ≡ false
distinct_at same [] h i j less x y e f = absurd (none-some x e)
distinct_at same (z ∷ zs) h zero zero less x y e f = absurd (omega arith)
distinct_at same (z ∷ zs) h zero (suc j) less x y e f =
    let none = not-true (list_any (same z) zs) (and_parts (not (list_any (same z) zs)) (all_distinct same zs) h).0 in
    ap (λ x. same x y) (sym (same_Some z x e)) ∙ not_yet (same z y) (list_any (same z) zs) none (λ k. any_from (same z) zs y (Contains-slice_get zs j y f) k)
distinct_at same (z ∷ zs) h (suc i) zero less x y e f = absurd (omega arith)
distinct_at same (z ∷ zs) h (suc i) (suc j) less x y e f = distinct_at same zs (and_parts (not (list_any (same z) zs)) (all_distinct same zs) h).1 i j (omega arith) x y e f

pub by_pairs : (service : List ℕ) (def : ServiceDef) (zones : List ZoneRow) → is_none (first_overlap service def zones) ≡ all_distinct (zones_overlap service def) zones
by_pairs service def zones = at (first_overlap service def zones) (first_of (at_pair (zones_overlap service def) zones) (length zones) (length zones) 0 (omega arith)) where
  same : ZoneRow → ZoneRow → Bool
  same = zones_overlap service def

  there : (o q : Option ZoneRow) → holds_of same o q ≡ true → (x y : ZoneRow) × (o ≡ Some x) × (q ≡ Some y) × (same x y ≡ true)
  there None q h = absurd (false≢true h)
  there (Some x) None h = absurd (false≢true h)
  there (Some x) (Some y) h = (x, y, refl, refl, h)

  at : (o : Option (ℕ × ℕ)) → First (at_pair same zones) 0 (length zones) o → is_none o ≡ all_distinct same zones
  at None r = sym (distinct_from same zones (λ i j less within. r i j (omega arith) less within))
  at (Some q) r =
      let p = there (slice_get zones q.0) (slice_get zones q.1) r.3 in
      sym (not_yet (all_distinct same zones) false refl (λ h. sym (distinct_at same zones h q.0 q.1 r.1 p.0 p.1 p.2 p.3) ∙ p.4))

pub fewer : {X : Type 0} (same : X → X → Bool) (p : X → Bool) (xs : List X) → all_distinct same xs ≡ true → all_distinct same (filter p xs) ≡ true
fewer same p [] h = refl
fewer same p (x ∷ xs) h =
    let parts = and_parts (not (list_any (same x) xs)) (all_distinct same xs) h in
    let none : list_any (same x) (filter p xs) ≡ false = not_yet (list_any (same x) (filter p xs)) (list_any (same x) xs) (not-true (list_any (same x) xs) parts.0)
    (λ k. let y = any_holds (same x) (filter p xs) k in any_from (same x) xs y.0 (Contains-filtered p xs y.0 y.1).0 y.2) in
    at (p x) (not_from_false (list_any (same x) (filter p xs)) none) (fewer same p xs parts.1) where
      at : (b : Bool) → not (list_any (same x) (filter p xs)) ≡ true → all_distinct same (filter p xs) ≡ true → all_distinct same (cond b (x ∷ filter p xs) (filter p xs)) ≡ true
      at true none rest = and_from (not (list_any (same x) (filter p xs))) (all_distinct same (filter p xs)) none rest
      at false none rest = rest

distinct_after : {X : Type 0} (same : X → X → Bool) (xs ys : List X) → all_distinct same (xs ++ ys) ≡ true → all_distinct same ys ≡ true
distinct_after same [] ys h = h
distinct_after same (x ∷ xs) ys h = distinct_after same xs ys (and_parts (not (list_any (same x) (xs ++ ys))) (all_distinct same (xs ++ ys)) h).1

pub replaced : {X : Type 0} (same : X → X → Bool) → ((x y : X) → same x y ≡ same y x) → (before old after : List X) (z : X) → all_distinct same (before ++ (old ++ after)) ≡ true
    → list_any (same z) (before ++ after) ≡ false → all_distinct same (before ++ z ∷ after) ≡ true
replaced same flip [] old after z h none = and_from (not (list_any (same z) after)) (all_distinct same after) (not_from_false _ none) (distinct_after same old after h)
replaced same flip (x ∷ before) old after z h none =
    let parts = and_parts (not (list_any (same x) (before ++ (old ++ after)))) (all_distinct same (before ++ (old ++ after))) h in
    let rest = not_yet (list_any (same z) (before ++ after)) (same z x || list_any (same z) (before ++ after)) none (λ k. or_right (same z x) _ k) in
    let here = not_yet (same z x) (same z x || list_any (same z) (before ++ after)) none (λ k. or_left (same z x) _ k) in
    let apart = not-true (list_any (same x) (before ++ (old ++ after))) parts.0 in
    and_from (not (list_any (same x) (before ++ z ∷ after))) (all_distinct same (before ++ z ∷ after))
    (not_from_false _ (elim (bool_cases (list_any (same x) (before ++ z ∷ after))) [
      | inr fails ↦ fails
      | inl some ↦
          let y = any_holds (same x) (before ++ z ∷ after) some in
          let in_all : Contains (before ++ (old ++ after)) y.0 → list_any (same x) (before ++ z ∷ after) ≡ false =
          λ w. absurd (false≢true (sym apart ∙ any_from (same x) (before ++ (old ++ after)) y.0 w y.2)) in
          elim (Contains-append_cases before (z ∷ after) y.0 y.1) [
            | inl left ↦ in_all (Contains-append_left before (old ++ after) y.0 left)
            | inr right ↦ elim (Contains-cases z after y.0 right) [
              | inl it ↦ absurd (false≢true (sym here ∙ flip z x ∙ ap (same x) it ∙ y.2))
              | inr on ↦ in_all (Contains-append_right before (old ++ after) y.0 (Contains-append_right old after y.0 on))
            ]
          ]
    ]))
    (replaced same flip before old after z parts.1 rest)
