-- A resource that lies on two maps shows that these overlap.
use Rattle.std.proofs.Common.{◌≡◌, ◌&&◌, ◌||◌, ◌++◌, ℕ, Bool, true, false, not, cond, if◌then◌else◌, IsTrue, List, [], ◌∷◌, map, Option, Some, None, option_map, slice_get, refl, sym, ap, subst, ◌∙◌, inl, inr}
use Rattle.std.proofs.lemmas.Bool.{false≢true, and_from, and_parts, not-true, not_from_false, or_left, or_right}
use Rattle.std.proofs.lemmas.Option.{none-some, same_Some}
use Rattle.std.proofs.lemmas.Slice.Eq.{bytes_eq-Decides}
use Rattle.std.specs.List.{find, list_all, list_any}
use Rattle.std.specs.Option.{unwrap_or}
use Rattle.std.specs.Str.{all_scalars, bytes_eq}
use Rattle.rg_defs.specs.declared.service_def.Level.{Level}
use Rattle.rg_defs.specs.declared.service_def.ServiceDef.{ServiceDef}
use Rattle.rg_defs.specs.Paths.{level_of}
use Rattle.rg_defs.specs.PathTests.{has_name, lies_on, on_one_path, paths_of}
use Rattle.rg_pattern.specs.declared.atoms.Atom.{Atom}
use Rattle.rg_pattern.specs.Atoms.{has_user}
use Rattle.rg_pattern.specs.Standing.{Overlap, Stands}
use Rattle.rg_pattern.specs.Tests.{overlaps, stands}
use Rattle.rg_policy.specs.declared.request.Element.{Element}
use Rattle.rg_resmatch.specs.Tests.{any_stands, is_some_element, value_at}
use Rattle.rg_zone_rules.specs.Overlap.{LevelPatterns, folds, are_texts, level_names, levels_meet, needed_names, needs_none, patterns_meet, patterns_overlap, reaches, share_levels}
use Rattle.rg_zones.proofs.Forms.{IsForm, form_lies, met}
use Rattle.rg_zones.proofs.Members.{Has, all_has, any_has, bool_cases, has_all, has_any, has_cases, has_filtered, has_get, has_left, has_map, has_mapped, has_right}

abbrev pub StandsLaw : Type 0
StandsLaw = (fold : Bool) (user : List ℕ) (p : List Atom) (t : List ℕ) → (IsTrue (stands fold user p t) → Stands fold user p t) × (Stands fold user p t → IsTrue (stands fold user p t))

abbrev pub ShownLaw : Type 0
ShownLaw = (fold : Bool) (p q : List Atom) → has_user p ≡ false → has_user q ≡ false → Overlap fold p q → IsTrue (overlaps fold p q)

abbrev pub element_names : List Element → List (List ℕ)
element_names elements = map (λ (e : Element). e.level) elements

-- the value of the first element
pub value_first : (e : Element) (es : List Element) (name : List ℕ) → value_at (e ∷ es) name ≡ cond (bytes_eq e.level name) (Some e.value) (value_at es name)
value_first e es name = at (bytes_eq e.level name) where
  at : (b : Bool) → option_map (λ (e : Element). e.value) (cond b (Some e) (find (λ (e : Element). bytes_eq e.level name) es)) ≡ cond b (Some e.value) (value_at es name)
  at true = refl
  at false = refl

-- a value is that of an element
pub value_in : (elements : List Element) (name v : List ℕ) → value_at elements name ≡ Some v → (e : Element) × Has elements e × (e.level ≡ name) × (e.value ≡ v)
value_in [] name v h = absurd (none-some v h)
value_in (e ∷ es) name v h = at (bytes_eq e.level name) refl (sym (value_first e es name) ∙ h) (value_in es name v) where
  at : (b : Bool) → bytes_eq e.level name ≡ b → cond b (Some e.value) (value_at es name) ≡ Some v
      → (value_at es name ≡ Some v → (e : Element) × Has es e × (e.level ≡ name) × (e.value ≡ v)) → (d : Element) × Has (e ∷ es) d × (d.level ≡ name) × (d.value ≡ v)
  at true k g rest = (e, inl refl, (bytes_eq-Decides e.level name).0 k, same_Some e.value v g)
  at false k g rest = let r = rest g in (r.0, inr r.1, r.2, r.3)

-- fewer names lie on one path too
pub on_fewer : (levels : List Level) (xs ys : List (List ℕ)) → on_one_path levels xs ≡ true → ((y : List ℕ) → Has ys y → Has xs y) → on_one_path levels ys ≡ true
on_fewer levels xs ys h f =
    let path = has_any (λ path. list_all (lies_on levels path) xs) (paths_of levels) h in
    any_has (λ path. list_all (lies_on levels path) ys) (paths_of levels) path.0 path.1
    (all_has (lies_on levels path.0) ys (λ y w. has_all (lies_on levels path.0) xs path.2 y (f y w)))

-- a name on a path is that of a level
level_on : (levels : List Level) (xs : List (List ℕ)) (x : List ℕ) → on_one_path levels xs ≡ true → Has xs x → (l : Level) × Has levels l × (l.name ≡ x)
level_on levels xs x h w =
    let path = has_any (λ path. list_all (lies_on levels path) xs) (paths_of levels) h in
    let place = has_any (has_name levels x) path.0 (has_all (lies_on levels path.0) xs path.2 x w) in
    at place.0 (slice_get levels place.0) refl place.2 where
      at : (place : ℕ) (o : Option Level) → slice_get levels place ≡ o → unwrap_or (option_map (λ (l : Level). bytes_eq l.name x) o) false ≡ true → (l : Level) × Has levels l × (l.name ≡ x)
      at place None e k = absurd (false≢true k)
      at place (Some l) e k = (l, has_get levels place l e, (bytes_eq-Decides l.name x).0 k)

-- what a resource on a map names
needs_value : (a : LevelPatterns) (o : Option (List ℕ)) → a.lists_star ≡ false → met a o ≡ true → (v : List ℕ) × (o ≡ Some v)
needs_value a None e h = absurd (false≢true (sym e ∙ h))
needs_value a (Some v) e h = (v, refl)

abbrev pub Lying : List Level → List LevelPatterns → List Element → Type 0
Lying levels ms elements = (is_some_element elements ≡ true)
    × (on_one_path levels (level_names ms ++ element_names elements) ≡ true)
    × ((a : LevelPatterns) → Has ms a → met a (value_at elements a.name) ≡ true)

pub lying : (levels : List Level) (ms : List LevelPatterns) (elements : List Element) → form_lies levels ms elements ≡ true → Lying levels ms elements
lying levels ms elements h =
    let first = and_parts (is_some_element elements) _ h in
    let second = and_parts (on_one_path levels (level_names ms ++ element_names elements)) _ first.1 in
    (first.0, second.0, has_all (λ (a : LevelPatterns). met a (value_at elements a.name)) ms second.1)

pub needed_level : (ms : List LevelPatterns) (x : List ℕ) → Has (needed_names ms) x → (a : LevelPatterns) × Has ms a × (a.lists_star ≡ false) × (a.name ≡ x)
needed_level ms x h =
    let a = has_mapped (λ (a : LevelPatterns). a.name) _ x h in
    let k = has_filtered (λ (a : LevelPatterns). not a.lists_star) ms a.0 a.1 in
    (a.0, k.0, not-true a.0.lists_star k.1, a.2)

names_needed : (levels : List Level) (ms : List LevelPatterns) (elements : List Element) → Lying levels ms elements → (x : List ℕ) → Has (needed_names ms) x → Has (element_names elements) x
names_needed levels ms elements k x h =
    let a = needed_level ms x h in
    let v = needs_value a.0 (value_at elements a.0.name) a.2 (k.2 a.0 a.1) in
    let e = value_in elements a.0.name v.0 v.1 in
    subst (Has (element_names elements)) (e.2 ∙ a.3) (has_map (λ (e : Element). e.level) elements e.0 e.1)

reaches_named : (levels : List Level) (ms : List LevelPatterns) (elements : List Element) → Lying levels ms elements → (names : List (List ℕ)) → ((x : List ℕ) → Has names x → Has (element_names elements) x)
    → reaches levels ms names ≡ true
reaches_named levels ms elements k names f = on_fewer levels (level_names ms ++ element_names elements) (level_names ms ++ names) k.1
    (λ y w. elim (has_cases (level_names ms) names y w) [
      | inl left ↦ has_left (level_names ms) (element_names elements) y left
      | inr right ↦ has_right (level_names ms) (element_names elements) y (f y right)
    ])

share_any : (levels : List Level) (ms ns : List LevelPatterns) (elements : List Element) → Lying levels ms elements → Lying levels ns elements
    → list_any (λ (l : Level). reaches levels ms (l.name ∷ []) && reaches levels ns (l.name ∷ [])) levels ≡ true
share_any levels ms ns [] k g = absurd (false≢true k.0)
share_any levels ms ns (e ∷ es) k g =
    let l = level_on levels (level_names ms ++ element_names (e ∷ es)) e.level k.1 (has_right (level_names ms) (element_names (e ∷ es)) e.level (inl refl)) in
    let named : (x : List ℕ) → Has (l.0.name ∷ []) x → Has (element_names (e ∷ es)) x = λ x w. elim w [
      | inl same ↦ subst (Has (element_names (e ∷ es))) (sym l.2 ∙ same) (inl refl)
      | inr none ↦ absurd none
    ] in
    any_has (λ (l : Level). reaches levels ms (l.name ∷ []) && reaches levels ns (l.name ∷ [])) levels l.0 l.1
    (and_from _ _ (reaches_named levels ms (e ∷ es) k (l.0.name ∷ []) named) (reaches_named levels ns (e ∷ es) g (l.0.name ∷ []) named))

share_shown : (levels : List Level) (ms ns : List LevelPatterns) (elements : List Element) → Lying levels ms elements → Lying levels ns elements → share_levels levels ms ns ≡ true
share_shown levels ms ns elements k g = at (needs_none ms && needs_none ns) where
  at : (b : Bool) → (if b then list_any (λ (l : Level). reaches levels ms (l.name ∷ []) && reaches levels ns (l.name ∷ [])) levels
      else reaches levels ms (needed_names ns) && reaches levels ns (needed_names ms)) ≡ true
  at true = share_any levels ms ns elements k g
  at false = and_from _ _ (reaches_named levels ms elements k (needed_names ns) (names_needed levels ns elements g)) (reaches_named levels ns elements g (needed_names ms) (names_needed levels ms elements k))

-- a common value shows that the patterns overlap
patterns_shown : StandsLaw → ShownLaw → (fold : Bool) (ps qs : List (List Atom)) → ((p : List Atom) → Has ps p → has_user p ≡ false) → ((q : List Atom) → Has qs q → has_user q ≡ false)
    → (v : List ℕ) → all_scalars v ≡ true → any_stands fold [] v ps ≡ true → any_stands fold [] v qs ≡ true → patterns_overlap fold ps qs ≡ true
patterns_shown stand shown fold ps qs plain other v text h g =
    let p = has_any (λ p. stands fold [] p v) ps h in
    let q = has_any (λ q. stands fold [] q v) qs g in
    any_has (λ p. list_any (overlaps fold p) qs) ps p.0 p.1
    (any_has (overlaps fold p.0) qs q.0 q.1 (shown fold p.0 q.0 (plain p.0 p.1) (other q.0 q.1) (v, text, (stand fold [] p.0 v).0 p.2, (stand fold [] q.0 v).0 q.2)))

same_fold : (def : ServiceDef) (ms ns : List LevelPatterns) → IsForm def ms → IsForm def ns → (a b : LevelPatterns) → Has ms a → Has ns b → a.name ≡ b.name → a.fold ≡ b.fold
same_fold def ms ns m n a b w u e = m.folds a w ∙ ap (λ (name : List ℕ). folds (level_of def name)) e ∙ sym (n.folds b u)

meet_shown : StandsLaw → ShownLaw → (def : ServiceDef) (ms ns : List LevelPatterns) → IsForm def ms → IsForm def ns → (elements : List Element) → are_texts elements ≡ true
    → ((a : LevelPatterns) → Has ms a → met a (value_at elements a.name) ≡ true) → ((a : LevelPatterns) → Has ns a → met a (value_at elements a.name) ≡ true)
    → (a b : LevelPatterns) → Has ms a → Has ns b → levels_meet a b ≡ true
meet_shown stand shown def ms ns m n elements texts k g a b w u =
    elim (bool_cases (bytes_eq a.name b.name)) [
      | inl same ↦
          let e = (bytes_eq-Decides a.name b.name).0 same in
          or_right (not (bytes_eq a.name b.name)) _ (at e (value_at elements a.name) refl (k a w) (ap (λ (name : List ℕ). met b (value_at elements name)) e ∙ g b u))
      | inr apart ↦ or_left (not (bytes_eq a.name b.name)) _ (not_from_false _ apart)
    ] where
      at : a.name ≡ b.name → (o : Option (List ℕ)) → value_at elements a.name ≡ o → met a o ≡ true → met b o ≡ true → ((a.lists_star && b.lists_star) || patterns_overlap a.fold a.patterns b.patterns) ≡ true
      at e None is h i = or_left _ _ (and_from a.lists_star b.lists_star h i)
      at e (Some v) is h i =
          let el = value_in elements a.name v is in
          let text = ap all_scalars (sym el.3) ∙ has_all (λ (e : Element). all_scalars e.value) elements texts el.0 el.1 in
          or_right _ _ (patterns_shown stand shown a.fold a.patterns b.patterns (m.plain a w) (n.plain b u) v text h (ap (λ (fold : Bool). any_stands fold [] v b.patterns) (same_fold def ms ns m n a b w u e) ∙ i))

pub forms_shown : StandsLaw → ShownLaw → (def : ServiceDef) (ms ns : List LevelPatterns) → IsForm def ms → IsForm def ns → (elements : List Element) → are_texts elements ≡ true
    → form_lies def.levels.items ms elements ≡ true → form_lies def.levels.items ns elements ≡ true → patterns_meet def.levels.items ms ns ≡ true
forms_shown stand shown def ms ns m n elements texts h i =
    let k = lying def.levels.items ms elements h in
    let g = lying def.levels.items ns elements i in
    and_from _ _ (share_shown def.levels.items ms ns elements k g)
    (all_has (λ a. list_all (levels_meet a) ns) ms (λ a w. all_has (levels_meet a) ns (λ b u. meet_shown stand shown def ms ns m n elements texts k.2 g.2 a b w u)))
