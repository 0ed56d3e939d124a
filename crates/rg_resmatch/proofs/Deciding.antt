-- The tests decide the relations.
use Rattle.std.proofs.Common.{◌≡◌, ◌<◌, ◌↔◌, ◌&&◌, ℕ, Bool, true, false, not, if◌then◌else◌, IsTrue, List, [], ◌∷◌, length, map, Option, Some, None, option_map, slice_get, Contains, refl, sym, ap, subst, ◌∙◌, arith, inl, inr}
use Rattle.std.proofs.lemmas.Bool.{false≢true, and_parts, and_from, or_cases, or_left, or_right, not-true, not_from_false, false_from_ne_true}
use Rattle.std.proofs.lemmas.Simd.{map-map}
use Rattle.std.proofs.lemmas.Slice.Eq.{bytes_eq-Decides}
use Rattle.std.specs.List.{list_all, list_any}
use Rattle.std.specs.Option.{unwrap_or}
use Rattle.std.specs.Str.{bytes_eq}
use Rattle.rg_base.proofs.Lists.{all_from, all_holds, any_from, any_holds, list_any-map}
use Rattle.rg_base.specs.Texts.{is_among}
use Rattle.rg_defs.specs.declared.service_def.Level.{Level}
use Rattle.rg_defs.specs.declared.service_def.ServiceDef.{ServiceDef}
use Rattle.rg_defs.specs.Paths.{IsPath, level_of}
use Rattle.rg_defs.specs.PathTests.{has_name, lies_on, on_one_path, paths_of}
use Rattle.rg_pattern.specs.declared.atoms.Atom.{Atom}
use Rattle.rg_pattern.specs.Atoms.{twin}
use Rattle.rg_pattern.specs.Reading.{atoms_of}
use Rattle.rg_pattern.specs.Standing.{Stands}
use Rattle.rg_pattern.specs.Tests.{stands}
use Rattle.rg_policy.specs.declared.policy.PolicyResource.{PolicyResource}
use Rattle.rg_policy.specs.declared.policy.ResourceMap.{ResourceMap}
use Rattle.rg_policy.specs.declared.request.Element.{Element}
use Rattle.rg_resmatch.specs.declared.reach.Reach.{Reach}
use Rattle.rg_resmatch.specs.declared.reach.Reach.TheVariants.{Exact, Down}
use Rattle.rg_resmatch.specs.Lies.{Hit, Lies, LiesOn, SomeLies, SomeStands, Turned}
use Rattle.rg_resmatch.specs.Tests.{any_stands, hit, is_hit, is_open, is_some_element, levels_of, lies, may_name, meets, patterns_of, some_lies, some_stands, star, value_at}

abbrev pub StandsLaw : Type 0
StandsLaw = (fold : Bool) (user : List ℕ) (p : List Atom) (t : List ℕ) → IsTrue (stands fold user p t) ↔ Stands fold user p t

abbrev pub PathsLaw : ServiceDef → Type 0
PathsLaw def = (path : List ℕ) → Contains (paths_of def.levels.items) path ↔ IsPath def.levels.items path

-- one level

values_hold : StandsLaw → (fold : Bool) (user v : List ℕ) (f : List ℕ → List Atom) (texts : List (List ℕ)) → any_stands fold user v (map f texts) ≡ true
    → (t : List ℕ) × Contains texts t × Stands fold user (f t) v
values_hold law fold user v f texts h =
    let a = any_holds (λ t. stands fold user (f t) v) texts (sym (list_any-map (λ p. stands fold user p v) f texts) ∙ h) in
    (a.0, a.1, (law fold user (f a.0) v).0 a.2)

values_from : StandsLaw → (fold : Bool) (user v : List ℕ) (f : List ℕ → List Atom) (texts : List (List ℕ)) (t : List ℕ) → Contains texts t → Stands fold user (f t) v
    → any_stands fold user v (map f texts) ≡ true
values_from law fold user v f texts t within s =
    list_any-map (λ p. stands fold user p v) f texts ∙ any_from (λ t. stands fold user (f t) v) texts t within ((law fold user (f t) v).1 s)

twins_are : (wild : Bool) (texts : List (List ℕ)) → map twin (map (atoms_of wild) texts) ≡ map (λ t. twin (atoms_of wild t)) texts
twins_are wild texts = map-map twin (atoms_of wild) texts

some_hold : StandsLaw → (l : Level) (r : PolicyResource) (user v : List ℕ) → some_stands l r user v ≡ true → SomeStands l r user v
some_hold law l r user v h =
    let below = any_stands l.fold user v (map twin (patterns_of l r)) in
    elim (or_cases (any_stands l.fold user v (patterns_of l r)) (r.recursive && below) h) [
      | inl now ↦ inl (values_hold law l.fold user v (atoms_of l.wild) r.values.items now)
      | inr down ↦
          let parts = and_parts r.recursive below down in
          inr (parts.0, values_hold law l.fold user v (λ t. twin (atoms_of l.wild t)) r.values.items (ap (any_stands l.fold user v) (sym (twins_are l.wild r.values.items)) ∙ parts.1))
    ]

some_from : StandsLaw → (l : Level) (r : PolicyResource) (user v : List ℕ) → SomeStands l r user v → some_stands l r user v ≡ true
some_from law l r user v s = elim s [
  | inl now ↦ or_left _ _ (values_from law l.fold user v (atoms_of l.wild) r.values.items now.0 now.1 now.2)
  | inr down ↦ or_right _ _ (and_from _ _ down.0 (ap (any_stands l.fold user v) (twins_are l.wild r.values.items) ∙ values_from law l.fold user v (λ t. twin (atoms_of l.wild t)) r.values.items down.1.0 down.1.1 down.1.2))
]

turned_holds : (b s : Bool) (P : Type 0) → (P → s ≡ true) → (s ≡ true → P) → (if b then not s else s) ≡ true → Turned b P
turned_holds true s P f g h = λ p. false≢true (sym (not-true s h) ∙ f p)
turned_holds false s P f g h = g h

turned_from : (b s : Bool) (P : Type 0) → (P → s ≡ true) → (s ≡ true → P) → Turned b P → (if b then not s else s) ≡ true
turned_from true s P f g h = not_from_false s (false_from_ne_true s (λ t. h (g t)))
turned_from false s P f g h = f h

pub hit_holds : StandsLaw → (l : Level) (r : PolicyResource) (user v : List ℕ) → hit l r user v ≡ true → Hit l r user v
hit_holds law l r user v h = turned_holds r.excludes (some_stands l r user v) (SomeStands l r user v) (some_from law l r user v) (some_hold law l r user v) h

pub hit_from : StandsLaw → (l : Level) (r : PolicyResource) (user v : List ℕ) → Hit l r user v → hit l r user v ≡ true
hit_from law l r user v h = turned_from r.excludes (some_stands l r user v) (SomeStands l r user v) (some_from law l r user v) (some_hold law l r user v) h

-- the parts of lying

some_element : (elements : List Element) → is_some_element elements ≡ true → 0 < length elements
some_element [] h = absurd (false≢true h)
some_element (e ∷ es) h = omega arith

some_element_from : (elements : List Element) → 0 < length elements → is_some_element elements ≡ true
some_element_from [] h = absurd (omega arith)
some_element_from (e ∷ es) h = refl

named_there : (levels : List Level) (name : List ℕ) (place : ℕ) → has_name levels name place ≡ true → (l : Level) × (slice_get levels place ≡ Some l) × (l.name ≡ name)
named_there levels name place h = at (slice_get levels place) refl h where
  at : (o : Option Level) → slice_get levels place ≡ o → unwrap_or (option_map (λ (l : Level). bytes_eq l.name name) o) false ≡ true → (l : Level) × (slice_get levels place ≡ Some l) × (l.name ≡ name)
  at None e k = absurd (false≢true k)
  at (Some l) e k = (l, e, (bytes_eq-Decides l.name name).0 k)

on_path_holds : (levels : List Level) (path name : List ℕ) → lies_on levels path name ≡ true → LiesOn levels path name
on_path_holds levels path name h =
    let p = any_holds (has_name levels name) path h in
    let l = named_there levels name p.0 p.2 in
    (p.0, l.0, p.1, l.1, l.2)

on_path_from : (levels : List Level) (path name : List ℕ) → LiesOn levels path name → lies_on levels path name ≡ true
on_path_from levels path name p =
    any_from (has_name levels name) path p.0 p.2
    (ap (λ (o : Option Level). unwrap_or (option_map (λ (l : Level). bytes_eq l.name name) o) false) p.3 ∙ (bytes_eq-Decides p.1.name name).1 p.4)

hit_known : StandsLaw → (def : ServiceDef) (r : PolicyResource) (user v : List ℕ) → is_hit (level_of def r.level) r user v ≡ true → (l : Level) × (level_of def r.level ≡ Some l) × Hit l r user v
hit_known law def r user v h = at (level_of def r.level) refl h where
  at : (o : Option Level) → level_of def r.level ≡ o → is_hit o r user v ≡ true → (l : Level) × (level_of def r.level ≡ Some l) × Hit l r user v
  at None e k = absurd (false≢true k)
  at (Some l) e k = (l, e, hit_holds law l r user v k)

open_holds : (r : PolicyResource) → is_open r ≡ true → (r.excludes ≡ false) × Contains r.values.items star
open_holds r h =
    let parts = and_parts (not r.excludes) (is_among star r.values.items) h in
    let t = any_holds (λ t. bytes_eq t star) r.values.items parts.1 in
    (not-true r.excludes parts.0, subst (Contains r.values.items) ((bytes_eq-Decides t.0 star).0 t.2) t.1)

open_from : (r : PolicyResource) → r.excludes ≡ false → Contains r.values.items star → is_open r ≡ true
open_from r e h = and_from (not r.excludes) (is_among star r.values.items) (not_from_false r.excludes e) (any_from (λ t. bytes_eq t star) r.values.items star h ((bytes_eq-Decides star star).1 refl))

meets_from : StandsLaw → (def : ServiceDef) (user : List ℕ) (elements : List Element) (r : PolicyResource)
    → ((v : List ℕ) → value_at elements r.level ≡ Some v → (l : Level) × (level_of def r.level ≡ Some l) × Hit l r user v)
    → (value_at elements r.level ≡ None → (r.excludes ≡ false) × Contains r.values.items star)
    → (o : Option (List ℕ)) → value_at elements r.level ≡ o → meets def user r o ≡ true
meets_from law def user elements r both alone None e = let k = alone e in open_from r k.0 k.1
meets_from law def user elements r both alone (Some v) e =
    let k = both v e in
    ap (λ (o : Option Level). is_hit o r user v) k.1 ∙ hit_from law k.0 r user v k.2

may_from : (reach : Reach) (resources : List PolicyResource) (e : Element) → (reach ≡ Exact → (r : PolicyResource) × Contains resources r × (r.level ≡ e.level)) → may_name reach resources e ≡ true
may_from Exact resources e f = let r = f refl in any_from (λ (r : PolicyResource). bytes_eq r.level e.level) resources r.0 r.1 ((bytes_eq-Decides r.0.level e.level).1 r.2)
may_from Down resources e f = refl

pub lies_holds : StandsLaw → (def : ServiceDef) → PathsLaw def → (resources : List PolicyResource) (reach : Reach) (elements : List Element) (user : List ℕ)
    → lies def resources reach elements user ≡ true → Lies def resources reach elements user
lies_holds law def paths resources reach elements user h =
    let levels = def.levels.items in
    let one = on_one_path levels (levels_of resources elements) in
    let met = list_all (λ (r : PolicyResource). meets def user r (value_at elements r.level)) resources in
    let named = list_all (may_name reach resources) elements in
    let first = and_parts (is_some_element elements) (one && (met && named)) h in
    let second = and_parts one (met && named) first.1 in
    let third = and_parts met named second.1 in
    let path = any_holds (λ path. list_all (lies_on levels path) (levels_of resources elements)) (paths_of levels) second.0 in
    record {
      some = some_element elements first.0;
      path = (path.0, (paths path.0).0 path.1, λ name within. on_path_holds levels path.0 name (all_holds (lies_on levels path.0) (levels_of resources elements) path.2 name within));
      both = λ r v within e. hit_known law def r user v
          (ap (meets def user r) (sym e) ∙ all_holds (λ (r : PolicyResource). meets def user r (value_at elements r.level)) resources third.0 r within);
      alone = λ r within e. open_holds r
          (ap (meets def user r) (sym e) ∙ all_holds (λ (r : PolicyResource). meets def user r (value_at elements r.level)) resources third.0 r within);
      exact = λ exact e within.
          let r = any_holds (λ (r : PolicyResource). bytes_eq r.level e.level) resources (ap (λ (k : Reach). may_name k resources e) (sym exact) ∙ all_holds (may_name reach resources) elements third.1 e within) in
          (r.0, r.1, (bytes_eq-Decides r.0.level e.level).0 r.2);
    }

pub lies_from : StandsLaw → (def : ServiceDef) → PathsLaw def → (resources : List PolicyResource) (reach : Reach) (elements : List Element) (user : List ℕ)
    → Lies def resources reach elements user → lies def resources reach elements user ≡ true
lies_from law def paths resources reach elements user k =
    let levels = def.levels.items in
    and_from _ _ (some_element_from elements k.some)
    (and_from _ _ (any_from (λ path. list_all (lies_on levels path) (levels_of resources elements)) (paths_of levels) k.path.0 ((paths k.path.0).1 k.path.1)
    (all_from (lies_on levels k.path.0) (levels_of resources elements) (λ name within. on_path_from levels k.path.0 name (k.path.2 name within))))
    (and_from _ _ (all_from (λ (r : PolicyResource). meets def user r (value_at elements r.level)) resources
    (λ r within. meets_from law def user elements r (λ v e. k.both r v within e) (λ e. k.alone r within e) (value_at elements r.level) refl))
    (all_from (may_name reach resources) elements (λ e within. may_from reach resources e (λ exact. k.exact exact e within)))))

-- several maps

pub some_lies_holds : StandsLaw → (def : ServiceDef) → PathsLaw def → (maps : List ResourceMap) (reach : Reach) (elements : List Element) (user : List ℕ)
    → some_lies def maps reach elements user ≡ true → SomeLies def maps reach elements user
some_lies_holds law def paths maps reach elements user h =
    let m = any_holds (λ (m : ResourceMap). lies def m.levels.items reach elements user) maps h in
    (m.0, m.1, lies_holds law def paths m.0.levels.items reach elements user m.2)

pub some_lies_from : StandsLaw → (def : ServiceDef) → PathsLaw def → (maps : List ResourceMap) (reach : Reach) (elements : List Element) (user : List ℕ)
    → SomeLies def maps reach elements user → some_lies def maps reach elements user ≡ true
some_lies_from law def paths maps reach elements user m =
    any_from (λ (m : ResourceMap). lies def m.levels.items reach elements user) maps m.0 m.1 (lies_from law def paths m.0.levels.items reach elements user m.2)

both_ways : (a b : Bool) → (a ≡ true → b ≡ true) → (b ≡ true → a ≡ true) → a ≡ b
both_ways true true f g = refl
both_ways true false f g = absurd (false≢true (f refl))
both_ways false true f g = absurd (false≢true (g refl))
both_ways false false f g = refl

any_among : {X : Type 0} (p : X → Bool) (xs ys : List X) → ((x : X) → Contains xs x → Contains ys x) → list_any p xs ≡ true → list_any p ys ≡ true
any_among p xs ys f h = let x = any_holds p xs h in any_from p ys x.0 (f x.0 x.1) x.2

pub same_maps : (def : ServiceDef) (maps others : List ResourceMap) → ((m : ResourceMap) → Contains maps m ↔ Contains others m)
    → (reach : Reach) (elements : List Element) (user : List ℕ) → some_lies def maps reach elements user ≡ some_lies def others reach elements user
same_maps def maps others same reach elements user =
    let p = λ (m : ResourceMap). lies def m.levels.items reach elements user in
    both_ways _ _ (any_among p maps others (λ m. (same m).0)) (any_among p others maps (λ m. (same m).1))
