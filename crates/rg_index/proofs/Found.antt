-- What is found at a level, and that each form that lies on a resource is.
use Rattle.std.proofs.Common.{◌≡◌, ◌⊎◌, ◌&&◌, ℕ, ℤ, Bool, true, false, not, cond, if◌then◌else◌, List, [], ◌∷◌, Option, Some, None, Contains, IsTrue, length, map, filter, nat_eq, option_map, slice_get, unwrap_or, refl, sym, ap, subst, ◌∙◌, inl, inr, arith}
use Rattle.std.proofs.lemmas.Bool.{and_parts, false≢true, not_from_false, or_cases}
use Rattle.std.proofs.lemmas.List.{length-map}
use Rattle.std.proofs.lemmas.List.Elements.{Contains-append_left, Contains-append_right}
use Rattle.std.proofs.lemmas.Option.{none-some, same_Some}
use Rattle.std.proofs.lemmas.Slice.Eq.{bytes_eq-Decides}
use Rattle.std.specs.List.{find, flat_map, list_all, starts_with}
use Rattle.std.specs.Str.{bytes_eq}
use Rattle.rg_base.proofs.Lists.{Contains-cases, Contains-filter, Contains-filtered, Contains-flat_map, Contains-flat_mapped, Contains-map, Contains-mapped, Contains-none, Contains-slice_get, all_holds, any_holds, find_contained}
use Rattle.rg_base.specs.Folding.{folded}
use Rattle.rg_defs.specs.declared.service_def.Level.{Level}
use Rattle.rg_defs.specs.declared.service_def.ServiceDef.{ServiceDef}
use Rattle.rg_defs.specs.Paths.{level_of}
use Rattle.rg_defs.specs.PathTests.{has_name, lies_on, on_one_path, paths_of}
use Rattle.rg_pattern.specs.declared.atoms.Atom.{Atom}
use Rattle.rg_pattern.specs.Atoms.{literal_prefix, twin}
use Rattle.rg_pattern.specs.Reading.{atoms_of}
use Rattle.rg_pattern.specs.Standing.{Stands}
use Rattle.rg_pattern.specs.Tests.{stands}
use Rattle.rg_policy.specs.declared.policy.PolicyResource.{PolicyResource}
use Rattle.rg_policy.specs.declared.policy.ResourceMap.{ResourceMap}
use Rattle.rg_policy.specs.declared.request.Element.{Element}
use Rattle.rg_resmatch.specs.declared.reach.Reach.{Reach}
use Rattle.rg_resmatch.specs.declared.reach.Reach.TheVariants.{Exact, Down}
use Rattle.rg_resmatch.specs.Tests.{any_stands, is_hit, is_some_element, levels_of, lies, may_name, meets, names_level, patterns_of, some_lies, some_stands, value_at}
use Rattle.rg_trie.specs.declared.pair.Pair.{Pair}
use Rattle.rg_trie.specs.Walked.{entries_under, is_under}
use Rattle.rg_index.specs.declared.form.Form.{Form}
use Rattle.rg_index.specs.Candidates.{bound, candidates, fewest, filed_for, filed_number, ids_for, ids_of, in_order}
use Rattle.rg_index.specs.Changes.{ids_differ}
use Rattle.rg_index.specs.Filing.{Filing, all_pairs, filed, filed_under, filings, form_pairs, keys_at, keys_of, lacked_filings, map_filings, resource_filings}
use Rattle.rg_index.specs.Kept.{LevelPairs, entries_of, indexed}
use Rattle.rg_index.proofs.Changing.{all_apart, numbered_has, numbered_of}
use Rattle.rg_index.proofs.Choosing.{attained}
use Rattle.rg_index.proofs.Lists.{find_mapped}
use Rattle.rg_index.proofs.PatternLaws.{PrefixLaw, StandsLaw, TwinLaw}
use Rattle.rg_index.proofs.Ordered.{apart_filter, filter_in_order, into_new, length_in_order, ordered_from}

-- one of the elements passes, so one is found
not_missed : {X : Type 0} (p : X → Bool) (xs : List X) (x : X) → Contains xs x → p x ≡ true → find p xs ≡ None → ⊥
not_missed p [] x h e f = Contains-none x h
not_missed p (y ∷ ys) x h e f = at (p y) refl (Contains-cases y ys x h) f (λ on. not_missed p ys x on e) where
  at : (b : Bool) → p y ≡ b → (y ≡ x) ⊎ Contains ys x → cond (p y) (Some y) (find p ys) ≡ None → (Contains ys x → find p ys ≡ None → ⊥) → ⊥
  at true k w g later = none-some y (sym (ap (λ b. cond b (Some y) (find p ys)) (sym k) ∙ g))
  at false k (inl same) g later = false≢true (sym k ∙ ap p same ∙ e)
  at false k (inr on) g later = later on (ap (λ b. cond b (Some y) (find p ys)) (sym k) ∙ g)

-- ---- a level of the index

module _ (def : ServiceDef) (forms : List Form) where
  abbrev pub IsLevel : List ℕ → LevelPairs → Type 0
  IsLevel name t = (level_of def name ≡ Some t.level) × (t.held ≡ in_order (all_pairs def name forms))

  pub level_found : (levels : List LevelPairs) → levels ≡ map (indexed def forms) def.levels.items → (name : List ℕ) (t : LevelPairs)
      → Some t ≡ find (λ (t : LevelPairs). bytes_eq t.level.name name) levels → IsLevel name t
  level_found levels is name t e = at (level_of def name) refl (sym (find_mapped (λ (t : LevelPairs). bytes_eq t.level.name name) (indexed def forms) def.levels.items) ∙ ap (find (λ (t : LevelPairs). bytes_eq t.level.name name)) (sym is) ∙ sym e) where
    at : (o : Option Level) → level_of def name ≡ o → option_map (indexed def forms) (level_of def name) ≡ Some t → IsLevel name t
    at None k g = absurd (none-some t (ap (option_map (indexed def forms)) (sym k) ∙ g))
    at (Some l) k g =
        let same : indexed def forms l ≡ t = same_Some (indexed def forms l) t (ap (option_map (indexed def forms)) (sym k) ∙ g) in
        let named : l.name ≡ name = (bytes_eq-Decides l.name name).0 (find_contained (λ (l : Level). bytes_eq l.name name) def.levels.items l k).1 in
        (k ∙ ap (λ (t : LevelPairs). Some t.level) same, sym (ap (λ (t : LevelPairs). t.held) same) ∙ ap (λ n. in_order (all_pairs def n forms)) named)

  pub level_missed : (levels : List LevelPairs) → levels ≡ map (indexed def forms) def.levels.items → (name : List ℕ)
      → None ≡ find (λ (t : LevelPairs). bytes_eq t.level.name name) levels → level_of def name ≡ None
  level_missed levels is name e = at (level_of def name) refl (sym (find_mapped (λ (t : LevelPairs). bytes_eq t.level.name name) (indexed def forms) def.levels.items) ∙ ap (find (λ (t : LevelPairs). bytes_eq t.level.name name)) (sym is) ∙ sym e) where
    at : (o : Option Level) → level_of def name ≡ o → option_map (indexed def forms) (level_of def name) ≡ None → level_of def name ≡ None
    at None k g = k
    at (Some l) k g = absurd (none-some (indexed def forms l) (sym (ap (option_map (indexed def forms)) (sym k) ∙ g)))

  module _ (name value : List ℕ) (l : Level) (known : level_of def name ≡ Some l) where
    abbrev test : Pair → Bool
    test = is_under (folded l.fold value)

    filed_there : filed def forms name value ≡ filter test (all_pairs def name forms)
    filed_there = ap (λ o. filed_under o value (all_pairs def name forms)) known

    pub walked : (held : List Pair) → held ≡ in_order (all_pairs def name forms) → entries_under (folded l.fold value) held ≡ entries_of (in_order (filed def forms name value))
    walked held is = ap (entries_under (folded l.fold value)) is ∙ ap (map (λ (p : Pair). p.entry)) (filter_in_order test (all_pairs def name forms) ∙ ap in_order (sym filed_there))

    pub counted : ids_differ forms ≡ true → (held : List Pair) → held ≡ in_order (all_pairs def name forms) → length (entries_under (folded l.fold value) held) ≡ length (filed def forms name value)
    counted apart held is =
        ap length (walked held is) ∙ length-map (in_order (filed def forms name value)) (λ (p : Pair). p.entry)
        ∙ ap (λ all. length (in_order all)) filed_there
        ∙ length_in_order (filter test (all_pairs def name forms)) (apart_filter test (all_pairs def name forms) (all_apart def name forms apart))
        ∙ ap length (sym filed_there)

  pub none_filed : (name value : List ℕ) → level_of def name ≡ None → filed def forms name value ≡ []
  none_filed name value e = ap (λ o. filed_under o value (all_pairs def name forms)) e

  filed_apart : (o : Option Level) (name value : List ℕ) → ids_differ forms ≡ true → length (in_order (filed_under o value (all_pairs def name forms))) ≡ length (filed_under o value (all_pairs def name forms))
  filed_apart None name value apart = refl
  filed_apart (Some l) name value apart =
      length_in_order (filter (is_under (folded l.fold value)) (all_pairs def name forms)) (apart_filter (is_under (folded l.fold value)) (all_pairs def name forms) (all_apart def name forms apart))

  -- of one element, what is filed at its level
  pub one_element : (e : Element) → candidates def forms (e ∷ []) ≡ ids_of (in_order (filed def forms e.level e.value))
  one_element e =
      ap (λ b. ids_for def forms (e ∷ []) (cond b (Some e) None)) (same (filed_number def forms (e ∷ []) e))
      ∙ ap (λ b. ids_of (in_order (filed def forms e.level (unwrap_or (option_map (λ (e : Element). e.value) (cond b (Some e) None)) [])))) ((bytes_eq-Decides e.level e.level).1 refl) where
        same : (n : ℕ) → nat_eq n n ≡ true
        same n = grind arith

  -- the candidates are as many as the bound says
  pub as_many : ids_differ forms ≡ true → (elements : List Element) → length (candidates def forms elements) ≡ bound def forms elements
  as_many apart elements = at elements (fewest def forms elements) refl where
    at : (es : List Element) → (o : Option Element) → fewest def forms es ≡ o → length (ids_for def forms es (fewest def forms es)) ≡ bound def forms es
    at [] o e = refl
    at (x ∷ xs) None e = absurd (attained (filed_number def forms (x ∷ xs)) x xs e)
    at (x ∷ xs) (Some b) e =
        let n = filed_number def forms (x ∷ xs) b in
        let test = (find_contained (λ e. nat_eq (filed_number def forms (x ∷ xs) e) (bound def forms (x ∷ xs))) (x ∷ xs) b e).1 in
        ap (λ o. length (ids_for def forms (x ∷ xs) o)) e
        ∙ length-map (in_order (filed_for def forms (x ∷ xs) b)) (λ (p : Pair). p.entry.id)
        ∙ filed_apart (level_of def b.level) b.level (unwrap_or (value_at (x ∷ xs) b.level) []) apart
        ∙ same_number n (bound def forms (x ∷ xs)) test where
          same_number : (m n : ℕ) → nat_eq m n ≡ true → m ≡ n
          same_number m n h = grind arith

empty_begins : (text : List ℕ) → starts_with nat_eq text [] ≡ true
empty_begins [] = refl
empty_begins (c ∷ text) = refl

-- ---- a form that lies on a resource is filed under its value

-- at the level of this name, under a key with which the value begins
abbrev IsKeyed : ServiceDef → List Filing → List ℕ → List ℕ → Type 0
IsKeyed def fs name value = (l : Level) × (f : Filing) × (level_of def name ≡ Some l) × Contains fs f × (bytes_eq f.level name ≡ true) × (starts_with nat_eq (folded l.fold value) f.key ≡ true)

module _ (stand : StandsLaw) (prefix : PrefixLaw) (twinned : TwinLaw) (def : ServiceDef) where
  hit_key : (l : Level) (r : PolicyResource) (user value : List ℕ) → r.excludes ≡ false → some_stands l r user value ≡ true
      → (key : List ℕ) × Contains (map (λ t. literal_prefix l.fold (atoms_of l.wild t)) r.values.items) key × (starts_with nat_eq (folded l.fold value) key ≡ true)
  hit_key l r user value off e = elim (or_cases (any_stands l.fold user value (patterns_of l r)) (r.recursive && any_stands l.fold user value (map twin (patterns_of l r))) e) [
    | inl now ↦
        let p = any_holds (λ p. stands l.fold user p value) (patterns_of l r) now in
        let t = Contains-mapped (atoms_of l.wild) r.values.items p.0 p.1 in (
          literal_prefix l.fold (atoms_of l.wild t.0),
          Contains-map (λ t. literal_prefix l.fold (atoms_of l.wild t)) r.values.items t.0 t.1,
          ap (λ q. starts_with nat_eq (folded l.fold value) (literal_prefix l.fold q)) t.2 ∙ prefix l.fold user p.0 value ((stand l.fold user p.0 value).0 p.2),
        )
    | inr below ↦
        let h = (and_parts r.recursive (any_stands l.fold user value (map twin (patterns_of l r))) below).1 in
        let w = any_holds (λ p. stands l.fold user p value) (map twin (patterns_of l r)) h in
        let p = Contains-mapped twin (patterns_of l r) w.0 w.1 in
        let t = Contains-mapped (atoms_of l.wild) r.values.items p.0 p.1 in (
          literal_prefix l.fold (atoms_of l.wild t.0),
          Contains-map (λ t. literal_prefix l.fold (atoms_of l.wild t)) r.values.items t.0 t.1,
          ap (λ q. starts_with nat_eq (folded l.fold value) (literal_prefix l.fold q)) t.2
              ∙ twinned l.fold user p.0 value (subst (λ q. Stands l.fold user q value) (sym p.2) ((stand l.fold user w.0 value).0 w.2)),
        )
  ]

  resource_keyed : (r : PolicyResource) (user value : List ℕ) (o : Option Level) → level_of def r.level ≡ o → is_hit o r user value ≡ true
      → IsKeyed def (resource_filings def r) r.level value
  resource_keyed r user value None e h = absurd (false≢true h)
  resource_keyed r user value (Some l) e h = at r.excludes refl h where
    keyed : (key : List ℕ) → Contains (keys_of (Some l) r) key → starts_with nat_eq (folded l.fold value) key ≡ true → IsKeyed def (resource_filings def r) r.level value
    keyed key w s = (
      l,
      record { level = r.level; key = key },
      e,
      Contains-map (λ key. record { level = r.level; key = key }) (keys_of (level_of def r.level) r) key (subst (λ o. Contains (keys_of o r) key) (sym e) w),
      (bytes_eq-Decides r.level r.level).1 refl,
      s,
    )

    at : (b : Bool) → r.excludes ≡ b → (if r.excludes then not (some_stands l r user value) else some_stands l r user value) ≡ true → IsKeyed def (resource_filings def r) r.level value
    at true k g = keyed [] (subst (λ (b : Bool). Contains (if b then [] ∷ [] else map (λ t. literal_prefix l.fold (atoms_of l.wild t)) r.values.items) []) (sym k) (0, omega arith, refl)) (empty_begins (folded l.fold value))
    at false k g =
        let key = hit_key l r user value k (ap (λ (b : Bool). if b then not (some_stands l r user value) else some_stands l r user value) (sym k) ∙ g) in
        keyed key.0 (subst (λ (b : Bool). Contains (if b then [] ∷ [] else map (λ t. literal_prefix l.fold (atoms_of l.wild t)) r.values.items) key.0) (sym k) key.1) key.2

-- a level that lies on a path of the definition is one of its levels
level_on_path : (levels : List Level) (path : List ℕ) (name : List ℕ) → lies_on levels path name ≡ true → (l : Level) × Contains levels l × (l.name ≡ name)
level_on_path levels path name h = let place = any_holds (has_name levels name) path h in at place.0 (slice_get levels place.0) refl place.2 where
  at : (place : ℕ) (o : Option Level) → slice_get levels place ≡ o → unwrap_or (option_map (λ (l : Level). bytes_eq l.name name) (slice_get levels place)) false ≡ true → (l : Level) × Contains levels l × (l.name ≡ name)
  at place None k g = absurd (false≢true (ap (λ o. unwrap_or (option_map (λ (l : Level). bytes_eq l.name name) o) false) (sym k) ∙ g))
  at place (Some l) k g = (l, Contains-slice_get levels place l k, (bytes_eq-Decides l.name name).0 (ap (λ o. unwrap_or (option_map (λ (l : Level). bytes_eq l.name name) o) false) (sym k) ∙ g))

-- a level of this name is found, though maybe another one
is_known : (levels : List Level) (l : Level) (name : List ℕ) → Contains levels l → l.name ≡ name → (found : Level) × (find (λ (l : Level). bytes_eq l.name name) levels ≡ Some found)
is_known levels l name w e = at (find (λ (l : Level). bytes_eq l.name name) levels) refl where
  at : (o : Option Level) → find (λ (l : Level). bytes_eq l.name name) levels ≡ o → (found : Level) × (find (λ (l : Level). bytes_eq l.name name) levels ≡ Some found)
  at None k = absurd (not_missed (λ (l : Level). bytes_eq l.name name) levels l w ((bytes_eq-Decides l.name name).1 e) k)
  at (Some found) k = (found, k)

module _ (stand : StandsLaw) (prefix : PrefixLaw) (twinned : TwinLaw) (def : ServiceDef) (elements : List Element) (user : List ℕ) where
  -- a level that the map names
  named_keyed : (reach : Reach) (m : ResourceMap) (name value : List ℕ) → list_all (λ (r : PolicyResource). meets def user r (value_at elements r.level)) m.levels.items ≡ true
      → value_at elements name ≡ Some value → names_level m.levels.items name ≡ true → IsKeyed def (map_filings def reach m) name value
  named_keyed reach m name value met given named =
      let r = any_holds (λ (r : PolicyResource). bytes_eq r.level name) m.levels.items named in
      let same : r.0.level ≡ name = (bytes_eq-Decides r.0.level name).0 r.2 in
      let hit = ap (λ (o : Option (List ℕ)). meets def user r.0 o) (sym (ap (value_at elements) same ∙ given)) ∙ all_holds (λ (r : PolicyResource). meets def user r (value_at elements r.level)) m.levels.items met r.0 r.1 in
      let k = resource_keyed stand prefix twinned def r.0 user value (level_of def r.0.level) refl hit in (
        k.0,
        k.1,
        ap (level_of def) (sym same) ∙ k.2,
        Contains-append_left (flat_map (resource_filings def) m.levels.items) (lacked_filings reach def m.levels.items) k.1 (Contains-flat_map (resource_filings def) m.levels.items r.0 k.1 r.1 k.3),
        ap (bytes_eq k.1.level) (sym same) ∙ k.4,
        k.5,
      )

  -- a level that the map lacks, where its reach is down
  lacked_keyed : (m : ResourceMap) (name value : List ℕ) → on_one_path def.levels.items (levels_of m.levels.items elements) ≡ true → Contains (levels_of m.levels.items elements) name
      → names_level m.levels.items name ≡ false → IsKeyed def (map_filings def Down m) name value
  lacked_keyed m name value on among unnamed =
      let path = any_holds (λ path. list_all (lies_on def.levels.items path) (levels_of m.levels.items elements)) (paths_of def.levels.items) on in
      let l = level_on_path def.levels.items path.0 name (all_holds (lies_on def.levels.items path.0) (levels_of m.levels.items elements) path.2 name among) in
      let known = is_known def.levels.items l.0 name l.1 l.2 in
      let lacks : not (names_level m.levels.items l.0.name) ≡ true = not_from_false _ (ap (names_level m.levels.items) l.2 ∙ unnamed) in (
        known.0,
        record { level = l.0.name; key = [] },
        known.1,
        Contains-append_right (flat_map (resource_filings def) m.levels.items) (lacked_filings Down def m.levels.items) _
            (Contains-map (λ (l : Level). record { level = l.name; key = [] }) (filter (λ (l : Level). not (names_level m.levels.items l.name)) def.levels.items) l.0
            (Contains-filter (λ (l : Level). not (names_level m.levels.items l.name)) def.levels.items l.0 l.1 lacks)),
        (bytes_eq-Decides l.0.name name).1 l.2,
        empty_begins (folded known.0.fold value),
      )

  map_keyed : (reach : Reach) (m : ResourceMap) (e : Element) (value : List ℕ) → lies def m.levels.items reach elements user ≡ true → Contains elements e → value_at elements e.level ≡ Some value
      → IsKeyed def (map_filings def reach m) e.level value
  map_keyed reach m e value h w given = at reach (names_level m.levels.items e.level) refl rest.1 where
    first : (on_one_path def.levels.items (levels_of m.levels.items elements) ≡ true)
        × ((list_all (λ (r : PolicyResource). meets def user r (value_at elements r.level)) m.levels.items && list_all (may_name reach m.levels.items) elements) ≡ true)
    first = and_parts (on_one_path def.levels.items (levels_of m.levels.items elements)) _ (and_parts (is_some_element elements) _ h).1

    rest : (list_all (λ (r : PolicyResource). meets def user r (value_at elements r.level)) m.levels.items ≡ true) × (list_all (may_name reach m.levels.items) elements ≡ true)
    rest = and_parts (list_all (λ (r : PolicyResource). meets def user r (value_at elements r.level)) m.levels.items) (list_all (may_name reach m.levels.items) elements) first.1

    at : (reach : Reach) (b : Bool) → names_level m.levels.items e.level ≡ b → list_all (may_name reach m.levels.items) elements ≡ true → IsKeyed def (map_filings def reach m) e.level value
    at reach true k may = named_keyed reach m e.level value rest.0 given k
    at Exact false k may = absurd (false≢true (sym k ∙ all_holds (may_name Exact m.levels.items) elements may e w))
    at Down false k may =
        lacked_keyed m e.level value first.0
        (Contains-append_right (map (λ (r : PolicyResource). r.level) m.levels.items) (map (λ (e : Element). e.level) elements) e.level (Contains-map (λ (e : Element). e.level) elements e w)) k

  -- the value that the resource has for the level of one of its elements
  has_value : (e : Element) → Contains elements e → (value : List ℕ) × (value_at elements e.level ≡ Some value)
  has_value e w = at (find (λ (d : Element). bytes_eq d.level e.level) elements) refl where
    at : (o : Option Element) → find (λ (d : Element). bytes_eq d.level e.level) elements ≡ o → (value : List ℕ) × (value_at elements e.level ≡ Some value)
    at None k = absurd (not_missed (λ (d : Element). bytes_eq d.level e.level) elements e w ((bytes_eq-Decides e.level e.level).1 refl) k)
    at (Some d) k = (d.value, ap (option_map (λ (e : Element). e.value)) k)

  -- a form that lies on the resource is filed at the level of each of its elements
  is_filed : (forms : List Form) (form : Form) → Contains forms form → some_lies def form.maps.items form.reach elements user ≡ true → (e : Element) → Contains elements e
      → (q : Pair) × Contains (filed_for def forms elements e) q × (q.entry.id ≡ form.id)
  is_filed forms form there h e w =
      let m = any_holds (λ (m : ResourceMap). lies def m.levels.items form.reach elements user) form.maps.items h in
      let value = has_value e w in
      let k = map_keyed form.reach m.0 e value.0 m.2 w value.1 in
      let filing = Contains-flat_map (map_filings def form.reach) form.maps.items m.0 k.1 m.1 k.3 in
      let key = Contains-map (λ (f : Filing). f.key) (filter (λ (f : Filing). bytes_eq f.level e.level) (filings def form)) k.1
      (Contains-filter (λ (f : Filing). bytes_eq f.level e.level) (filings def form) k.1 filing k.4) in
      let q = numbered_has form.id 0 (keys_at def form e.level) k.1.key key in
      let under : is_under (folded k.0.fold value.0) q.0 ≡ true = ap (starts_with nat_eq (folded k.0.fold value.0)) q.3 ∙ k.5 in
      let held = Contains-filter (is_under (folded k.0.fold value.0)) (all_pairs def e.level forms) q.0 (Contains-flat_map (form_pairs def e.level) forms form q.0 there q.1) under in (
        q.0,
        subst (λ (all : List Pair). Contains all q.0)
            (sym (ap (λ (o : Option (List ℕ)). filed def forms e.level (unwrap_or o [])) value.1 ∙ ap (λ (o : Option Level). filed_under o value.0 (all_pairs def e.level forms)) k.2)) held,
        q.2,
      )

  -- so it is a candidate
  pub is_candidate : (forms : List Form) (form : Form) → Contains forms form → some_lies def form.maps.items form.reach elements user ≡ true → Contains (candidates def forms elements) form.id
  is_candidate forms form there h = at (fewest def forms elements) refl where
    some : is_some_element elements ≡ true
    some = let m = any_holds (λ (m : ResourceMap). lies def m.levels.items form.reach elements user) form.maps.items h in (and_parts (is_some_element elements) _ m.2).0

    none : (es : List Element) → is_some_element es ≡ true → fewest def forms es ≡ None → ⊥
    none [] s e = false≢true s
    none (x ∷ xs) s e = attained (filed_number def forms (x ∷ xs)) x xs e

    at : (o : Option Element) → fewest def forms elements ≡ o → Contains (ids_for def forms elements (fewest def forms elements)) form.id
    at None k = absurd (none elements some k)
    at (Some e) k =
        let w = find_contained (λ e. nat_eq (filed_number def forms elements e) (bound def forms elements)) elements e k in
        let q = is_filed forms form there h e w.0 in
        subst (λ (o : Option Element). Contains (ids_for def forms elements o) form.id) (sym k)
        (subst (Contains (ids_of (in_order (filed_for def forms elements e)))) q.2
        (Contains-map (λ (p : Pair). p.entry.id) (in_order (filed_for def forms elements e)) q.0 (into_new (filed_for def forms elements e) [] q.0 q.1)))

-- ---- each candidate is a form's id

module _ (def : ServiceDef) (forms : List Form) where
  of_level : (o : Option Level) (name value : List ℕ) (q : Pair) → Contains (filed_under o value (all_pairs def name forms)) q → (form : Form) × Contains forms form × (form.id ≡ q.entry.id)
  of_level None name value q h = absurd (Contains-none q h)
  of_level (Some l) name value q h =
      let k = Contains-filtered (is_under (folded l.fold value)) (all_pairs def name forms) q h in
      let f = Contains-flat_mapped (form_pairs def name) forms q k.0 in
      (f.0, f.1, sym (numbered_of f.0.id 0 (keys_at def f.0 name) q f.2).owner)

  pub is_of_form : (elements : List Element) (id : ℤ) → Contains (candidates def forms elements) id → (form : Form) × Contains forms form × (form.id ≡ id)
  is_of_form elements id h = at (fewest def forms elements) h where
    at : (o : Option Element) → Contains (ids_for def forms elements o) id → (form : Form) × Contains forms form × (form.id ≡ id)
    at None none = absurd (Contains-none id none)
    at (Some e) w =
        let q = Contains-mapped (λ (p : Pair). p.entry.id) (in_order (filed_for def forms elements e)) id w in
        let f = of_level (level_of def e.level) e.level (unwrap_or (value_at elements e.level) []) q.0 (ordered_from (filed_for def forms elements e) q.0 q.1) in
        (f.0, f.1, f.2 ∙ q.2)
