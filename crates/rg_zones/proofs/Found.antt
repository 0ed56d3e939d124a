-- Two maps that pass the test have a common resource.
use Rattle.std.proofs.Common.{◌≡◌, ◌⊎◌, ◌&&◌, ◌++◌, ℕ, Bool, true, false, not, cond, if◌then◌else◌, IsTrue, List, [], ◌∷◌, Option, Some, None, refl, sym, ap, subst, ◌∙◌, inl, inr}
use Rattle.std.proofs.lemmas.Bool.{false≢true, and_from, and_parts, not-true, not_from_false, or_cases}
use Rattle.std.proofs.lemmas.Option.{none-some, same_Some}
use Rattle.std.proofs.lemmas.Slice.Eq.{bytes_eq-Decides}
use Rattle.std.specs.List.{list_all, list_any}
use Rattle.std.specs.Str.{all_scalars, bytes_eq}
use Rattle.rg_base.specs.Texts.{all_distinct}
use Rattle.rg_defs.specs.declared.service_def.Level.{Level}
use Rattle.rg_defs.specs.declared.service_def.ServiceDef.{ServiceDef}
use Rattle.rg_defs.specs.Paths.{level_of}
use Rattle.rg_defs.specs.PathTests.{on_one_path}
use Rattle.rg_pattern.specs.declared.atoms.Atom.{Atom}
use Rattle.rg_pattern.specs.Atoms.{are_scalars, has_user}
use Rattle.rg_pattern.specs.Standing.{Overlap, Stands}
use Rattle.rg_pattern.specs.Tests.{overlaps, stands}
use Rattle.rg_policy.specs.declared.request.Element.{Element}
use Rattle.rg_resmatch.specs.Tests.{any_stands, is_some_element, star, value_at}
use Rattle.rg_zone_rules.specs.Overlap.{folds, LevelPatterns, all_meet, are_texts, form_scalars, level_names, levels_meet, needed_names, needs_none, patterns_meet, patterns_overlap, reaches, share_levels}
use Rattle.rg_zones.proofs.Forms.{IsForm, form_lies, met}
use Rattle.rg_zones.proofs.Members.{Has, all_has, any_has, bool_cases, has_all, has_any, has_cases, has_filter, has_left, has_map, has_right}
use Rattle.rg_zones.proofs.Shown.{StandsLaw, element_names, needed_level, on_fewer, value_first}

abbrev pub FoundLaw : Type 0
FoundLaw = (fold : Bool) (p q : List Atom) → has_user p ≡ false → has_user q ≡ false → IsTrue (are_scalars p) → IsTrue (are_scalars q) → IsTrue (overlaps fold p q) → Overlap fold p q

abbrev pub TextLaw : Type 0
TextLaw = (fold : Bool) (user : List ℕ) (p : List Atom) → has_user p ≡ false → IsTrue (are_scalars p) → (t : List ℕ) × IsTrue (all_scalars t) × Stands fold user p t

-- the value is one for each level of this name
abbrev pub Suits : List LevelPatterns → List ℕ → List ℕ → Type 0
Suits ms name t = (a : LevelPatterns) → Has ms a → a.name ≡ name → any_stands a.fold [] t a.patterns ≡ true

-- the one level of this name, or none
abbrev pub One : List LevelPatterns → List ℕ → Type 0
One ms name = (a : LevelPatterns) × Has ms a × (a.name ≡ name) × ((b : LevelPatterns) → Has ms b → b.name ≡ name → b ≡ a)

abbrev pub Without : List LevelPatterns → List ℕ → Type 0
Without ms name = (b : LevelPatterns) → Has ms b → b.name ≡ name → ⊥

one_or_none : (ms : List LevelPatterns) → all_distinct (λ (a b : LevelPatterns). bytes_eq b.name a.name) ms ≡ true → (name : List ℕ) → One ms name ⊎ Without ms name
one_or_none [] h name = inr (λ b w e. w)
one_or_none (a ∷ ms) h name =
    let parts = and_parts (not (list_any (λ (b : LevelPatterns). bytes_eq b.name a.name) ms)) (all_distinct (λ (a b : LevelPatterns). bytes_eq b.name a.name) ms) h in
    let apart = not-true _ parts.0 in
    elim (bool_cases (bytes_eq a.name name)) [
      | inl here ↦
          let e = (bytes_eq-Decides a.name name).0 here in
          inl (
            a,
            inl refl,
            e,
            λ b w f. elim w [
              | inl same ↦ sym same
              | inr on ↦ absurd (false≢true (sym apart ∙ any_has (λ (b : LevelPatterns). bytes_eq b.name a.name) ms b on ((bytes_eq-Decides b.name a.name).1 (f ∙ sym e))))
            ],
          )
      | inr other ↦ elim (one_or_none ms parts.1 name) [
        | inl one ↦ inl (
          one.0,
          inr one.1,
          one.2,
          λ b w f. elim w [
            | inl same ↦ absurd (false≢true (sym other ∙ (bytes_eq-Decides a.name name).1 (ap (λ (b : LevelPatterns). b.name) same ∙ f)))
            | inr on ↦ one.3 b on f
          ],
        )
        | inr none ↦ inr (λ b w f. elim w [
          | inl same ↦ false≢true (sym other ∙ (bytes_eq-Decides a.name name).1 (ap (λ (b : LevelPatterns). b.name) same ∙ f))
          | inr on ↦ none b on f
        ])
      ]
    ]

suits_one : (ms : List LevelPatterns) (name t : List ℕ) (one : One ms name) → any_stands one.0.fold [] t one.0.patterns ≡ true → Suits ms name t
suits_one ms name t one h = λ a w e. subst (λ (a : LevelPatterns). any_stands a.fold [] t a.patterns ≡ true) (sym (one.3 a w e)) h

suits_none : (ms : List LevelPatterns) (name t : List ℕ) → Without ms name → Suits ms name t
suits_none ms name t none = λ a w e. absurd (none a w e)

scalar_at : (ms : List LevelPatterns) → form_scalars ms ≡ true → (a : LevelPatterns) → Has ms a → (p : List Atom) → Has a.patterns p → are_scalars p ≡ true
scalar_at ms h a w p u = has_all are_scalars a.patterns (has_all (λ (a : LevelPatterns). list_all are_scalars a.patterns) ms h a w) p u

-- a value for one level
value_alone : StandsLaw → TextLaw → (def : ServiceDef) (ms : List LevelPatterns) → IsForm def ms → form_scalars ms ≡ true → (a : LevelPatterns) → Has ms a
    → (t : List ℕ) × (all_scalars t ≡ true) × (any_stands a.fold [] t a.patterns ≡ true)
value_alone stand some def ms m scalar a w =
    let p = m.there a w in
    let t = some a.fold [] p.0 (m.plain a w p.0 p.1) (scalar_at ms scalar a w p.0 p.1) in
    (t.0, t.1, any_has (λ p. stands a.fold [] p t.0) a.patterns p.0 p.1 ((stand a.fold [] p.0 t.0).1 t.2))

-- a common value for two patterns, of which some overlap
value_both : StandsLaw → FoundLaw → (fold : Bool) (ps qs : List (List Atom)) → ((p : List Atom) → Has ps p → has_user p ≡ false) → ((q : List Atom) → Has qs q → has_user q ≡ false)
    → ((p : List Atom) → Has ps p → are_scalars p ≡ true) → ((q : List Atom) → Has qs q → are_scalars q ≡ true) → patterns_overlap fold ps qs ≡ true
    → (t : List ℕ) × (all_scalars t ≡ true) × (any_stands fold [] t ps ≡ true) × (any_stands fold [] t qs ≡ true)
value_both stand found fold ps qs plain other scalar also h =
    let p = has_any (λ p. list_any (overlaps fold p) qs) ps h in
    let q = has_any (overlaps fold p.0) qs p.2 in
    let t = found fold p.0 q.0 (plain p.0 p.1) (other q.0 q.1) (scalar p.0 p.1) (also q.0 q.1) q.2 in
    (t.0, t.1, any_has (λ p. stands fold [] p t.0) ps p.0 p.1 ((stand fold [] p.0 t.0).1 t.2), any_has (λ q. stands fold [] q t.0) qs q.0 q.1 ((stand fold [] q.0 t.0).1 t.3))

abbrev pub Common : List LevelPatterns → List LevelPatterns → List ℕ → Type 0
Common ms ns name = (t : List ℕ) × (all_scalars t ≡ true) × Suits ms name t × Suits ns name t

value_shared : StandsLaw → FoundLaw → (def : ServiceDef) (ms ns : List LevelPatterns) → IsForm def ms → IsForm def ns → form_scalars ms ≡ true → form_scalars ns ≡ true
    → all_meet ms ns ≡ true → (name : List ℕ) → One ms name → One ns name → Common ms ns name
value_shared stand found def ms ns m n scalar also meet name one other =
    let a = one.0 in
    let b = other.0 in
    let same_name = one.2 ∙ sym other.2 in
    let fold = m.folds a one.1 ∙ ap (λ (name : List ℕ). folds (level_of def name)) same_name ∙ sym (n.folds b other.1) in
    let met = has_all (levels_meet a) ns (has_all (λ a. list_all (levels_meet a) ns) ms meet a one.1) b other.1 in
    elim (or_cases (not (bytes_eq a.name b.name)) _ met) [
      | inl differ ↦ absurd (false≢true (sym (not-true (bytes_eq a.name b.name) differ) ∙ (bytes_eq-Decides a.name b.name).1 same_name))
      | inr common ↦ elim (or_cases (a.lists_star && b.lists_star) (patterns_overlap a.fold a.patterns b.patterns) common) [
        | inl stars ↦
            let k = and_parts a.lists_star b.lists_star stars in
            (star, refl, suits_one ms name star one (m.starred a one.1 k.0), suits_one ns name star other (n.starred b other.1 k.1))
        | inr overlap ↦
            let t = value_both stand found a.fold a.patterns b.patterns (m.plain a one.1) (n.plain b other.1) (scalar_at ms scalar a one.1) (scalar_at ns also b other.1) overlap in
            (t.0, t.1, suits_one ms name t.0 one t.2, suits_one ns name t.0 other (ap (λ (fold : Bool). any_stands fold [] t.0 b.patterns) (sym fold) ∙ t.3))
      ]
    ]

value_for : StandsLaw → FoundLaw → TextLaw → (def : ServiceDef) (ms ns : List LevelPatterns) → IsForm def ms → IsForm def ns → form_scalars ms ≡ true → form_scalars ns ≡ true
    → all_meet ms ns ≡ true → (name : List ℕ) → Common ms ns name
value_for stand found some def ms ns m n scalar also meet name =
    elim (one_or_none ms m.apart name) [
      | inl one ↦ elim (one_or_none ns n.apart name) [
        | inl other ↦ value_shared stand found def ms ns m n scalar also meet name one other
        | inr none ↦
            let t = value_alone stand some def ms m scalar one.0 one.1 in
            (t.0, t.1, suits_one ms name t.0 one t.2, suits_none ns name t.0 none)
      ]
      | inr none ↦ elim (one_or_none ns n.apart name) [
        | inl other ↦
            let t = value_alone stand some def ns n also other.0 other.1 in
            (t.0, t.1, suits_none ms name t.0 none, suits_one ns name t.0 other t.2)
        | inr neither ↦ ([], refl, suits_none ms name [] none, suits_none ns name [] neither)
      ]
    ]

-- the values of a resource hit the map's levels
abbrev pub Hits : List LevelPatterns → List Element → Type 0
Hits ms elements = (a : LevelPatterns) (v : List ℕ) → Has ms a → value_at elements a.name ≡ Some v → any_stands a.fold [] v a.patterns ≡ true

hits_more : (ms : List LevelPatterns) (name t : List ℕ) (es : List Element) → Suits ms name t → Hits ms es → Hits ms (record { level = name; value = t } ∷ es)
hits_more ms name t es suits rest = λ a v w h. at a v w (bytes_eq name a.name) refl (sym (value_first (record { level = name; value = t }) es a.name) ∙ h) where
  at : (a : LevelPatterns) (v : List ℕ) → Has ms a → (b : Bool) → bytes_eq name a.name ≡ b → cond b (Some t) (value_at es a.name) ≡ Some v → any_stands a.fold [] v a.patterns ≡ true
  at a v w true k g = subst (λ (v : List ℕ). any_stands a.fold [] v a.patterns ≡ true) (same_Some t v g) (suits a w (sym ((bytes_eq-Decides name a.name).0 k)))
  at a v w false k g = rest a v w g

-- a resource of these names
resource : (ms ns : List LevelPatterns) → ((name : List ℕ) → Common ms ns name) → (names : List (List ℕ))
    → (elements : List Element) × (element_names elements ≡ names) × (are_texts elements ≡ true) × Hits ms elements × Hits ns elements
resource ms ns value [] = ([], refl, refl, λ a v w h. absurd (none-some v h), λ a v w h. absurd (none-some v h))
resource ms ns value (name ∷ names) =
    let t = value name in
    let r = resource ms ns value names in
    (record { level = name; value = t.0 } ∷ r.0, ap (λ (rest : List (List ℕ)). name ∷ rest) r.1, and_from _ _ t.1 r.2, hits_more ms name t.0 r.0 t.2 r.3, hits_more ns name t.0 r.0 t.3 r.4)

-- a named level has a value
valued : (elements : List Element) (name : List ℕ) → Has (element_names elements) name → value_at elements name ≡ None → ⊥
valued [] name w h = w
valued (e ∷ es) name w h = at (bytes_eq e.level name) refl (sym (value_first e es name) ∙ h) (valued es name) where
  at : (b : Bool) → bytes_eq e.level name ≡ b → cond b (Some e.value) (value_at es name) ≡ None → (Has (element_names es) name → value_at es name ≡ None → ⊥) → ⊥
  at true k g rest = none-some e.value (sym g)
  at false k g rest = elim w [
    | inl same ↦ false≢true (sym k ∙ (bytes_eq-Decides e.level name).1 same)
    | inr on ↦ rest on g
  ]

needed_has : (ms : List LevelPatterns) (a : LevelPatterns) → Has ms a → a.lists_star ≡ false → Has (needed_names ms) a.name
needed_has ms a w h = has_map (λ (a : LevelPatterns). a.name) _ a (has_filter (λ (a : LevelPatterns). not a.lists_star) ms a w (not_from_false a.lists_star h))

all_met : (ms : List LevelPatterns) (elements : List Element) → Hits ms elements → ((x : List ℕ) → Has (needed_names ms) x → Has (element_names elements) x) → list_all (λ (a : LevelPatterns). met a (value_at elements a.name)) ms ≡ true
all_met ms elements hits needed = all_has (λ (a : LevelPatterns). met a (value_at elements a.name)) ms (λ a w. at a w (value_at elements a.name) refl) where
  at : (a : LevelPatterns) → Has ms a → (o : Option (List ℕ)) → value_at elements a.name ≡ o → met a o ≡ true
  at a w None e = elim (bool_cases a.lists_star) [
    | inl here ↦ here
    | inr closed ↦ absurd (valued elements a.name (needed a.name (needed_has ms a w closed)) e)
  ]
  at a w (Some v) e = hits a v w e

some_named : (elements : List Element) (x : List ℕ) → Has (element_names elements) x → is_some_element elements ≡ true
some_named [] x w = absurd w
some_named (e ∷ es) x w = refl

-- the names of a common resource
abbrev pub Chosen : List Level → List LevelPatterns → List LevelPatterns → Type 0
Chosen levels ms ns = (names : List (List ℕ))
    × (x : List ℕ) × Has names x
    × ((y : List ℕ) → Has (needed_names ms) y → Has names y)
    × ((y : List ℕ) → Has (needed_names ns) y → Has names y)
    × (on_one_path levels (level_names ms ++ names) ≡ true)
    × (on_one_path levels (level_names ns ++ names) ≡ true)

none_needed : (ms : List LevelPatterns) → needs_none ms ≡ true → (y : List ℕ) → Has (needed_names ms) y → ⊥
none_needed ms h y w = let a = needed_level ms y w in false≢true (sym a.2 ∙ has_all (λ (a : LevelPatterns). a.lists_star) ms h a.0 a.1)

needed_later : (a : LevelPatterns) (ms : List LevelPatterns) (x : List ℕ) → Has (needed_names ms) x → Has (needed_names (a ∷ ms)) x
needed_later a ms x w = let k = needed_level ms x w in subst (Has (needed_names (a ∷ ms))) k.3 (needed_has (a ∷ ms) k.0 (inr k.1) k.2)

some_needed : (ms : List LevelPatterns) → needs_none ms ≡ false → (x : List ℕ) × Has (needed_names ms) x
some_needed [] h = absurd (false≢true (sym h))
some_needed (a ∷ ms) h = at a.lists_star refl h (some_needed ms) where
  at : (b : Bool) → a.lists_star ≡ b → (b && needs_none ms) ≡ false → (needs_none ms ≡ false → (x : List ℕ) × Has (needed_names ms) x) → (x : List ℕ) × Has (needed_names (a ∷ ms)) x
  at true e g rest = let r = rest g in (r.0, needed_later a ms r.0 r.1)
  at false e g rest = (a.name, needed_has (a ∷ ms) a (inl refl) e)

either_needed : (ms ns : List LevelPatterns) → (needs_none ms && needs_none ns) ≡ false → (x : List ℕ) × Has (needed_names ms ++ needed_names ns) x
either_needed ms ns h = elim (bool_cases (needs_none ms)) [
  | inl none ↦ let r = some_needed ns (ap (λ b. b && needs_none ns) (sym none) ∙ h) in (r.0, has_right (needed_names ms) (needed_names ns) r.0 r.1)
  | inr some ↦ let r = some_needed ms some in (r.0, has_left (needed_names ms) (needed_names ns) r.0 r.1)
]

own_needed : (ms : List LevelPatterns) (y : List ℕ) → Has (needed_names ms) y → Has (level_names ms) y
own_needed ms y w = let a = needed_level ms y w in subst (Has (level_names ms)) a.3 (has_map (λ (a : LevelPatterns). a.name) ms a.0 a.1)

chosen : (levels : List Level) (ms ns : List LevelPatterns) → share_levels levels ms ns ≡ true → Chosen levels ms ns
chosen levels ms ns h = at (needs_none ms && needs_none ns) refl h where
  at : (b : Bool) → (needs_none ms && needs_none ns) ≡ b
      → (if b then list_any (λ (l : Level). reaches levels ms (l.name ∷ []) && reaches levels ns (l.name ∷ [])) levels
      else reaches levels ms (needed_names ns) && reaches levels ns (needed_names ms)) ≡ true → Chosen levels ms ns
  at true e g =
      let k = and_parts (needs_none ms) (needs_none ns) e in
      let l = has_any (λ (l : Level). reaches levels ms (l.name ∷ []) && reaches levels ns (l.name ∷ [])) levels g in
      let both = and_parts (reaches levels ms (l.0.name ∷ [])) (reaches levels ns (l.0.name ∷ [])) l.2 in
      (l.0.name ∷ [], l.0.name, inl refl, λ y w. absurd (none_needed ms k.0 y w), λ y w. absurd (none_needed ns k.1 y w), both.0, both.1)
  at false e g =
      let x = either_needed ms ns e in
      let both = and_parts (reaches levels ms (needed_names ns)) (reaches levels ns (needed_names ms)) g in
      let first : (y : List ℕ) → Has (level_names ms ++ (needed_names ms ++ needed_names ns)) y → Has (level_names ms ++ needed_names ns) y = λ y w. elim (has_cases (level_names ms) (needed_names ms ++ needed_names ns) y w) [
        | inl own ↦ has_left (level_names ms) (needed_names ns) y own
        | inr some ↦ elim (has_cases (needed_names ms) (needed_names ns) y some) [
          | inl own ↦ has_left (level_names ms) (needed_names ns) y (own_needed ms y own)
          | inr other ↦ has_right (level_names ms) (needed_names ns) y other
        ]
      ] in
      let second : (y : List ℕ) → Has (level_names ns ++ (needed_names ms ++ needed_names ns)) y → Has (level_names ns ++ needed_names ms) y = λ y w. elim (has_cases (level_names ns) (needed_names ms ++ needed_names ns) y w) [
        | inl own ↦ has_left (level_names ns) (needed_names ms) y own
        | inr some ↦ elim (has_cases (needed_names ms) (needed_names ns) y some) [
          | inl other ↦ has_right (level_names ns) (needed_names ms) y other
          | inr own ↦ has_left (level_names ns) (needed_names ms) y (own_needed ns y own)
        ]
      ] in (
        needed_names ms ++ needed_names ns,
        x.0,
        x.1,
        λ y w. has_left (needed_names ms) (needed_names ns) y w,
        λ y w. has_right (needed_names ms) (needed_names ns) y w,
        on_fewer levels (level_names ms ++ needed_names ns) (level_names ms ++ (needed_names ms ++ needed_names ns)) both.0 first,
        on_fewer levels (level_names ns ++ needed_names ms) (level_names ns ++ (needed_names ms ++ needed_names ns)) both.1 second,
      )

lies_from : (levels : List Level) (ms : List LevelPatterns) (elements : List Element) (names : List (List ℕ)) → element_names elements ≡ names → (x : List ℕ) → Has names x
    → ((y : List ℕ) → Has (needed_names ms) y → Has names y) → on_one_path levels (level_names ms ++ names) ≡ true → Hits ms elements → form_lies levels ms elements ≡ true
lies_from levels ms elements names e x w needed path hits =
    and_from _ _ (some_named elements x (subst (λ (ns : List (List ℕ)). Has ns x) (sym e) w))
    (and_from _ _ (ap (λ (ns : List (List ℕ)). on_one_path levels (level_names ms ++ ns)) e ∙ path)
    (all_met ms elements hits (λ y u. subst (λ (ns : List (List ℕ)). Has ns y) (sym e) (needed y u))))

pub forms_found : StandsLaw → FoundLaw → TextLaw → (def : ServiceDef) (ms ns : List LevelPatterns) → IsForm def ms → IsForm def ns → form_scalars ms ≡ true → form_scalars ns ≡ true
    → patterns_meet def.levels.items ms ns ≡ true
    → (elements : List Element) × (are_texts elements ≡ true) × (form_lies def.levels.items ms elements ≡ true) × (form_lies def.levels.items ns elements ≡ true)
forms_found stand found some def ms ns m n scalar also h =
    let levels = def.levels.items in
    let parts = and_parts (share_levels levels ms ns) (all_meet ms ns) h in
    let k = chosen levels ms ns parts.0 in
    let r = resource ms ns (value_for stand found some def ms ns m n scalar also parts.1) k.0 in
    (r.0, r.2, lies_from levels ms r.0 k.0 r.1 k.1 k.2 k.3 k.5 r.3, lies_from levels ns r.0 k.0 r.1 k.1 k.2 k.4 k.6 r.4)
