-- The chart of rows: what its steps say of chains of roles.
use Rattle.std.proofs.Common.{◌⊎◌, inl, inr, ◌*◌, ◌&&◌, ◌||◌, ◌≡◌, ◌<◌, ℕ, Bool, true, false, List, [], length, map, get_or, Option, Some, None, Contains, refl, sym, ap, ◌∙◌, subst, ⊎_elim, arith}
use Rattle.std.specs.List.{All}
use Rattle.std.proofs.lemmas.Bool.{and_from, and_parts, false_from_ne_true, or_cases, or_left, or_right}
use Rattle.std.proofs.lemmas.Bool.Decides.{same_from_decides}
use Rattle.std.proofs.lemmas.List.{get_or-map, length-map}
use Rattle.std.proofs.lemmas.List.Elements.{All-weaker, All-contains, All-contains_itself, All-from_get_or, Contains-get_or}
use Rattle.rg_roles.specs.declared.row.RoleRow.{RoleRow}
use Rattle.rg_roles.specs.Chains.{Leads, here, there, leads}
use Rattle.rg_roles.specs.Faults.{first_row, is_on_cycle, repeats}
use Rattle.rg_roles.specs.Members.{name_at, names_of, names_role, passes_at}
use Rattle.rg_roles.specs.Places.{AreBounded, IsChart, IsKnown, Reaches, any_below, by_step, by_steps, has, place_in}
use Rattle.rg_roles.proofs.Sets.{any_below_at, any_below_from, has_within}
use Rattle.rg_roles.proofs.Decided.{leads-Decides}
use Rattle.rg_roles.proofs.Lookup.{place_found}
use Rattle.rg_roles.proofs.Rows.{element, get_map, name_is, names_count, passes_is, unique}
use Rattle.rg_base.proofs.Lists.{among_from, among_holds, Contains-same}

-- between two lists of which each element gives the one at its place
maps_back : {X : Type 0} (f : X → Option ℕ) (xs : List X) (ks : List ℕ) (d : X) → map f xs ≡ map Some ks → (k : ℕ) → Contains ks k → (x : X) × Contains xs x × (f x ≡ Some k)
maps_back f xs ks d e k c =
    let counts = ap length e in
    let count_x = length-map xs f in
    let count_k : length (map Some ks) ≡ length ks = length-map ks Some in
    let l : c.0 < length xs = omega arith in (
      get_or xs c.0 d,
      Contains-get_or xs c.0 d l,
      sym (get_or-map f xs c.0 d None l) ∙ ap (λ os. get_or os c.0 None) e ∙ get_or-map Some ks c.0 k None c.1 ∙ ap Some c.2,
    )

maps_on : {X : Type 0} (f : X → Option ℕ) (xs : List X) (ks : List ℕ) → map f xs ≡ map Some ks → (x : X) → Contains xs x → (k : ℕ) × Contains ks k × (f x ≡ Some k)
maps_on f xs ks e x c =
    let counts = ap length e in
    let count_x = length-map xs f in
    let count_k : length (map Some ks) ≡ length ks = length-map ks Some in
    let l : c.0 < length ks = omega arith in (
      get_or ks c.0 0,
      Contains-get_or ks c.0 0 l,
      ap f (sym c.2) ∙ sym (get_or-map f xs c.0 x None c.1) ∙ ap (λ os. get_or os c.0 None) e ∙ get_or-map Some ks c.0 0 None l,
    )

-- a chain that leads to a row that names a role goes on from that role
pub follow : (rows : List RoleRow) (test : RoleRow → Bool) (middle role : List ℕ) → Leads rows (names_role middle) role → Leads rows test middle → Leads rows test role
follow rows test middle role (here _ row c same names) rest = there role middle row c same (among_holds middle row.roles.items names) rest
follow rows test middle role (there _ other row c same names more) rest = there role other row c same names (follow rows test middle other more rest)

pub prepend : (chart : List (List ℕ)) (p k t : ℕ) → Contains (get_or chart p []) k → Reaches chart k t → Reaches chart p t
prepend chart p k t c (by_step _ last) = by_steps k t (by_step k c) last
prepend chart p k t c (by_steps q _ steps last) = by_steps q t (prepend chart p k q c steps) last

module _ (rows : List RoleRow) (chart : List (List ℕ)) (charted : IsChart rows chart) where
  abbrev places : RoleRow → List (Option ℕ)
  places row = map (place_in (names_of rows)) row.roles.items

  pub chart_count : length chart ≡ length rows
  chart_count = sym (length-map chart (map Some)) ∙ sym (ap length charted) ∙ length-map rows places

  links : (p : ℕ) (row : RoleRow) → p < length rows → get_or rows p row ≡ row → places row ≡ map Some (get_or chart p [])
  links p row l e =
      let count = chart_count in
      sym (get_map places rows p row [] l e) ∙ ap (λ ls. get_or ls p []) charted ∙ get_or-map (map Some) chart p [] [] (omega arith)

  -- a step of the chart is a role that the row names
  step : (p k : ℕ) → p < length rows → Contains (get_or chart p []) k → (k < length rows) × ((row : RoleRow) × (get_or rows p row ≡ row) × Contains row.roles.items (name_at rows k))
  step p k l c =
      let row = element rows p l in
      let named = maps_back (place_in (names_of rows)) row.0.roles.items (get_or chart p []) [] (links p row.0 l row.1) k c in
      let found = place_found (names_of rows) named.0 k named.2 in
      (subst (λ n. k < n) (names_count rows) found.0, (row.0, row.1, Contains-same row.0.roles.items named.0 (name_at rows k) (sym found.1) named.1))

  pub chart_bounded : AreBounded chart
  chart_bounded = All-from_get_or (All (λ k. k < length chart)) chart [] (λ p l.
      let count = chart_count in
      All-weaker (Contains (get_or chart p [])) (λ k. k < length chart)
      (λ k c. subst (λ n. k < n) (sym chart_count) (step p k (omega arith) c).0) (get_or chart p []) (All-contains_itself (get_or chart p [])))

  reach_within : (i k : ℕ) → i < length rows → Reaches chart i k → k < length rows
  reach_within i k l (by_step _ c) = (step i k l c).0
  reach_within i k l (by_steps p _ r c) = (step p k (reach_within i p l r) c).0

  reaches_leads : (i k : ℕ) → i < length rows → Reaches chart i k → Leads rows (names_role (name_at rows k)) (name_at rows i)
  reaches_leads i k l (by_step _ c) =
      let s = step i k l c in
      here (name_at rows i) s.1.0 (i, l, s.1.1) (sym (name_is rows i s.1.0 l s.1.1)) (among_from (name_at rows k) s.1.0.roles.items s.1.2)
  reaches_leads i k l (by_steps p _ r c) =
      let lp = reach_within i p l r in
      let s = step p k lp c in
      follow rows (names_role (name_at rows k)) (name_at rows p) (name_at rows i) (reaches_leads i p l r)
      (here (name_at rows p) s.1.0 (p, lp, s.1.1) (sym (name_is rows p s.1.0 lp s.1.1)) (among_from (name_at rows k) s.1.0.roles.items s.1.2))

  module _ (distinct : first_row repeats rows ≡ None) where
    -- the row of a name stands at the place of that name
    place_is : (row : RoleRow) (c : Contains rows row) (role : List ℕ) (p : ℕ) → row.name ≡ role → p < length rows → name_at rows p ≡ role → c.0 ≡ p
    place_is row c role p same l at = unique rows distinct c.0 p c.1 l (name_is rows c.0 row c.1 c.2 ∙ same ∙ sym at)

    -- a role that the row names is a step of the chart
    step_of : (row : RoleRow) (c : Contains rows row) (role : List ℕ) (p : ℕ) → row.name ≡ role → p < length rows → name_at rows p ≡ role
        → (other : List ℕ) → Contains row.roles.items other → (k : ℕ) × (k < length rows) × Contains (get_or chart p []) k × (name_at rows k ≡ other)
    step_of row c role p same l at other names =
        let named = maps_on (place_in (names_of rows)) row.roles.items (get_or chart c.0 []) (links c.0 row c.1 c.2) other names in
        let found = place_found (names_of rows) other named.0 named.2 in (
          named.0,
          subst (λ n. named.0 < n) (names_count rows) found.0,
          subst (λ q. Contains (get_or chart q []) named.0) (place_is row c role p same l at) named.1,
          found.1,
        )

    leads_reaches : (t : ℕ) → t < length rows → (role : List ℕ) → Leads rows (names_role (name_at rows t)) role → (p : ℕ) → p < length rows → name_at rows p ≡ role → Reaches chart p t
    leads_reaches t lt role (here _ row c same names) p l at =
        let s = step_of row c role p same l at (name_at rows t) (among_holds (name_at rows t) row.roles.items names) in
        by_step t (subst (Contains (get_or chart p [])) (unique rows distinct s.0 t s.1 lt s.3) s.2)
    leads_reaches t lt role (there _ other row c same names rest) p l at =
        let s = step_of row c role p same l at other names in
        prepend chart p s.0 t s.2 (leads_reaches t lt other rest s.0 s.1 s.3)

    pub on_cycle : (k : ℕ) → k < length rows → Reaches chart k k → is_on_cycle rows k ≡ true
    on_cycle k l r = (leads-Decides rows (names_role (name_at rows k)) (name_at rows k)).1 (reaches_leads k k l r)

    pub off_cycle : (k : ℕ) → k < length rows → ¬ (Reaches chart k k) → is_on_cycle rows k ≡ false
    off_cycle k l away = false_from_ne_true (is_on_cycle rows k) (λ h.
        away (leads_reaches k l (name_at rows k) ((leads-Decides rows (names_role (name_at rows k)) (name_at rows k)).0 h) k l refl))

    -- where a chain leads on from a row, the row passes, or one that its steps lead to does
    found : (test : RoleRow → Bool) (role : List ℕ) → Leads rows test role → (p : ℕ) → p < length rows → name_at rows p ≡ role
        → (passes_at test rows p ≡ true) ⊎ ((q : ℕ) × Reaches chart p q × (passes_at test rows q ≡ true))
    found test role (here _ row c same passes) p l at = inl (ap (passes_at test rows) (sym (place_is row c role p same l at)) ∙ passes_is test rows c.0 row c.1 c.2 ∙ passes)
    found test role (there _ other row c same names rest) p l at =
        let s = step_of row c role p same l at other names in
        ⊎_elim
        (λ passes. inr (s.0, by_step s.0 s.2, passes))
        (λ later. inr (later.0, prepend chart p s.0 later.0 s.2 later.1, later.2))
        (found test other rest s.0 s.1 s.3)

    leads_from : (test : RoleRow → Bool) (k : ℕ) → k < length rows → passes_at test rows k ≡ true → Leads rows test (name_at rows k)
    leads_from test k l h =
        let row = element rows k l in
        here (name_at rows k) row.0 (k, l, row.1) (sym (name_is rows k row.0 l row.1)) (sym (passes_is test rows k row.0 l row.1) ∙ h)

    -- the row and those of its set decide whether a chain leads to one that passes
    pub known_leads : (place : ℕ) → place < length rows → (words : List ℕ) → IsKnown chart place words → (test : RoleRow → Bool)
        → (passes_at test rows place || any_below (λ k. has words k && passes_at test rows k) (64 * length words)) ≡ leads rows test (name_at rows place)
    known_leads place l words known test = same_from_decides (own || more) (leads rows test (name_at rows place)) (sound, complete)
        (leads-Decides rows test (name_at rows place)) where
          own : Bool
          own = passes_at test rows place

          more : Bool
          more = any_below (λ k. has words k && passes_at test rows k) (64 * length words)

          sound : own || more ≡ true → Leads rows test (name_at rows place)
          sound h = ⊎_elim
              (λ passes. leads_from test place l passes)
              (λ later.
              let k = any_below_at (λ k. has words k && passes_at test rows k) (64 * length words) later in
              let parts = and_parts (has words k.0) (passes_at test rows k.0) k.2 in
              let r = (known.exact k.0).0 parts.0 in
              follow rows test (name_at rows k.0) (name_at rows place) (reaches_leads place k.0 l r) (leads_from test k.0 (reach_within place k.0 l r) parts.1))
              (or_cases own more h)

          complete : Leads rows test (name_at rows place) → own || more ≡ true
          complete chain = ⊎_elim
              (λ passes. or_left own more passes)
              (λ later.
              let kept = (known.exact later.0).1 later.1 in
              or_right own more (any_below_from (λ k. has words k && passes_at test rows k) (64 * length words) later.0 (has_within words later.0 kept)
              (and_from (has words later.0) (passes_at test rows later.0) kept later.2)))
              (found test (name_at rows place) chain place l refl)
