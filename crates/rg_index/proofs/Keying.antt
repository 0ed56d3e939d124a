-- The keys of a form at a level, as they are computed from the level alone and as the filings have them.
use Rattle.std.proofs.Common.{◌≡◌, ◌⊎◌, ◌+◌, ◌≤◌, ◌++◌, ◌||◌, ℕ, Bool, true, false, not, cond, if◌then◌else◌, List, [], ◌∷◌, Some, Contains, length, map, filter, refl, sym, ap, ◌∙◌, inl, inr, arith}
use Rattle.std.proofs.lemmas.Bool.{and_parts, false≢true, not-true}
use Rattle.std.proofs.lemmas.List.{map-append}
use Rattle.std.proofs.lemmas.List.Elements.{filter-append}
use Rattle.std.proofs.lemmas.List.Sums.{sum_by-cons}
use Rattle.std.proofs.lemmas.Option.{none-some, same_Some}
use Rattle.std.proofs.lemmas.Slice.Eq.{bytes_eq-Decides}
use Rattle.std.specs.List.{find, flat_map, list_any, sum_by}
use Rattle.std.specs.Str.{bytes_eq}
use Rattle.rg_base.proofs.Lists.{Contains-cases, any_from}
use Rattle.rg_base.specs.Texts.{all_distinct}
use Rattle.rg_defs.specs.declared.service_def.Level.{Level}
use Rattle.rg_defs.specs.declared.service_def.ServiceDef.{ServiceDef}
use Rattle.rg_defs.specs.Paths.{level_of}
use Rattle.rg_policy.specs.declared.policy.PolicyResource.{PolicyResource}
use Rattle.rg_policy.specs.declared.policy.ResourceMap.{ResourceMap}
use Rattle.rg_resmatch.specs.declared.reach.Reach.{Reach}
use Rattle.rg_resmatch.specs.declared.reach.Reach.TheVariants.{Exact, Down}
use Rattle.rg_resmatch.specs.Tests.{names_level}
use Rattle.rg_index.specs.declared.form.Form.{Form}
use Rattle.rg_index.specs.Filing.{Filing, filings, keys_at, keys_of, lacked_filings, map_filings, pairs, resource_filings}
use Rattle.rg_index.specs.Kept.{lacked_keys, level_keys, map_keys, named_keys}
use Rattle.rg_index.proofs.Lists.{flat_map_agree, sum_add, sum_agree, sum_none}

abbrev pub Distinct : List Level → Type 0
Distinct levels = all_distinct (λ (l m : Level). bytes_eq m.name l.name) levels ≡ true

-- the keys among these at the level of this name
abbrev sel : List ℕ → List Filing → List (List ℕ)
sel name fs = map (λ (f : Filing). f.key) (filter (λ (f : Filing). bytes_eq f.level name) fs)

sel_append : (name : List ℕ) (fs gs : List Filing) → sel name (fs ++ gs) ≡ sel name fs ++ sel name gs
sel_append name fs gs = ap (map (λ (f : Filing). f.key)) (filter-append (λ (f : Filing). bytes_eq f.level name) fs gs)
    ∙ map-append (λ (f : Filing). f.key) (filter (λ (f : Filing). bytes_eq f.level name) fs) (filter (λ (f : Filing). bytes_eq f.level name) gs)

sel_flat : {X : Type 0} (name : List ℕ) (f : X → List Filing) (xs : List X) → sel name (flat_map f xs) ≡ flat_map (λ x. sel name (f x)) xs
sel_flat name f [] = refl
sel_flat name f (x ∷ xs) = sel_append name (f x) (flat_map f xs) ∙ ap (λ ks. sel name (f x) ++ ks) (sel_flat name f xs)

abbrev filing : List ℕ → List ℕ → Filing
filing level key = record { level = level; key = key }

sel_all : (name level : List ℕ) → bytes_eq level name ≡ true → (keys : List (List ℕ)) → sel name (map (filing level) keys) ≡ keys
sel_all name level e [] = refl
sel_all name level e (key ∷ keys) =
    ap (λ b. map (λ (f : Filing). f.key) (cond b (filing level key ∷ filter (λ (f : Filing). bytes_eq f.level name) (map (filing level) keys)) (filter (λ (f : Filing). bytes_eq f.level name) (map (filing level) keys)))) e
    ∙ ap (λ ks. key ∷ ks) (sel_all name level e keys)

sel_no : (name level : List ℕ) → bytes_eq level name ≡ false → (keys : List (List ℕ)) → sel name (map (filing level) keys) ≡ []
sel_no name level e [] = refl
sel_no name level e (key ∷ keys) =
    ap (λ b. map (λ (f : Filing). f.key) (cond b (filing level key ∷ filter (λ (f : Filing). bytes_eq f.level name) (map (filing level) keys)) (filter (λ (f : Filing). bytes_eq f.level name) (map (filing level) keys)))) e
    ∙ sel_no name level e keys

module _ (def : ServiceDef) (l : Level) (known : level_of def l.name ≡ Some l) where
  sel_resource : (r : PolicyResource) → sel l.name (resource_filings def r) ≡ named_keys l r
  sel_resource r = at (bytes_eq r.level l.name) refl where
    at : (b : Bool) → bytes_eq r.level l.name ≡ b → sel l.name (resource_filings def r) ≡ named_keys l r
    at true e =
        let same : level_of def r.level ≡ Some l = ap (level_of def) ((bytes_eq-Decides r.level l.name).0 e) ∙ known in
        sel_all l.name r.level e (keys_of (level_of def r.level) r) ∙ ap (λ o. keys_of o r) same ∙ ap (λ (b : Bool). if b then keys_of (Some l) r else []) (sym e)
    at false e = sel_no l.name r.level e (keys_of (level_of def r.level) r) ∙ ap (λ (b : Bool). if b then keys_of (Some l) r else []) (sym e)

-- the filings of the levels that these resources lack
abbrev lacked : List PolicyResource → List Level → List Filing
lacked rs levels = map (λ (l : Level). filing l.name []) (filter (λ (l : Level). not (names_level rs l.name)) levels)

lacked_elsewhere : (rs : List PolicyResource) (name : List ℕ) (ms : List Level) → list_any (λ (m : Level). bytes_eq m.name name) ms ≡ false → sel name (lacked rs ms) ≡ []
lacked_elsewhere rs name [] h = refl
lacked_elsewhere rs name (m ∷ ms) h = at (bytes_eq m.name name) refl (names_level rs m.name) refl h (lacked_elsewhere rs name ms) where
  rest : List Level
  rest = filter (λ (l : Level). not (names_level rs l.name)) ms

  at : (b : Bool) → bytes_eq m.name name ≡ b → (n : Bool) → names_level rs m.name ≡ n → (bytes_eq m.name name || list_any (λ (m : Level). bytes_eq m.name name) ms) ≡ false
      → (list_any (λ (m : Level). bytes_eq m.name name) ms ≡ false → sel name (lacked rs ms) ≡ [])
      → sel name (map (λ (l : Level). filing l.name []) (cond (not (names_level rs m.name)) (m ∷ rest) rest)) ≡ []
  at true e n k f later = absurd (false≢true (sym f ∙ ap (λ b. b || list_any (λ (m : Level). bytes_eq m.name name) ms) e))
  at false e true k f later =
      ap (λ b. sel name (map (λ (l : Level). filing l.name []) (cond (not b) (m ∷ rest) rest))) k ∙ later (ap (λ b. b || list_any (λ (m : Level). bytes_eq m.name name) ms) (sym e) ∙ f)
  at false e false k f later =
      ap (λ b. sel name (map (λ (l : Level). filing l.name []) (cond (not b) (m ∷ rest) rest))) k
      ∙ ap (λ b. map (λ (f : Filing). f.key) (cond b (filing m.name [] ∷ filter (λ (f : Filing). bytes_eq f.level name) (lacked rs ms)) (filter (λ (f : Filing). bytes_eq f.level name) (lacked rs ms)))) e
      ∙ later (ap (λ b. b || list_any (λ (m : Level). bytes_eq m.name name) ms) (sym e) ∙ f)

lacked_here : (rs : List PolicyResource) (l : Level) (ms : List Level) → Distinct ms → find (λ (m : Level). bytes_eq m.name l.name) ms ≡ Some l
    → sel l.name (lacked rs ms) ≡ (if names_level rs l.name then [] else [] ∷ [])
lacked_here rs l [] d f = absurd (none-some l f)
lacked_here rs l (m ∷ ms) d f = at (bytes_eq m.name l.name) refl (names_level rs m.name) refl f (lacked_here rs l ms parts.1) where
  parts : (not (list_any (λ (n : Level). bytes_eq n.name m.name) ms) ≡ true) × Distinct ms
  parts = and_parts (not (list_any (λ (n : Level). bytes_eq n.name m.name) ms)) (all_distinct (λ (l m : Level). bytes_eq m.name l.name) ms) d

  rest : List Level
  rest = filter (λ (l : Level). not (names_level rs l.name)) ms

  at : (b : Bool) → bytes_eq m.name l.name ≡ b → (n : Bool) → names_level rs m.name ≡ n → cond (bytes_eq m.name l.name) (Some m) (find (λ (m : Level). bytes_eq m.name l.name) ms) ≡ Some l
      → (find (λ (m : Level). bytes_eq m.name l.name) ms ≡ Some l → sel l.name (lacked rs ms) ≡ (if names_level rs l.name then [] else [] ∷ []))
      → sel l.name (map (λ (l : Level). filing l.name []) (cond (not (names_level rs m.name)) (m ∷ rest) rest)) ≡ (if names_level rs l.name then [] else [] ∷ [])
  at true e true k g later =
      let same : m ≡ l = same_Some m l (ap (λ b. cond b (Some m) (find (λ (m : Level). bytes_eq m.name l.name) ms)) (sym e) ∙ g) in
      let none : list_any (λ (n : Level). bytes_eq n.name l.name) ms ≡ false = ap (λ (z : Level). list_any (λ (n : Level). bytes_eq n.name z.name) ms) (sym same) ∙ not-true _ parts.0 in
      ap (λ b. sel l.name (map (λ (l : Level). filing l.name []) (cond (not b) (m ∷ rest) rest))) k
      ∙ lacked_elsewhere rs l.name ms none
      ∙ ap (λ (b : Bool). if b then [] else [] ∷ []) (sym k ∙ ap (λ (z : Level). names_level rs z.name) same)
  at true e false k g later =
      let same : m ≡ l = same_Some m l (ap (λ b. cond b (Some m) (find (λ (m : Level). bytes_eq m.name l.name) ms)) (sym e) ∙ g) in
      let none : list_any (λ (n : Level). bytes_eq n.name l.name) ms ≡ false = ap (λ (z : Level). list_any (λ (n : Level). bytes_eq n.name z.name) ms) (sym same) ∙ not-true _ parts.0 in
      ap (λ b. sel l.name (map (λ (l : Level). filing l.name []) (cond (not b) (m ∷ rest) rest))) k
      ∙ ap (λ b. map (λ (f : Filing). f.key) (cond b (filing m.name [] ∷ filter (λ (f : Filing). bytes_eq f.level l.name) (lacked rs ms)) (filter (λ (f : Filing). bytes_eq f.level l.name) (lacked rs ms)))) e
      ∙ ap (λ (ks : List (List ℕ)). [] ∷ ks) (lacked_elsewhere rs l.name ms none)
      ∙ ap (λ (b : Bool). if b then [] else [] ∷ []) (sym k ∙ ap (λ (z : Level). names_level rs z.name) same)
  at false e true k g later =
      ap (λ b. sel l.name (map (λ (l : Level). filing l.name []) (cond (not b) (m ∷ rest) rest))) k
      ∙ later (ap (λ b. cond b (Some m) (find (λ (m : Level). bytes_eq m.name l.name) ms)) (sym e) ∙ g)
  at false e false k g later =
      ap (λ b. sel l.name (map (λ (l : Level). filing l.name []) (cond (not b) (m ∷ rest) rest))) k
      ∙ ap (λ b. map (λ (f : Filing). f.key) (cond b (filing m.name [] ∷ filter (λ (f : Filing). bytes_eq f.level l.name) (lacked rs ms)) (filter (λ (f : Filing). bytes_eq f.level l.name) (lacked rs ms)))) e
      ∙ later (ap (λ b. cond b (Some m) (find (λ (m : Level). bytes_eq m.name l.name) ms)) (sym e) ∙ g)

module _ (def : ServiceDef) (apart : Distinct def.levels.items) (l : Level) (known : level_of def l.name ≡ Some l) where
  sel_lacked : (reach : Reach) (rs : List PolicyResource) → sel l.name (lacked_filings reach def rs) ≡ lacked_keys reach l rs
  sel_lacked Exact rs = refl
  sel_lacked Down rs = lacked_here rs l def.levels.items apart known

  sel_map : (reach : Reach) (m : ResourceMap) → sel l.name (map_filings def reach m) ≡ map_keys l reach m
  sel_map reach m =
      sel_append l.name (flat_map (resource_filings def) m.levels.items) (lacked_filings reach def m.levels.items)
      ∙ (λ i. (sel_flat l.name (resource_filings def) m.levels.items ∙ flat_map_agree (λ r. sel l.name (resource_filings def r)) (named_keys l) (sel_resource def l known) m.levels.items) i
      ++ sel_lacked reach m.levels.items i)

  -- both are the same
  pub same_keys : (form : Form) → keys_at def form l.name ≡ level_keys l form
  same_keys form = sel_flat l.name (map_filings def form.reach) form.maps.items
      ∙ flat_map_agree (λ m. sel l.name (map_filings def form.reach m)) (map_keys l form.reach) (sel_map form.reach) form.maps.items

-- a level among levels of distinct names is found by its name
pub found_itself : (ms : List Level) (l : Level) → Distinct ms → Contains ms l → find (λ (m : Level). bytes_eq m.name l.name) ms ≡ Some l
found_itself [] l d h = absurd (omega (arith, h.1))
found_itself (m ∷ ms) l d h = at (bytes_eq m.name l.name) refl (Contains-cases m ms l h) (found_itself ms l parts.1) where
  parts : (not (list_any (λ (n : Level). bytes_eq n.name m.name) ms) ≡ true) × Distinct ms
  parts = and_parts (not (list_any (λ (n : Level). bytes_eq n.name m.name) ms)) (all_distinct (λ (l m : Level). bytes_eq m.name l.name) ms) d

  at : (b : Bool) → bytes_eq m.name l.name ≡ b → (m ≡ l) ⊎ Contains ms l → (Contains ms l → find (λ (m : Level). bytes_eq m.name l.name) ms ≡ Some l)
      → cond (bytes_eq m.name l.name) (Some m) (find (λ (m : Level). bytes_eq m.name l.name) ms) ≡ Some l
  at true e (inl same) later = ap (λ b. cond b (Some m) (find (λ (m : Level). bytes_eq m.name l.name) ms)) e ∙ ap Some same
  at true e (inr on) later =
      let name : m.name ≡ l.name = (bytes_eq-Decides m.name l.name).0 e in
      absurd (false≢true (sym (not-true _ parts.0) ∙ any_from (λ (n : Level). bytes_eq n.name m.name) ms l on ((bytes_eq-Decides l.name m.name).1 (sym name))))
  at false e (inl same) later = absurd (false≢true (sym e ∙ (bytes_eq-Decides m.name l.name).1 (ap (λ (z : Level). z.name) same)))
  at false e (inr on) later = ap (λ b. cond b (Some m) (find (λ (m : Level). bytes_eq m.name l.name) ms)) e ∙ later on

-- ---- all levels together have no more keys than there are filings

abbrev one_at : List ℕ → Level → ℕ
one_at level l = if bytes_eq level l.name then 1 else 0

sel_more : (f : Filing) (fs : List Filing) (l : Level) → length (sel l.name (f ∷ fs)) ≡ one_at f.level l + length (sel l.name fs)
sel_more f fs l = elim (bytes_eq f.level l.name) as (λ b. length (map (λ (f : Filing). f.key) (cond b (f ∷ filter (λ (f : Filing). bytes_eq f.level l.name) fs) (filter (λ (f : Filing). bytes_eq f.level l.name) fs))) ≡ (if b then 1 else 0) + length (sel l.name fs)) [
  | true ↦ omega arith
  | false ↦ omega arith
]

none_at : (level : List ℕ) (ms : List Level) → list_any (λ (m : Level). bytes_eq m.name level) ms ≡ false → sum_by (one_at level) ms ≡ 0
none_at level [] h = refl
none_at level (m ∷ ms) h = at (bytes_eq m.name level) refl h (none_at level ms) where
  at : (b : Bool) → bytes_eq m.name level ≡ b → (bytes_eq m.name level || list_any (λ (m : Level). bytes_eq m.name level) ms) ≡ false → (list_any (λ (m : Level). bytes_eq m.name level) ms ≡ false → sum_by (one_at level) ms ≡ 0) → sum_by (one_at level) (m ∷ ms) ≡ 0
  at true e g later = absurd (false≢true (sym g ∙ ap (λ b. b || list_any (λ (m : Level). bytes_eq m.name level) ms) e))
  at false e g later =
      let rest = later (ap (λ b. b || list_any (λ (m : Level). bytes_eq m.name level) ms) (sym e) ∙ g) in
      let off : bytes_eq level m.name ≡ false = flip (bytes_eq level m.name) refl in
      let zero : one_at level m ≡ 0 = ap (λ (b : Bool). if b then 1 else 0) off in
      sum_by-cons (one_at level) m ms ∙ let sum : one_at level m + sum_by (one_at level) ms ≡ 0 = omega (arith, zero, rest) in sum where
        flip : (b : Bool) → bytes_eq level m.name ≡ b → b ≡ false
        flip true k = absurd (false≢true (sym e ∙ (bytes_eq-Decides m.name level).1 (sym ((bytes_eq-Decides level m.name).0 k))))
        flip false k = refl

at_most_one : (level : List ℕ) (ms : List Level) → Distinct ms → sum_by (one_at level) ms ≤ 1
at_most_one level [] d = omega arith
at_most_one level (m ∷ ms) d = at (bytes_eq level m.name) refl (at_most_one level ms parts.1) where
  parts : (not (list_any (λ (n : Level). bytes_eq n.name m.name) ms) ≡ true) × Distinct ms
  parts = and_parts (not (list_any (λ (n : Level). bytes_eq n.name m.name) ms)) (all_distinct (λ (l m : Level). bytes_eq m.name l.name) ms) d

  at : (b : Bool) → bytes_eq level m.name ≡ b → sum_by (one_at level) ms ≤ 1 → sum_by (one_at level) (m ∷ ms) ≤ 1
  at true e h =
      let name : level ≡ m.name = (bytes_eq-Decides level m.name).0 e in
      let rest = none_at level ms (ap (λ (z : List ℕ). list_any (λ (n : Level). bytes_eq n.name z) ms) name ∙ not-true _ parts.0) in
      let one : one_at level m ≡ 1 = ap (λ (b : Bool). if b then 1 else 0) e in
      let sum = sum_by-cons (one_at level) m ms in
      omega (arith, rest, one, sum)
  at false e h =
      let zero : one_at level m ≡ 0 = ap (λ (b : Bool). if b then 1 else 0) e in
      let sum = sum_by-cons (one_at level) m ms in
      omega (arith, zero, sum, h)

keys_within : (ms : List Level) → Distinct ms → (fs : List Filing) → sum_by (λ (l : Level). length (sel l.name fs)) ms ≤ length fs
keys_within ms d [] = let none = sum_none ms in omega (arith, none)
keys_within ms d (f ∷ fs) =
    let split : sum_by (λ (l : Level). length (sel l.name (f ∷ fs))) ms ≡ sum_by (one_at f.level) ms + sum_by (λ (l : Level). length (sel l.name fs)) ms =
    sum_agree (λ (l : Level). length (sel l.name (f ∷ fs))) (λ (l : Level). one_at f.level l + length (sel l.name fs)) ms (λ l h. sel_more f fs l) ∙ sum_add (one_at f.level) (λ (l : Level). length (sel l.name fs)) ms in
    let one = at_most_one f.level ms d in
    let rest = keys_within ms d fs in
    omega (arith, split, one, rest)

module _ (def : ServiceDef) (apart : Distinct def.levels.items) where
  -- all keys of a form
  pub form_within : (form : Form) → sum_by (λ (l : Level). length (level_keys l form)) def.levels.items ≤ pairs def form
  form_within form =
      let same = sum_agree (λ (l : Level). length (level_keys l form)) (λ (l : Level). length (keys_at def form l.name)) def.levels.items
      (λ l h. sym (ap length (same_keys def apart l (found_itself def.levels.items l apart h) form))) in
      let within = keys_within def.levels.items apart (filings def form) in
      omega (arith, same, within)

  -- all keys of all forms
  pub forms_within : (forms : List Form) → sum_by (λ (l : Level). sum_by (λ (f : Form). length (level_keys l f)) forms) def.levels.items ≤ sum_by (pairs def) forms
  forms_within [] = let none = sum_none def.levels.items in omega (arith, none)
  forms_within (f ∷ fs) =
      let split = sum_agree (λ (l : Level). sum_by (λ (f : Form). length (level_keys l f)) (f ∷ fs)) (λ (l : Level). length (level_keys l f) + sum_by (λ (f : Form). length (level_keys l f)) fs) def.levels.items
      (λ l h. sum_by-cons (λ (f : Form). length (level_keys l f)) f fs)
      ∙ sum_add (λ (l : Level). length (level_keys l f)) (λ (l : Level). sum_by (λ (f : Form). length (level_keys l f)) fs) def.levels.items in
      let one = form_within f in
      let rest = forms_within fs in
      let sum = sum_by-cons (pairs def) f fs in
      omega (arith, split, one, rest, sum)
