-- Climbing from a level to its root, and the paths so far.
use Rattle.std.proofs.Common.{◌≡◌, ◌<◌, ◌-◌, ◌+◌, ◌++◌, ℕ, zero, suc, Bool, true, false, cond, ◌||◌, List, [], ◌∷◌, length, map, Some, None, refl, arith, sym, ap, ◌∙◌, append_assoc}
use Rattle.std.proofs.lemmas.List.{append-nil, map-append, map-id}
use Rattle.std.proofs.lemmas.Simd.{map-map}
use Rattle.std.proofs.lemmas.List.Elements.{filter-append}
use Rattle.std.proofs.lemmas.List.FromFn.{map-range_with_len_more}
use Rattle.std.specs.List.{filter, list_any, range_with_len}
use Rattle.rg_base.specs.Listed.{listed}
use Rattle.rg_defs.specs.declared.service_def.Level.{Level}
use Rattle.rg_defs.specs.Paths.{parent_of}
use Rattle.rg_defs.specs.PathTests.{climb, first_paths, is_leaf, path_to, paths_of}

pub climb_none : (levels : List Level) (n : ℕ) → climb levels n None ≡ []
climb_none levels zero = refl
climb_none levels (suc n) = refl

-- one more place is written
pub climb_more : (levels : List Level) (n : ℕ) (path whole : List ℕ) (here : ℕ) → 0 < n → path ++ climb levels n (Some here) ≡ whole
    → (path ++ here ∷ []) ++ climb levels (n - 1) (parent_of levels here) ≡ whole
climb_more levels zero path whole here h e = absurd (omega arith)
climb_more levels (suc n) path whole here h e =
    let same : suc n - 1 ≡ n = omega arith in
    ap (λ m. (path ++ here ∷ []) ++ climb levels m (parent_of levels here)) same
    ∙ append_assoc path (here ∷ []) (climb levels n (parent_of levels here)) ∙ e

-- nothing is left
pub climb_ended : (levels : List Level) (n : ℕ) (path whole : List ℕ) → path ++ climb levels n None ≡ whole → path ≡ whole
climb_ended levels n path whole e = sym (ap (λ r. path ++ r) (climb_none levels n) ∙ append-nil path) ∙ e

range_more : (n : ℕ) → range_with_len 0 (n + 1) ≡ range_with_len 0 n ++ n ∷ []
range_more n = sym (map-id (range_with_len 0 (n + 1))) ∙ map-range_with_len_more (λ (k : ℕ). k) 0 n n (omega arith) ∙ ap (λ r. r ++ n ∷ []) (map-id (range_with_len 0 n))

-- one more place
places_more : (p : ℕ → Bool) (n : ℕ) → filter p (range_with_len 0 (n + 1)) ≡ filter p (range_with_len 0 n) ++ filter p (n ∷ [])
places_more p n = ap (filter p) (range_more n) ∙ filter-append p (range_with_len 0 n) (n ∷ [])

pub first_paths_leaf : (levels : List Level) (n : ℕ) → is_leaf levels n ≡ true → first_paths levels (n + 1) ≡ first_paths levels n ++ listed (path_to levels n) ∷ []
first_paths_leaf levels n e =
    let f = λ (leaf : ℕ). listed (path_to levels leaf) in
    ap (map f) (places_more (is_leaf levels) n ∙ ap (λ (b : Bool). filter (is_leaf levels) (range_with_len 0 n) ++ cond b (n ∷ []) []) e)
    ∙ map-append f (filter (is_leaf levels) (range_with_len 0 n)) (n ∷ [])

pub first_paths_other : (levels : List Level) (n : ℕ) → is_leaf levels n ≡ false → first_paths levels (n + 1) ≡ first_paths levels n
first_paths_other levels n e =
    let f = λ (leaf : ℕ). listed (path_to levels leaf) in
    ap (map f) (places_more (is_leaf levels) n ∙ ap (λ (b : Bool). filter (is_leaf levels) (range_with_len 0 n) ++ cond b (n ∷ []) []) e ∙ append-nil (filter (is_leaf levels) (range_with_len 0 n)))

pub all_paths : (levels : List Level) → first_paths levels (length levels) ≡ map listed (paths_of levels)
all_paths levels = sym (map-map listed (path_to levels) (filter (is_leaf levels) (range_with_len 0 (length levels))))

-- a place that fails can be left out
pub failed_above : (p : ℕ → Bool) (levels : List Level) (n here : ℕ) → 0 < n → p here ≡ false
    → list_any p (climb levels (n - 1) (parent_of levels here)) ≡ list_any p (climb levels n (Some here))
failed_above p levels zero here h e = absurd (omega arith)
failed_above p levels (suc n) here h e =
    let same : suc n - 1 ≡ n = omega arith in
    ap (λ m. list_any p (climb levels m (parent_of levels here))) same ∙ sym (ap (λ b. b || list_any p (climb levels n (parent_of levels here))) e)
