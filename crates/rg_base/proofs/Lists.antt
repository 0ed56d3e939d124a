-- Tests of all elements and of some, and what a list contains.
use Rattle.std.proofs.Common.{◌≡◌, ◌⊎◌, ◌&&◌, ◌||◌, ◌<◌, ◌+◌, ◌++◌, ℕ, zero, suc, Bool, true, false, not, cond, List, [], ◌∷◌, Some, Contains, length, map, filter, take, drop, get_or, slice_get, refl, sym, ap, subst, ◌∙◌, inl, inr, arith, add-one}
use Rattle.std.proofs.Math.Seq.{drop-cons}
use Rattle.std.proofs.lemmas.Bool.{and_parts, true≢false}
use Rattle.std.proofs.lemmas.List.{get_or_default, take_more}
use Rattle.std.proofs.lemmas.List.Elements.{All-contains, All-contains_itself, All-filter, Contains-append_cases, Contains-append_left, Contains-append_right, Contains-get_or, filter_passes}
use Rattle.std.proofs.lemmas.List.Folds.{Any-from_list_any, list_any-from_Any}
use Rattle.std.proofs.lemmas.List.Sums.{AllPass-from_list_all, list_all-from_AllPass}
use Rattle.std.proofs.lemmas.Option.{none-some, same_Some}
use Rattle.std.proofs.lemmas.Slice.Eq.{bytes_eq-Decides}
use Rattle.std.specs.List.{find, flat_map, list_all, list_any}
use Rattle.std.specs.Str.{bytes_eq}
use Rattle.rg_base.specs.Texts.{all_distinct, is_among}

-- ---- tests of what was made of other elements; for `list_all` std has `list_all-map`

pub list_any-map : {X Y : Type 0} (p : Y → Bool) (f : X → Y) (xs : List X) → list_any p (map f xs) ≡ list_any (λ x. p (f x)) xs
list_any-map p f [] = refl
list_any-map p f (x ∷ xs) = ap (λ b. p (f x) || b) (list_any-map p f xs)

pub all_distinct-map : {X Y : Type 0} (same : Y → Y → Bool) (f : X → Y) (xs : List X) → all_distinct same (map f xs) ≡ all_distinct (λ x y. same (f x) (f y)) xs
all_distinct-map same f [] = refl
all_distinct-map same f (x ∷ xs) =
    ap (λ b. not b && all_distinct same (map f xs)) (list_any-map (same (f x)) f xs)
    ∙ ap (λ b. not (list_any (λ y. same (f x) (f y)) xs) && b) (all_distinct-map same f xs)

pub among_mapped : {X : Type 0} (name : X → List ℕ) (text : List ℕ) (xs : List X) → is_among text (map name xs) ≡ list_any (λ x. bytes_eq (name x) text) xs
among_mapped name text xs = list_any-map (λ t. bytes_eq t text) name xs

-- ---- tests that agree

pub list_all_agree : {X : Type 0} (p q : X → Bool) → ((x : X) → p x ≡ q x) → (xs : List X) → list_all p xs ≡ list_all q xs
list_all_agree p q e [] = refl
list_all_agree p q e (x ∷ xs) = ap (λ b. b && list_all p xs) (e x) ∙ ap (λ b. q x && b) (list_all_agree p q e xs)

pub list_any_agree : {X : Type 0} (p q : X → Bool) → ((x : X) → p x ≡ q x) → (xs : List X) → list_any p xs ≡ list_any q xs
list_any_agree p q e [] = refl
list_any_agree p q e (x ∷ xs) = ap (λ b. b || list_any p xs) (e x) ∙ ap (λ b. q x || b) (list_any_agree p q e xs)

pub find_agree : {X : Type 0} (p q : X → Bool) → ((x : X) → p x ≡ q x) → (xs : List X) → find p xs ≡ find q xs
find_agree p q e [] = refl
find_agree p q e (x ∷ xs) = ap (λ b. cond b (Some x) (find p xs)) (e x) ∙ ap (λ o. cond (q x) (Some x) o) (find_agree p q e xs)

-- ---- what a list contains

pub Contains-first : {X : Type 0} (y : X) (ys : List X) → Contains (y ∷ ys) y
Contains-first y ys = (0, omega arith, refl)

pub Contains-later : {X : Type 0} (y : X) (ys : List X) (x : X) → Contains ys x → Contains (y ∷ ys) x
Contains-later y ys x h = (suc h.0, omega arith, h.2)

pub Contains-cases : {X : Type 0} (y : X) (ys : List X) (x : X) → Contains (y ∷ ys) x → (y ≡ x) ⊎ Contains ys x
Contains-cases y ys x h = at h.0 h.1 h.2 where
  at : (k : ℕ) → k < length (y ∷ ys) → get_or (y ∷ ys) k x ≡ x → (y ≡ x) ⊎ Contains ys x
  at zero l e = inl e
  at (suc k) l e = inr (k, omega arith, e)

pub Contains-none : {X : Type 0} (x : X) → Contains [] x → ⊥
Contains-none x h = omega (arith, h.1)

pub Contains-same : {X : Type 0} (xs : List X) (x y : X) → x ≡ y → Contains xs x → Contains xs y
Contains-same xs x y e h = (h.0, h.1, get_or_default xs h.0 y x h.1 ∙ h.2 ∙ e)

pub Contains-slice_get : {X : Type 0} (xs : List X) (i : ℕ) (x : X) → slice_get xs i ≡ Some x → Contains xs x
Contains-slice_get [] i x e = absurd (none-some x e)
Contains-slice_get (y ∷ ys) zero x e = subst (Contains (y ∷ ys)) (same_Some y x e) (Contains-first y ys)
Contains-slice_get (y ∷ ys) (suc i) x e = Contains-later y ys x (Contains-slice_get ys i x e)

-- what is made of something contained is contained in what is made of all, and conversely
pub Contains-map : {X Y : Type 0} (f : X → Y) (xs : List X) (x : X) → Contains xs x → Contains (map f xs) (f x)
Contains-map f [] x h = absurd (Contains-none x h)
Contains-map f (y ∷ ys) x h = elim (Contains-cases y ys x h) [
  | inl same ↦ subst (λ z. Contains (f y ∷ map f ys) (f z)) same (Contains-first (f y) (map f ys))
  | inr on ↦ Contains-later (f y) (map f ys) (f x) (Contains-map f ys x on)
]

pub Contains-mapped : {X Y : Type 0} (f : X → Y) (xs : List X) (y : Y) → Contains (map f xs) y → (x : X) × Contains xs x × (f x ≡ y)
Contains-mapped f [] y h = absurd (Contains-none y h)
Contains-mapped f (x ∷ xs) y h = elim (Contains-cases (f x) (map f xs) y h) [
  | inl same ↦ (x, Contains-first x xs, same)
  | inr on ↦ let r = Contains-mapped f xs y on in (r.0, Contains-later x xs r.0 r.1, r.2)
]

pub Contains-flat_map : {X Y : Type 0} (f : X → List Y) (xs : List X) (x : X) (y : Y) → Contains xs x → Contains (f x) y → Contains (flat_map f xs) y
Contains-flat_map f [] x y h g = absurd (Contains-none x h)
Contains-flat_map f (z ∷ zs) x y h g = elim (Contains-cases z zs x h) [
  | inl same ↦ Contains-append_left (f z) (flat_map f zs) y (subst (λ w. Contains (f w) y) (sym same) g)
  | inr on ↦ Contains-append_right (f z) (flat_map f zs) y (Contains-flat_map f zs x y on g)
]

pub Contains-flat_mapped : {X Y : Type 0} (f : X → List Y) (xs : List X) (y : Y) → Contains (flat_map f xs) y → (x : X) × Contains xs x × Contains (f x) y
Contains-flat_mapped f [] y h = absurd (Contains-none y h)
Contains-flat_mapped f (x ∷ xs) y h = elim (Contains-append_cases (f x) (flat_map f xs) y h) [
  | inl now ↦ (x, Contains-first x xs, now)
  | inr on ↦ let r = Contains-flat_mapped f xs y on in (r.0, Contains-later x xs r.0 r.1, r.2)
]

-- what is contained and passes is filtered, and conversely
pub Contains-filter : {X : Type 0} (p : X → Bool) (xs : List X) (x : X) → Contains xs x → p x ≡ true → Contains (filter p xs) x
Contains-filter p [] x h e = absurd (Contains-none x h)
Contains-filter p (y ∷ ys) x h e = elim (Contains-cases y ys x h) [
  | inl same ↦ subst (λ b. Contains (cond b (y ∷ filter p ys) (filter p ys)) x) (sym (ap p same ∙ e)) (subst (Contains (y ∷ filter p ys)) same (Contains-first y (filter p ys)))
  | inr on ↦ let rest = Contains-filter p ys x on e in elim (p y) as (λ b. Contains (cond b (y ∷ filter p ys) (filter p ys)) x) [ true ↦ Contains-later y (filter p ys) x rest | false ↦ rest ]
]

pub Contains-filtered : {X : Type 0} (p : X → Bool) (xs : List X) (x : X) → Contains (filter p xs) x → Contains xs x × (p x ≡ true)
Contains-filtered p xs x h = (
  All-contains (Contains xs) (filter p xs) x (All-filter p (Contains xs) xs (All-contains_itself xs)) h,
  All-contains (λ y. p y ≡ true) (filter p xs) x (filter_passes p xs) h,
)

-- what is found is contained, and passes
pub find_contained : {X : Type 0} (p : X → Bool) (xs : List X) (x : X) → find p xs ≡ Some x → Contains xs x × (p x ≡ true)
find_contained p [] x e = absurd (none-some x e)
find_contained p (y ∷ ys) x e = at (p y) refl e (find_contained p ys x) where
  at : (b : Bool) → p y ≡ b → cond b (Some y) (find p ys) ≡ Some x → (find p ys ≡ Some x → Contains ys x × (p x ≡ true)) → Contains (y ∷ ys) x × (p x ≡ true)
  at true k same rest = let z = same_Some y x same in (subst (Contains (y ∷ ys)) z (Contains-first y ys), ap p (sym z) ∙ k)
  at false k later rest = let r = rest later in (Contains-later y ys x r.0, r.1)

-- ---- tests against what is contained

pub all_holds : {X : Type 0} (p : X → Bool) (xs : List X) → list_all p xs ≡ true → (x : X) → Contains xs x → p x ≡ true
all_holds p xs e x h = All-contains (λ y. p y ≡ true) xs x (AllPass-from_list_all p xs e) h

pub all_from : {X : Type 0} (p : X → Bool) (xs : List X) → ((x : X) → Contains xs x → p x ≡ true) → list_all p xs ≡ true
all_from p xs f = list_all-from_AllPass p xs (λ k d w. f (get_or xs k d) (Contains-get_or xs k d w))

pub any_holds : {X : Type 0} (p : X → Bool) (xs : List X) → list_any p xs ≡ true → (x : X) × Contains xs x × (p x ≡ true)
any_holds p xs e = let a = Any-from_list_any p xs e in (a.1, (a.0, a.2, a.3), a.4)

pub any_from : {X : Type 0} (p : X → Bool) (xs : List X) (x : X) → Contains xs x → p x ≡ true → list_any p xs ≡ true
any_from p xs x h e = list_any-from_Any p xs (h.0, x, h.1, h.2, e)

pub among_holds : (text : List ℕ) (texts : List (List ℕ)) → is_among text texts ≡ true → Contains texts text
among_holds text texts e = let a = any_holds (λ t. bytes_eq t text) texts e in Contains-same texts a.0 text ((bytes_eq-Decides a.0 text).0 a.2) a.1

pub among_from : (text : List ℕ) (texts : List (List ℕ)) → Contains texts text → is_among text texts ≡ true
among_from text texts h = any_from (λ t. bytes_eq t text) texts text h ((bytes_eq-Decides text text).1 refl)

pub same_truth : (a b : Bool) → (a ≡ true → b ≡ true) → (b ≡ true → a ≡ true) → a ≡ b
same_truth true true f g = refl
same_truth true false f g = absurd (true≢false (sym (f refl)))
same_truth false true f g = absurd (true≢false (sym (g refl)))
same_truth false false f g = refl

-- one of the first is among the second where one of the second is among the first
any_among_turned : (xs ys : List (List ℕ)) → list_any (λ n. is_among n ys) xs ≡ true → list_any (λ n. is_among n xs) ys ≡ true
any_among_turned xs ys e =
    let a = any_holds (λ n. is_among n ys) xs e in
    any_from (λ n. is_among n xs) ys a.0 (among_holds a.0 ys a.2) (among_from a.0 xs a.1)

pub any_among_either : (xs ys : List (List ℕ)) → list_any (λ n. is_among n ys) xs ≡ list_any (λ n. is_among n xs) ys
any_among_either xs ys = same_truth (list_any (λ n. is_among n ys) xs) (list_any (λ n. is_among n xs) ys) (any_among_turned xs ys) (any_among_turned ys xs)

-- ---- a list as a loop goes over it

-- one more element
pub take_next : {X : Type 0} (n : ℕ) (xs : List X) (x : X) → n < length xs → x ≡ get_or xs n x → take (n + 1) xs ≡ take n xs ++ x ∷ []
take_next n xs x there is = take_more xs n x there ∙ ap (λ z. take n xs ++ z ∷ []) (sym is)

-- what is left begins with the element at its place
pub drop_next : {X : Type 0} (n : ℕ) (xs : List X) (x : X) → n < length xs → x ≡ get_or xs n x → drop n xs ≡ x ∷ drop (n + 1) xs
drop_next n xs x there is = drop-cons xs n x there ∙ ap (λ y. y ∷ drop (suc n) xs) (sym is) ∙ ap (λ m. x ∷ drop m xs) (sym (add-one n))

-- where all that is left passes, so does the first of it, and what is left then
pub left_passes : {X : Type 0} (p : X → Bool) (n : ℕ) (xs : List X) (x : X) → n < length xs → x ≡ get_or xs n x → list_all p (drop n xs) ≡ true → (p x ≡ true) × (list_all p (drop (n + 1) xs) ≡ true)
left_passes p n xs x there is h = and_parts (p x) (list_all p (drop (n + 1) xs)) (ap (list_all p) (sym (drop_next n xs x there is)) ∙ h)
