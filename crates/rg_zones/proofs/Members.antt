-- What a list has.
use Rattle.std.proofs.Common.{◌≡◌, ◌⊎◌, ◌&&◌, ◌||◌, ◌++◌, ℕ, zero, suc, Bool, true, false, cond, List, [], ◌∷◌, map, Some, None, slice_get, refl, sym, ap, subst, ◌∙◌, inl, inr}
use Rattle.std.proofs.lemmas.Bool.{false≢true, and_from, and_parts, or_cases, or_left, or_right}
use Rattle.std.proofs.lemmas.List.Folds.{list_all-append, list_any-append}
use Rattle.std.proofs.lemmas.Option.{none-some, same_Some}
use Rattle.std.specs.List.{filter, find, flat_map, list_all, list_any}

abbrev pub Has : {X : Type 0} → List X → X → Type 0
Has [] x = ⊥
Has (y ∷ ys) x = (y ≡ x) ⊎ Has ys x

pub bool_cases : (b : Bool) → (b ≡ true) ⊎ (b ≡ false)
bool_cases true = inl refl
bool_cases false = inr refl

pub has_all : {X : Type 0} (p : X → Bool) (xs : List X) → list_all p xs ≡ true → (x : X) → Has xs x → p x ≡ true
has_all p [] e x h = absurd h
has_all p (y ∷ ys) e x h = let k = and_parts (p y) (list_all p ys) e in elim h [
  | inl same ↦ ap p (sym same) ∙ k.0
  | inr on ↦ has_all p ys k.1 x on
]

pub all_has : {X : Type 0} (p : X → Bool) (xs : List X) → ((x : X) → Has xs x → p x ≡ true) → list_all p xs ≡ true
all_has p [] f = refl
all_has p (y ∷ ys) f = and_from (p y) (list_all p ys) (f y (inl refl)) (all_has p ys (λ x h. f x (inr h)))

pub has_any : {X : Type 0} (p : X → Bool) (xs : List X) → list_any p xs ≡ true → (x : X) × Has xs x × (p x ≡ true)
has_any p [] e = absurd (false≢true e)
has_any p (y ∷ ys) e = elim (or_cases (p y) (list_any p ys) e) [
  | inl now ↦ (y, inl refl, now)
  | inr on ↦ let r = has_any p ys on in (r.0, inr r.1, r.2)
]

pub any_has : {X : Type 0} (p : X → Bool) (xs : List X) (x : X) → Has xs x → p x ≡ true → list_any p xs ≡ true
any_has p [] x h e = absurd h
any_has p (y ∷ ys) x h e = elim h [
  | inl same ↦ or_left (p y) (list_any p ys) (ap p same ∙ e)
  | inr on ↦ or_right (p y) (list_any p ys) (any_has p ys x on e)
]

pub has_left : {X : Type 0} (xs ys : List X) (x : X) → Has xs x → Has (xs ++ ys) x
has_left [] ys x h = absurd h
has_left (y ∷ xs) ys x h = elim h [ inl same ↦ inl same | inr on ↦ inr (has_left xs ys x on) ]

pub has_right : {X : Type 0} (xs ys : List X) (x : X) → Has ys x → Has (xs ++ ys) x
has_right [] ys x h = h
has_right (y ∷ xs) ys x h = inr (has_right xs ys x h)

pub has_cases : {X : Type 0} (xs ys : List X) (x : X) → Has (xs ++ ys) x → Has xs x ⊎ Has ys x
has_cases [] ys x h = inr h
has_cases (y ∷ xs) ys x h = elim h [
  | inl same ↦ inl (inl same)
  | inr on ↦ elim (has_cases xs ys x on) [ inl left ↦ inl (inr left) | inr right ↦ inr right ]
]

pub has_map : {X Y : Type 0} (f : X → Y) (xs : List X) (x : X) → Has xs x → Has (map f xs) (f x)
has_map f [] x h = absurd h
has_map f (y ∷ ys) x h = elim h [ inl same ↦ inl (ap f same) | inr on ↦ inr (has_map f ys x on) ]

pub has_mapped : {X Y : Type 0} (f : X → Y) (xs : List X) (y : Y) → Has (map f xs) y → (x : X) × Has xs x × (f x ≡ y)
has_mapped f [] y h = absurd h
has_mapped f (x ∷ xs) y h = elim h [
  | inl same ↦ (x, inl refl, same)
  | inr on ↦ let r = has_mapped f xs y on in (r.0, inr r.1, r.2)
]

pub has_filter : {X : Type 0} (p : X → Bool) (xs : List X) (x : X) → Has xs x → p x ≡ true → Has (filter p xs) x
has_filter p [] x h e = absurd h
has_filter p (y ∷ ys) x h e = at (p y) refl (λ on. has_filter p ys x on e) where
  at : (b : Bool) → p y ≡ b → (Has ys x → Has (filter p ys) x) → Has (cond b (y ∷ filter p ys) (filter p ys)) x
  at true k rest = elim h [ inl same ↦ inl same | inr on ↦ inr (rest on) ]
  at false k rest = elim h [ inl same ↦ absurd (false≢true (sym k ∙ ap p same ∙ e)) | inr on ↦ rest on ]

pub has_filtered : {X : Type 0} (p : X → Bool) (xs : List X) (x : X) → Has (filter p xs) x → Has xs x × (p x ≡ true)
has_filtered p [] x h = absurd h
has_filtered p (y ∷ ys) x h = at (p y) refl h (has_filtered p ys x) where
  at : (b : Bool) → p y ≡ b → Has (cond b (y ∷ filter p ys) (filter p ys)) x → (Has (filter p ys) x → Has ys x × (p x ≡ true)) → Has (y ∷ ys) x × (p x ≡ true)
  at true k g rest = elim g [ inl same ↦ (inl same, ap p (sym same) ∙ k) | inr on ↦ let r = rest on in (inr r.0, r.1) ]
  at false k g rest = let r = rest g in (inr r.0, r.1)

pub has_flat : {X Y : Type 0} (f : X → List Y) (xs : List X) (x : X) (y : Y) → Has xs x → Has (f x) y → Has (flat_map f xs) y
has_flat f [] x y h g = absurd h
has_flat f (z ∷ xs) x y h g = elim h [
  | inl same ↦ has_left (f z) (flat_map f xs) y (subst (λ w. Has (f w) y) (sym same) g)
  | inr on ↦ has_right (f z) (flat_map f xs) y (has_flat f xs x y on g)
]

pub flat_has : {X Y : Type 0} (f : X → List Y) (xs : List X) (y : Y) → Has (flat_map f xs) y → (x : X) × Has xs x × Has (f x) y
flat_has f [] y h = absurd h
flat_has f (x ∷ xs) y h = elim (has_cases (f x) (flat_map f xs) y h) [
  | inl now ↦ (x, inl refl, now)
  | inr on ↦ let r = flat_has f xs y on in (r.0, inr r.1, r.2)
]

pub has_get : {X : Type 0} (xs : List X) (i : ℕ) (x : X) → slice_get xs i ≡ Some x → Has xs x
has_get [] i x e = absurd (none-some x e)
has_get (y ∷ ys) zero x e = inl (same_Some y x e)
has_get (y ∷ ys) (suc i) x e = inr (has_get ys i x e)

-- one of the elements passes, so one is found
pub not_missed : {X : Type 0} (p : X → Bool) (xs : List X) → list_any p xs ≡ true → find p xs ≡ None → ⊥
not_missed p [] e f = false≢true e
not_missed p (y ∷ ys) e f = at (p y) e f (not_missed p ys) where
  at : (b : Bool) → (b || list_any p ys) ≡ true → cond b (Some y) (find p ys) ≡ None → (list_any p ys ≡ true → find p ys ≡ None → ⊥) → ⊥
  at true k g rest = none-some y (sym g)
  at false k g rest = rest k g

pub any_flat : {X Y : Type 0} (p : Y → Bool) (f : X → List Y) (xs : List X) → list_any p (flat_map f xs) ≡ list_any (λ x. list_any p (f x)) xs
any_flat p f [] = refl
any_flat p f (x ∷ xs) = list_any-append p (f x) (flat_map f xs) ∙ ap (λ b. list_any p (f x) || b) (any_flat p f xs)

pub all_flat : {X Y : Type 0} (p : Y → Bool) (f : X → List Y) (xs : List X) → list_all p (flat_map f xs) ≡ list_all (λ x. list_all p (f x)) xs
all_flat p f [] = refl
all_flat p f (x ∷ xs) = list_all-append p (f x) (flat_map f xs) ∙ ap (λ b. list_all p (f x) && b) (all_flat p f xs)

pub agree_all : {X : Type 0} (p q : X → Bool) (xs : List X) → ((x : X) → Has xs x → p x ≡ q x) → list_all p xs ≡ list_all q xs
agree_all p q [] e = refl
agree_all p q (x ∷ xs) e = ap (λ b. b && list_all p xs) (e x (inl refl)) ∙ ap (λ b. q x && b) (agree_all p q xs (λ y h. e y (inr h)))

pub agree_any : {X : Type 0} (p q : X → Bool) (xs : List X) → ((x : X) → Has xs x → p x ≡ q x) → list_any p xs ≡ list_any q xs
agree_any p q [] e = refl
agree_any p q (x ∷ xs) e = ap (λ b. b || list_any p xs) (e x (inl refl)) ∙ ap (λ b. q x || b) (agree_any p q xs (λ y h. e y (inr h)))
