-- The table over the pairs of rests decides whether two patterns overlap.
use Rattle.std.proofs.Common.{◌≡◌, ℕ, List, [], ◌∷◌, Bool, true, false, IsTrue, ◌↔◌, ◌&&◌, ◌||◌, cond, refl, subst, sym, ◌∙◌, ◌⊎◌, inl, inr, Result, Ok, Err, IfOk}
use Rattle.std.proofs.lemmas.Bool.{false≢true, or_cases, or_left, or_right, or_parts, and_parts, and_from, eqb-true, eq-eqb}
use Rattle.std.specs.Str.{all_scalars}
use lib.Utf8.{scalar}
use Rattle.rg_pattern.specs.declared.atoms.Atom.{Atom}
use Rattle.rg_pattern.specs.declared.atoms.Atom.TheVariants.{Character, One, Any, User}
use Rattle.rg_base.specs.Folding.{folded_char}
use Rattle.rg_pattern.specs.Atoms.{is_user, has_user, are_scalars}
use Rattle.rg_pattern.specs.Standing.{Overlap}
use Rattle.rg_pattern.specs.Tests.{same_char, stands, some_suffix, is_any, share_char, row, all_any, overlaps}
use Rattle.rg_pattern.proofs.Suffixes.{some_suffix_whole}
use Rattle.rg_pattern.proofs.Decided.{stands_holds, stands_from}

-- a text of Unicode scalar values that passes both tests
abbrev Shared : Bool → List Atom → List Atom → Type 0
Shared fold p q = (t : List ℕ) × (all_scalars t ≡ true) × (stands fold [] p t ≡ true) × (stands fold [] q t ≡ true)

later_scalars : (a : Atom) (p : List Atom) → are_scalars (a ∷ p) ≡ true → are_scalars p ≡ true
later_scalars (Character c) p s = (and_parts (scalar c) (are_scalars p) s).1
later_scalars One p s = s
later_scalars Any p s = s
later_scalars User p s = s

same_char_self : (fold : Bool) (c : ℕ) → same_char fold c c ≡ true
same_char_self fold c = eq-eqb _ _ refl

same_char_sym : (fold : Bool) (c d : ℕ) → same_char fold c d ≡ true → same_char fold d c ≡ true
same_char_sym fold c d e = eq-eqb _ _ (sym (eqb-true (folded_char fold c) (folded_char fold d) e))

same_char_trans : (fold : Bool) (c d x : ℕ) → same_char fold c d ≡ true → same_char fold d x ≡ true → same_char fold c x ≡ true
same_char_trans fold c d x e h = eq-eqb _ _ (eqb-true (folded_char fold c) (folded_char fold d) e ∙ eqb-true (folded_char fold d) (folded_char fold x) h)

all_any-stands : (fold : Bool) (q : List Atom) → all_any q ≡ true → stands fold [] q [] ≡ true
all_any-stands fold [] e = refl
all_any-stands fold (Any ∷ q) e = all_any-stands fold q e
all_any-stands fold (Character c ∷ q) e = absurd (false≢true e)
all_any-stands fold (One ∷ q) e = absurd (false≢true e)
all_any-stands fold (User ∷ q) e = absurd (false≢true e)

stands-all_any : (fold : Bool) (q : List Atom) → has_user q ≡ false → stands fold [] q [] ≡ true → all_any q ≡ true
stands-all_any fold [] n e = refl
stands-all_any fold (Any ∷ q) n e = stands-all_any fold q n e
stands-all_any fold (Character c ∷ q) n e = absurd (false≢true e)
stands-all_any fold (One ∷ q) n e = absurd (false≢true e)
stands-all_any fold (User ∷ q) n e = absurd (false≢true (sym n))

-- a character that an atom stands for
abbrev sample : Atom → ℕ
sample (Character c) = c
sample One = 97
sample Any = 97
sample User = 97

-- one that both stand for
abbrev common_char : Atom → Atom → ℕ
common_char (Character c) b = c
common_char One b = sample b
common_char Any b = sample b
common_char User b = sample b

one_more : (fold : Bool) (a : Atom) (p : List Atom) (t : List ℕ) → is_user a ≡ false → is_any a ≡ false → stands fold [] p t ≡ true → stands fold [] (a ∷ p) (sample a ∷ t) ≡ true
one_more fold (Character c) p t u n e = and_from _ _ (same_char_self fold c) e
one_more fold One p t u n e = e
one_more fold Any p t u n e = absurd (false≢true (sym n))
one_more fold User p t u n e = absurd (false≢true (sym u))

both_more : (fold : Bool) (a b : Atom) (p q : List Atom) (t : List ℕ) → share_char fold a b ≡ true → stands fold [] p t ≡ true → stands fold [] q t ≡ true
    → (stands fold [] (a ∷ p) (common_char a b ∷ t) ≡ true) × (stands fold [] (b ∷ q) (common_char a b ∷ t) ≡ true)
both_more fold (Character c) (Character d) p q t f e h = (and_from _ _ (same_char_self fold c) e, and_from _ _ (same_char_sym fold c d f) h)
both_more fold (Character c) One p q t f e h = (and_from _ _ (same_char_self fold c) e, h)
both_more fold (Character c) Any p q t f e h = absurd (false≢true f)
both_more fold (Character c) User p q t f e h = absurd (false≢true f)
both_more fold One (Character d) p q t f e h = (e, and_from _ _ (same_char_self fold d) h)
both_more fold One One p q t f e h = (e, h)
both_more fold One Any p q t f e h = absurd (false≢true f)
both_more fold One User p q t f e h = absurd (false≢true f)
both_more fold Any b p q t f e h = absurd (false≢true f)
both_more fold User b p q t f e h = absurd (false≢true f)

-- the cell of two atoms, by whether they are Any
of_cell : (x y : Bool) (below right there : Bool) → cond (x || y) (below || right) there ≡ true
    → (((x || y) ≡ true) × ((below ≡ true) ⊎ (right ≡ true))) ⊎ ((x ≡ false) × (y ≡ false) × (there ≡ true))
of_cell true y below right there e = inl (refl, or_cases below right e)
of_cell false true below right there e = inl (refl, or_cases below right e)
of_cell false false below right there e = inr (refl, refl, e)

any_is : (a : Atom) → is_any a ≡ true → a ≡ Any
any_is Any e = refl
any_is (Character c) e = absurd (false≢true e)
any_is One e = absurd (false≢true e)
any_is User e = absurd (false≢true e)

char_scalar : (c : ℕ) (p : List Atom) → are_scalars (Character c ∷ p) ≡ true → scalar c ≡ true
char_scalar c p s = (and_parts (scalar c) (are_scalars p) s).0

sample_scalar : (b : Atom) (q : List Atom) → are_scalars (b ∷ q) ≡ true → scalar (sample b) ≡ true
sample_scalar (Character c) q s = char_scalar c q s
sample_scalar One q s = refl
sample_scalar Any q s = refl
sample_scalar User q s = refl

common_scalar : (a b : Atom) (p q : List Atom) → are_scalars (a ∷ p) ≡ true → are_scalars (b ∷ q) ≡ true → scalar (common_char a b) ≡ true
common_scalar (Character c) b p q s z = char_scalar c p s
common_scalar One b p q s z = sample_scalar b q z
common_scalar Any b p q s z = sample_scalar b q z
common_scalar User b p q s z = sample_scalar b q z

-- from a text for the rest and the other, one for the atom before it too
below_gives : (fold : Bool) (a b : Atom) (p q : List Atom) → is_user a ≡ false → (is_any a || is_any b) ≡ true → are_scalars (a ∷ p) ≡ true → Shared fold p (b ∷ q) → Shared fold (a ∷ p) (b ∷ q)
below_gives fold Any b p q u n s o = (o.0, o.1, some_suffix_whole (stands fold [] p) o.0 o.2, o.3)
below_gives fold (Character c) Any p q u n s o = (c ∷ o.0, and_from _ _ (char_scalar c p s) o.1, one_more fold (Character c) p o.0 refl refl o.2, or_right _ _ o.3)
below_gives fold One Any p q u n s o = (97 ∷ o.0, o.1, o.2, or_right _ _ o.3)
below_gives fold (Character c) (Character d) p q u n s o = absurd (false≢true n)
below_gives fold (Character c) One p q u n s o = absurd (false≢true n)
below_gives fold (Character c) User p q u n s o = absurd (false≢true n)
below_gives fold One (Character d) p q u n s o = absurd (false≢true n)
below_gives fold One One p q u n s o = absurd (false≢true n)
below_gives fold One User p q u n s o = absurd (false≢true n)
below_gives fold User b p q u n s o = absurd (false≢true (sym u))

swapped : (fold : Bool) (p q : List Atom) → Shared fold p q → Shared fold q p
swapped fold p q o = (o.0, o.1, o.3, o.2)

or_swap : (x y : Bool) → (x || y) ≡ true → (y || x) ≡ true
or_swap x y e = elim (or_cases x y e) [ inl h ↦ or_right y x h | inr h ↦ or_left y x h ]

-- without User, and of Unicode scalar values
abbrev IsPlain : List Atom → Type 0
IsPlain p = (has_user p ≡ false) × (are_scalars p ≡ true)

later_plain : (a : Atom) (p : List Atom) → IsPlain (a ∷ p) → IsPlain p
later_plain a p n = ((or_parts (is_user a) (has_user p) n.0).1, later_scalars a p n.1)

row_sound : (fold : Bool) (a : Atom) (p : List Atom) → IsPlain (a ∷ p) → ((q : List Atom) → IsPlain q → overlaps fold p q ≡ true → Shared fold p q)
    → (q : List Atom) → IsPlain q → row fold a (overlaps fold p) q ≡ true → Shared fold (a ∷ p) q
row_sound fold a p m below [] n e =
    let k = and_parts (is_any a) (overlaps fold p []) e in
    let o = below [] n k.1 in
    let s = some_suffix_whole (stands fold [] p) o.0 o.2 in
    (o.0, o.1, subst (λ (z : Atom). stands fold [] (z ∷ p) o.0 ≡ true) (sym (any_is a k.0)) s, o.3)
row_sound fold a p m below (b ∷ q) n e =
    let no_user = (or_parts (is_user a) (has_user p) m.0).0 in
    let no_other = (or_parts (is_user b) (has_user q) n.0).0 in
    let right = row_sound fold a p m below q (later_plain b q n) in
    elim (of_cell (is_any a) (is_any b) (overlaps fold p (b ∷ q)) (row fold a (overlaps fold p) q) (share_char fold a b && overlaps fold p q) e) [
      | inl w ↦ elim w.1 [
        | inl x ↦ below_gives fold a b p q no_user w.0 m.1 (below (b ∷ q) n x)
        | inr x ↦ swapped fold (b ∷ q) (a ∷ p) (below_gives fold b a q p no_other (or_swap (is_any a) (is_any b) w.0) n.1 (swapped fold (a ∷ p) q (right x)))
      ]
      | inr w ↦
          let k = and_parts (share_char fold a b) (overlaps fold p q) w.2 in
          let o = below q (later_plain b q n) k.1 in
          let r = both_more fold a b p q o.0 k.0 o.2 o.3 in
          (common_char a b ∷ o.0, and_from _ _ (common_scalar a b p q m.1 n.1) o.1, r.0, r.1)
    ]

overlaps_sound : (fold : Bool) (p q : List Atom) → IsPlain p → IsPlain q → overlaps fold p q ≡ true → Shared fold p q
overlaps_sound fold [] q m n e = ([], refl, refl, all_any-stands fold q e)
overlaps_sound fold (a ∷ p) q m n e = row_sound fold a p m (λ r. overlaps_sound fold p r (later_plain a p m)) q n e

-- a text that both stand for begins with a character that both atoms stand for
both_less : (fold : Bool) (a b : Atom) (p q : List Atom) (t : List ℕ) → is_user a ≡ false → is_user b ≡ false → (is_any a || is_any b) ≡ false
    → stands fold [] (a ∷ p) t ≡ true → stands fold [] (b ∷ q) t ≡ true
    → (s : List ℕ) × (share_char fold a b ≡ true) × (stands fold [] p s ≡ true) × (stands fold [] q s ≡ true)
both_less fold (Character c) (Character d) p q [] u v n e h = absurd (false≢true e)
both_less fold (Character c) (Character d) p q (x ∷ t) u v n e h =
    let k = and_parts (same_char fold c x) (stands fold [] p t) e in
    let m = and_parts (same_char fold d x) (stands fold [] q t) h in
    (t, same_char_trans fold c x d k.0 (same_char_sym fold d x m.0), k.1, m.1)
both_less fold (Character c) One p q [] u v n e h = absurd (false≢true e)
both_less fold (Character c) One p q (x ∷ t) u v n e h = (t, refl, (and_parts (same_char fold c x) (stands fold [] p t) e).1, h)
both_less fold One (Character d) p q [] u v n e h = absurd (false≢true e)
both_less fold One (Character d) p q (x ∷ t) u v n e h = (t, refl, e, (and_parts (same_char fold d x) (stands fold [] q t) h).1)
both_less fold One One p q [] u v n e h = absurd (false≢true e)
both_less fold One One p q (x ∷ t) u v n e h = (t, refl, e, h)
both_less fold (Character c) Any p q t u v n e h = absurd (false≢true (sym n))
both_less fold One Any p q t u v n e h = absurd (false≢true (sym n))
both_less fold Any b p q t u v n e h = absurd (false≢true (sym n))
both_less fold (Character c) User p q t u v n e h = absurd (false≢true (sym v))
both_less fold One User p q t u v n e h = absurd (false≢true (sym v))
both_less fold User b p q t u v n e h = absurd (false≢true (sym u))

-- the atom that isn't Any takes one character
one_fewer : (fold : Bool) (a : Atom) (p : List Atom) (x : ℕ) (t : List ℕ) → is_user a ≡ false → is_any a ≡ false → stands fold [] (a ∷ p) (x ∷ t) ≡ true → stands fold [] p t ≡ true
one_fewer fold (Character c) p x t u n e = (and_parts (same_char fold c x) (stands fold [] p t) e).1
one_fewer fold One p x t u n e = e
one_fewer fold Any p x t u n e = absurd (false≢true (sym n))
one_fewer fold User p x t u n e = absurd (false≢true (sym u))

none_left : (fold : Bool) (a : Atom) (p : List Atom) → is_user a ≡ false → stands fold [] (a ∷ p) [] ≡ true → (is_any a ≡ true) × (stands fold [] p [] ≡ true)
none_left fold Any p u e = (refl, e)
none_left fold (Character c) p u e = absurd (false≢true e)
none_left fold One p u e = absurd (false≢true e)
none_left fold User p u e = absurd (false≢true (sym u))

abbrev Complete : Bool → (List Atom → Bool) → List Atom → List Atom → Type 0
Complete fold f p q = (t : List ℕ) → stands fold [] p t ≡ true → stands fold [] q t ≡ true → f q ≡ true

any_any : (fold : Bool) (p q : List Atom) (f : List Atom → Bool) → Complete fold f p (Any ∷ q) → Complete fold (row fold Any f) (Any ∷ p) q
    → (t : List ℕ) → stands fold [] (Any ∷ p) t ≡ true → stands fold [] (Any ∷ q) t ≡ true → (f (Any ∷ q) || row fold Any f q) ≡ true
any_any fold p q f hp hq [] e h = or_left _ _ (hp [] e h)
any_any fold p q f hp hq (x ∷ t) e h = elim (or_cases (stands fold [] p (x ∷ t)) (some_suffix (stands fold [] p) t) e) [
  | inl y ↦ or_left _ _ (hp (x ∷ t) y h)
  | inr y ↦ elim (or_cases (stands fold [] q (x ∷ t)) (some_suffix (stands fold [] q) t) h) [
    | inl z ↦ or_right _ _ (hq (x ∷ t) e z)
    | inr z ↦ any_any fold p q f hp hq t y z
  ]
]

any_atom : (fold : Bool) (b : Atom) (p q : List Atom) (f : List Atom → Bool) → is_user b ≡ false → is_any b ≡ false → Complete fold f p (b ∷ q) → Complete fold (row fold Any f) (Any ∷ p) q
    → (t : List ℕ) → stands fold [] (Any ∷ p) t ≡ true → stands fold [] (b ∷ q) t ≡ true → (f (b ∷ q) || row fold Any f q) ≡ true
any_atom fold b p q f u n hp hq [] e h = absurd (false≢true (sym n ∙ (none_left fold b q u h).0))
any_atom fold b p q f u n hp hq (x ∷ t) e h = elim (or_cases (stands fold [] p (x ∷ t)) (some_suffix (stands fold [] p) t) e) [
  | inl y ↦ or_left _ _ (hp (x ∷ t) y h)
  | inr y ↦ or_right _ _ (hq t y (one_fewer fold b q x t u n h))
]

atom_any : (fold : Bool) (a : Atom) (p q : List Atom) (f : List Atom → Bool) → is_user a ≡ false → is_any a ≡ false → Complete fold f p (Any ∷ q) → Complete fold (row fold a f) (a ∷ p) q
    → (t : List ℕ) → stands fold [] (a ∷ p) t ≡ true → stands fold [] (Any ∷ q) t ≡ true → (f (Any ∷ q) || row fold a f q) ≡ true
atom_any fold a p q f u n hp hq [] e h = absurd (false≢true (sym n ∙ (none_left fold a p u e).0))
atom_any fold a p q f u n hp hq (x ∷ t) e h = elim (or_cases (stands fold [] q (x ∷ t)) (some_suffix (stands fold [] q) t) h) [
  | inl z ↦ or_right _ _ (hq (x ∷ t) e z)
  | inr z ↦ or_left _ _ (hp t (one_fewer fold a p x t u n e) z)
]

row_complete : (fold : Bool) (a : Atom) (p : List Atom) (f : List Atom → Bool) → is_user a ≡ false → ((q : List Atom) → has_user q ≡ false → Complete fold f p q)
    → (q : List Atom) → has_user q ≡ false → Complete fold (row fold a f) (a ∷ p) q
row_complete fold a p f u hp [] n [] e h = let k = none_left fold a p u e in and_from _ _ k.0 (hp [] refl [] k.1 h)
row_complete fold a p f u hp [] n (x ∷ t) e h = absurd (false≢true h)
row_complete fold Any p f u hp (Any ∷ q) n t e h = any_any fold p q f (hp (Any ∷ q) n) (row_complete fold Any p f u hp q n) t e h
row_complete fold Any p f u hp (Character d ∷ q) n t e h = any_atom fold (Character d) p q f refl refl (hp (Character d ∷ q) n) (row_complete fold Any p f u hp q n) t e h
row_complete fold Any p f u hp (One ∷ q) n t e h = any_atom fold One p q f refl refl (hp (One ∷ q) n) (row_complete fold Any p f u hp q n) t e h
row_complete fold Any p f u hp (User ∷ q) n t e h = absurd (false≢true (sym n))
row_complete fold (Character c) p f u hp (Any ∷ q) n t e h = atom_any fold (Character c) p q f u refl (hp (Any ∷ q) n) (row_complete fold (Character c) p f u hp q n) t e h
row_complete fold (Character c) p f u hp (Character d ∷ q) n t e h = let k = both_less fold (Character c) (Character d) p q t refl refl refl e h in and_from _ _ k.1 (hp q n k.0 k.2 k.3)
row_complete fold (Character c) p f u hp (One ∷ q) n t e h = let k = both_less fold (Character c) One p q t refl refl refl e h in and_from _ _ k.1 (hp q n k.0 k.2 k.3)
row_complete fold (Character c) p f u hp (User ∷ q) n t e h = absurd (false≢true (sym n))
row_complete fold One p f u hp (Any ∷ q) n t e h = atom_any fold One p q f u refl (hp (Any ∷ q) n) (row_complete fold One p f u hp q n) t e h
row_complete fold One p f u hp (Character d ∷ q) n t e h = let k = both_less fold One (Character d) p q t refl refl refl e h in and_from _ _ k.1 (hp q n k.0 k.2 k.3)
row_complete fold One p f u hp (One ∷ q) n t e h = let k = both_less fold One One p q t refl refl refl e h in and_from _ _ k.1 (hp q n k.0 k.2 k.3)
row_complete fold One p f u hp (User ∷ q) n t e h = absurd (false≢true (sym n))
row_complete fold User p f u hp (b ∷ q) n t e h = absurd (false≢true (sym u))

overlaps_complete : (fold : Bool) (p q : List Atom) → has_user p ≡ false → has_user q ≡ false → (t : List ℕ) → stands fold [] p t ≡ true → stands fold [] q t ≡ true → overlaps fold p q ≡ true
overlaps_complete fold [] q m n [] e h = stands-all_any fold q n h
overlaps_complete fold [] q m n (x ∷ t) e h = absurd (false≢true e)
overlaps_complete fold (a ∷ p) q m n t e h =
    let k = or_parts (is_user a) (has_user p) m in
    row_complete fold a p (overlaps fold p) k.0 (λ r v s y z. overlaps_complete fold p r k.1 v s y z) q n t e h

pub overlap_holds : (fold : Bool) (p q : List Atom) → IsPlain p → IsPlain q → overlaps fold p q ≡ true → Overlap fold p q
overlap_holds fold p q m n e = let o = overlaps_sound fold p q m n e in (o.0, o.1, stands_holds fold [] p o.0 o.2, stands_holds fold [] q o.0 o.3)

pub overlap_from : (fold : Bool) (p q : List Atom) → has_user p ≡ false → has_user q ≡ false → Overlap fold p q → overlaps fold p q ≡ true
overlap_from fold p q m n o = overlaps_complete fold p q m n o.0 (stands_from fold [] p o.0 o.2) (stands_from fold [] q o.0 o.3)

overlap_exact : (fold : Bool) (p q : List Atom) (b : Bool) → IsPlain p → IsPlain q → b ≡ overlaps fold p q → IsTrue b ↔ Overlap fold p q
overlap_exact fold p q b m n e = (λ yes. overlap_holds fold p q m n (sym e ∙ yes), λ o. e ∙ overlap_from fold p q m.0 n.0 o)

pub overlap_answered : {E : Type 0} (fold : Bool) (p q : List Atom) (r : Result Bool E) → IsPlain p → IsPlain q → IfOk r (λ b. b ≡ overlaps fold p q) → IfOk r (λ b. IsTrue b ↔ Overlap fold p q)
overlap_answered fold p q (Ok b) m n e = overlap_exact fold p q b m n e
overlap_answered fold p q (Err none) m n e = e
