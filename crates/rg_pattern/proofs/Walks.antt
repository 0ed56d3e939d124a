-- The steps of the walks over a text and over another pattern.
use Rattle.std.proofs.Common.{◌≡◌, ◌≤◌, ℕ, List, [], ◌∷◌, Bool, true, false, ◌&&◌, Option, Some, None, cond, length, refl, subst, sym, ap, ◌∙◌, arith}
use Rattle.std.proofs.lemmas.Bool.{false≢true, and_parts}
use Rattle.rg_pattern.specs.declared.atoms.Atom.{Atom}
use Rattle.rg_pattern.specs.declared.atoms.Atom.TheVariants.{Character, One, Any, User}
use Rattle.rg_pattern.specs.Tests.{same_char, strip_prefix, passes, stands, some_suffix, covers, covers_atom}
use Rattle.rg_pattern.specs.Steps.{strip_atom, some_later, LeadsTo, StopsAt}
use Rattle.rg_pattern.proofs.Suffixes.{some_suffix_twice, later_shift}

-- a choice that gives something
pub chosen : {A : Type 0} (b : Bool) (o : Option A) (r : A) → cond b o None ≡ Some r → (b ≡ true) × (o ≡ Some r)
chosen true o r e = (refl, e)
chosen false o r e = absurd (cc)

pub strip_prefix_le : (fold : Bool) (prefix t r : List ℕ) → strip_prefix fold prefix t ≡ Some r → length r ≤ length t
strip_prefix_le fold [] t r e = let h : t ≡ r = cc in omega (arith, ap length h)
strip_prefix_le fold (c ∷ prefix) [] r e = absurd (cc)
strip_prefix_le fold (c ∷ prefix) (x ∷ t) r e =
    let l : length r ≤ length t = strip_prefix_le fold prefix t r (chosen (same_char fold c x) _ r e).1 in omega arith

tail_passes : (fold : Bool) (f : List ℕ → Bool) (c : ℕ) (prefix : List ℕ) (y : ℕ) (s : List ℕ) → passes f (strip_prefix fold (c ∷ prefix) (y ∷ s)) ≡ true → passes f (strip_prefix fold prefix s) ≡ true
tail_passes fold f c prefix y s h = of_test (same_char fold c y) h where
  of_test : (b : Bool) → passes f (cond b (strip_prefix fold prefix s) None) ≡ true → passes f (strip_prefix fold prefix s) ≡ true
  of_test true k = k
  of_test false k = absurd (false≢true k)

-- where the prefix followed by what passes also stands later, what passes stands later
later_strip_prefix : (fold : Bool) (f : List ℕ → Bool) (prefix t r : List ℕ) → strip_prefix fold prefix t ≡ Some r
    → some_later (λ s. passes f (strip_prefix fold prefix s)) t ≡ true → some_later f r ≡ true
later_strip_prefix fold f [] t r e l = subst (λ s. some_later f s ≡ true) (let h : t ≡ r = cc in h) l
later_strip_prefix fold f (c ∷ prefix) [] r e l = absurd (cc)
later_strip_prefix fold f (c ∷ prefix) (x ∷ t) r e l = later_strip_prefix fold f prefix t r (chosen (same_char fold c x) _ r e).1
    (later_shift (λ s. passes f (strip_prefix fold (c ∷ prefix) s)) (λ s. passes f (strip_prefix fold prefix s)) refl (tail_passes fold f c prefix) t l)

-- one atom on
stands-strip_atom : (fold : Bool) (user : List ℕ) (a : Atom) (p : List Atom) (t : List ℕ) → (a ≡ Any → ⊥) → stands fold user (a ∷ p) t ≡ passes (stands fold user p) (strip_atom fold user a t)
stands-strip_atom fold user (Character c) p [] n = refl
stands-strip_atom fold user (Character c) p (x ∷ t) n = elim (same_char fold c x) as (λ b. (b && stands fold user p t) ≡ passes (stands fold user p) (cond b (Some t) None)) [ true ↦ refl | false ↦ refl ]
stands-strip_atom fold user One p [] n = refl
stands-strip_atom fold user One p (x ∷ t) n = refl
stands-strip_atom fold user Any p t n = absurd (n refl)
stands-strip_atom fold user User p t n = refl

later_strip_atom : (fold : Bool) (user : List ℕ) (a : Atom) (p : List Atom) (t r : List ℕ) → (a ≡ Any → ⊥) → strip_atom fold user a t ≡ Some r
    → some_later (stands fold user (a ∷ p)) t ≡ true → some_later (stands fold user p) r ≡ true
later_strip_atom fold user (Character c) p [] r n e l = absurd (cc)
later_strip_atom fold user (Character c) p (x ∷ t) r n e l =
    let same : t ≡ r = let h = (chosen (same_char fold c x) (Some t) r e).1 in cc in
    subst (λ s. some_later (stands fold user p) s ≡ true) same
    (later_shift (stands fold user (Character c ∷ p)) (stands fold user p) refl (λ y s m. (and_parts (same_char fold c y) (stands fold user p s) m).1) t l)
later_strip_atom fold user One p [] r n e l = absurd (cc)
later_strip_atom fold user One p (x ∷ t) r n e l = subst (λ s. some_later (stands fold user p) s ≡ true) (let same : t ≡ r = cc in same)
    (later_shift (stands fold user (One ∷ p)) (stands fold user p) refl (λ y s k. k) t l)
later_strip_atom fold user Any p t r n e l = absurd (n refl)
later_strip_atom fold user User p t r n e l = later_strip_prefix fold (stands fold user p) user t r e l

strip_atom_le : (fold : Bool) (user : List ℕ) (a : Atom) (t r : List ℕ) → strip_atom fold user a t ≡ Some r → length r ≤ length t
strip_atom_le fold user (Character c) [] r e = absurd (cc)
strip_atom_le fold user (Character c) (x ∷ t) r e =
    let same : t ≡ r = let h = (chosen (same_char fold c x) (Some t) r e).1 in cc in
    omega (arith, ap length same)
strip_atom_le fold user One [] r e = absurd (cc)
strip_atom_le fold user One (x ∷ t) r e = let same : t ≡ r = cc in omega (arith, ap length same)
strip_atom_le fold user Any t r e = absurd (cc)
strip_atom_le fold user User t r e = strip_prefix_le fold user t r e

covers-cons : (fold : Bool) (a : Atom) (q : List Atom) (b : Atom) (p : List Atom) → (a ≡ Any → ⊥) → covers fold (a ∷ q) (b ∷ p) ≡ (covers_atom fold a b && covers fold q p)
covers-cons fold (Character c) q b p n = refl
covers-cons fold One q b p n = refl
covers-cons fold Any q b p n = absurd (n refl)
covers-cons fold User q b p n = refl

covers-nil : (fold : Bool) (a : Atom) (q : List Atom) → (a ≡ Any → ⊥) → covers fold (a ∷ q) [] ≡ false
covers-nil fold (Character c) q n = refl
covers-nil fold One q n = refl
covers-nil fold Any q n = absurd (n refl)
covers-nil fold User q n = refl

-- a step of either walk
leads_on : {X : Type 0} (f : List Atom → List X → Bool) (p : List Atom) (t : List X) (a : Atom) (q : List Atom) (s r : List X)
    → LeadsTo f p t (a ∷ q) s → f (a ∷ q) s ≡ f q r → (some_later (f (a ∷ q)) s ≡ true → some_later (f q) r ≡ true) → length r ≤ length s → LeadsTo f p t q r
leads_on f p t a q s r so_far same later shorter = record {
  same = so_far.same ∙ same;
  later = λ k. later (so_far.later k);
  atoms = let k = so_far.atoms in omega arith;
  texts = let k = so_far.texts in omega arith;
}

-- a walk that comes to an Any
pub leads_to_any : {X : Type 0} (f : List Atom → List X → Bool) (p : List Atom) (t : List X) (q : List Atom) (s : List X)
    → LeadsTo f p t (Any ∷ q) s → f (Any ∷ q) ≡ some_suffix (f q) → StopsAt f p t q s
leads_to_any f p t q s so_far any = record {
  same = so_far.same ∙ ap (λ g. g s) any;
  later = λ k. some_suffix_twice (f q) s (subst (λ g. some_later g s ≡ true) any (so_far.later k));
  atoms = let k = so_far.atoms in omega arith;
  texts = so_far.texts;
}

-- a step of the walk over a text
pub stands_on : (fold : Bool) (user : List ℕ) (p : List Atom) (t : List ℕ) (a : Atom) (q : List Atom) (s r : List ℕ)
    → LeadsTo (stands fold user) p t (a ∷ q) s → (a ≡ Any → ⊥) → strip_atom fold user a s ≡ Some r → LeadsTo (stands fold user) p t q r
stands_on fold user p t a q s r so_far n e =
    leads_on (stands fold user) p t a q s r so_far (stands-strip_atom fold user a q s n ∙ ap (passes (stands fold user q)) e) (later_strip_atom fold user a q s r n e) (strip_atom_le fold user a s r e)

-- a step of the walk over another pattern
pub covers_on : (fold : Bool) (p t : List Atom) (a : Atom) (q : List Atom) (b : Atom) (s : List Atom)
    → LeadsTo (covers fold) p t (a ∷ q) (b ∷ s) → (a ≡ Any → ⊥) → covers_atom fold a b ≡ true → LeadsTo (covers fold) p t q s
covers_on fold p t a q b s so_far n e =
    leads_on (covers fold) p t a q (b ∷ s) s so_far (covers-cons fold a q b s n ∙ ap (λ k. k && covers fold q s) e)
    (later_shift (covers fold (a ∷ q)) (covers fold q) (covers-nil fold a q n) (λ x z k. (and_parts (covers_atom fold a x) (covers fold q z) (sym (covers-cons fold a q x z n) ∙ k)).1) s) (omega arith)

-- what follows a last Any may be anything
pub empty_fits : (fold : Bool) (user : List ℕ) (p : List Atom) (t : List ℕ) → length p ≡ 0 → some_suffix (stands fold user p) t ≡ true
empty_fits fold user [] [] e = refl
empty_fits fold user [] (x ∷ t) e = empty_fits fold user [] t e
empty_fits fold user (a ∷ p) t e = absurd (omega (arith, e))
