-- The tests decide the relations.
use Rattle.std.proofs.Common.{◌≡◌, ℕ, List, [], ◌∷◌, ◌++◌, Bool, true, IsTrue, ◌↔◌, Option, Some, None, cond, refl, subst, sym, ap, ◌∙◌, inl, inr}
use Rattle.std.proofs.lemmas.Bool.{false≢true, and_parts, and_from, eqb-true, eq-eqb}
use Rattle.rg_pattern.specs.declared.atoms.Atom.{Atom}
use Rattle.rg_pattern.specs.declared.atoms.Atom.TheVariants.{Character, One, Any, User}
use Rattle.rg_base.specs.Folding.{folded, folded_char}
use Rattle.rg_pattern.specs.Standing.{Stands}
use Rattle.rg_pattern.specs.Covering.{Covers, IsSingle}
use Rattle.rg_pattern.specs.Tests.{same_char, strip_prefix, passes, stands, covers, covers_atom}
use Rattle.rg_pattern.proofs.Suffixes.{suffix_of, some_suffix-append}
use Rattle.rg_pattern.proofs.Walks.{chosen}

-- the rest that passes
passed : (f : List ℕ → Bool) (o : Option (List ℕ)) → passes f o ≡ true → (r : List ℕ) × (o ≡ Some r) × (f r ≡ true)
passed f None e = absurd (false≢true e)
passed f (Some r) e = (r, refl, e)

passes_from : (f : List ℕ → Bool) (o : Option (List ℕ)) (r : List ℕ) → o ≡ Some r → f r ≡ true → passes f o ≡ true
passes_from f o r e h = subst (λ (z : Option (List ℕ)). passes f z ≡ true) (sym e) h

-- what was stripped off a text
stripped : (fold : Bool) (user t r : List ℕ) → strip_prefix fold user t ≡ Some r → (name : List ℕ) × (t ≡ name ++ r) × (folded fold user ≡ folded fold name)
stripped fold [] t r e = ([], (let h : t ≡ r = cc in h), refl)
stripped fold (c ∷ user) [] r e = absurd (cc)
stripped fold (c ∷ user) (x ∷ t) r e =
    let k = chosen (same_char fold c x) _ r e in
    let o = stripped fold user t r k.1 in
    (x ∷ o.0, ap (λ z. x ∷ z) o.1, ap (λ y. y ∷ folded fold user) (eqb-true (folded_char fold c) (folded_char fold x) k.0) ∙ ap (λ z. folded_char fold x ∷ z) o.2)

strip_prefix-append : (fold : Bool) (user name r : List ℕ) → folded fold user ≡ folded fold name → strip_prefix fold user (name ++ r) ≡ Some r
strip_prefix-append fold [] [] r e = refl
strip_prefix-append fold [] (x ∷ name) r e = absurd (cc)
strip_prefix-append fold (c ∷ user) [] r e = absurd (cc)
strip_prefix-append fold (c ∷ user) (x ∷ name) r e =
    let first : folded_char fold c ≡ folded_char fold x = cc in
    let others : folded fold user ≡ folded fold name = cc in
    subst (λ b. cond b (strip_prefix fold user (name ++ r)) None ≡ Some r) (sym (eq-eqb (folded_char fold c) (folded_char fold x) first)) (strip_prefix-append fold user name r others)

pub stands_holds : (fold : Bool) (user : List ℕ) (p : List Atom) (t : List ℕ) → stands fold user p t ≡ true → Stands fold user p t
stands_holds fold user [] [] e = refl
stands_holds fold user [] (x ∷ t) e = absurd (false≢true e)
stands_holds fold user (Character c ∷ p) [] e = absurd (false≢true e)
stands_holds fold user (Character c ∷ p) (x ∷ t) e =
    let k = and_parts (same_char fold c x) (stands fold user p t) e in
    (x, t, refl, eqb-true (folded_char fold c) (folded_char fold x) k.0, stands_holds fold user p t k.1)
stands_holds fold user (One ∷ p) [] e = absurd (false≢true e)
stands_holds fold user (One ∷ p) (x ∷ t) e = (x, t, refl, stands_holds fold user p t e)
stands_holds fold user (User ∷ p) t e =
    let k = passed (stands fold user p) (strip_prefix fold user t) e in
    let n = stripped fold user t k.0 k.1 in
    (n.0, k.0, n.1, n.2, stands_holds fold user p k.0 k.2)
stands_holds fold user (Any ∷ p) t e =
    let o = suffix_of (stands fold user p) t e in
    (o.0, o.1, o.2, stands_holds fold user p o.1 o.3)

pub stands_from : (fold : Bool) (user : List ℕ) (p : List Atom) (t : List ℕ) → Stands fold user p t → stands fold user p t ≡ true
stands_from fold user [] t h = ap (stands fold user []) h
stands_from fold user (Character c ∷ p) t h =
    ap (stands fold user (Character c ∷ p)) h.2 ∙ and_from _ _ (eq-eqb (folded_char fold c) (folded_char fold h.0) h.3) (stands_from fold user p h.1 h.4)
stands_from fold user (One ∷ p) t h = ap (stands fold user (One ∷ p)) h.2 ∙ stands_from fold user p h.1 h.3
stands_from fold user (User ∷ p) t h =
    passes_from (stands fold user p) (strip_prefix fold user t) h.1 (ap (strip_prefix fold user) h.2 ∙ strip_prefix-append fold user h.0 h.1 h.3) (stands_from fold user p h.1 h.4)
stands_from fold user (Any ∷ p) t h = ap (stands fold user (Any ∷ p)) h.2 ∙ some_suffix-append (stands fold user p) h.0 h.1 (stands_from fold user p h.1 h.3)

single : (fold : Bool) (b : Atom) → covers_atom fold One b ≡ true → IsSingle b
single fold One e = inl refl
single fold (Character d) e = inr (d, refl)
single fold Any e = absurd (false≢true e)
single fold User e = absurd (false≢true e)

single_covered : (fold : Bool) (b : Atom) → IsSingle b → covers_atom fold One b ≡ true
single_covered fold b s = elim s [ inl one ↦ ap (covers_atom fold One) one | inr char ↦ ap (covers_atom fold One) char.1 ]

pub covers_holds : (fold : Bool) (q p : List Atom) → covers fold q p ≡ true → Covers fold q p
covers_holds fold [] [] e = refl
covers_holds fold [] (b ∷ p) e = absurd (false≢true e)
covers_holds fold (Any ∷ q) p e =
    let o = suffix_of (covers fold q) p e in
    (o.0, o.1, o.2, covers_holds fold q o.1 o.3)
covers_holds fold (One ∷ q) [] e = absurd (false≢true e)
covers_holds fold (One ∷ q) (b ∷ p) e =
    let k = and_parts (covers_atom fold One b) (covers fold q p) e in
    (b, p, refl, single fold b k.0, covers_holds fold q p k.1)
covers_holds fold (Character c ∷ q) [] e = absurd (false≢true e)
covers_holds fold (Character c ∷ q) (Character d ∷ p) e =
    let k = and_parts (same_char fold c d) (covers fold q p) e in
    (d, p, refl, eqb-true (folded_char fold c) (folded_char fold d) k.0, covers_holds fold q p k.1)
covers_holds fold (Character c ∷ q) (One ∷ p) e = absurd (false≢true e)
covers_holds fold (Character c ∷ q) (Any ∷ p) e = absurd (false≢true e)
covers_holds fold (Character c ∷ q) (User ∷ p) e = absurd (false≢true e)
covers_holds fold (User ∷ q) [] e = absurd (false≢true e)
covers_holds fold (User ∷ q) (User ∷ p) e = (p, refl, covers_holds fold q p e)
covers_holds fold (User ∷ q) (Character d ∷ p) e = absurd (false≢true e)
covers_holds fold (User ∷ q) (One ∷ p) e = absurd (false≢true e)
covers_holds fold (User ∷ q) (Any ∷ p) e = absurd (false≢true e)

pub covers_from : (fold : Bool) (q p : List Atom) → Covers fold q p → covers fold q p ≡ true
covers_from fold [] p h = ap (covers fold []) h
covers_from fold (Any ∷ q) p h = ap (covers fold (Any ∷ q)) h.2 ∙ some_suffix-append (covers fold q) h.0 h.1 (covers_from fold q h.1 h.3)
covers_from fold (One ∷ q) p h = ap (covers fold (One ∷ q)) h.2 ∙ and_from _ _ (single_covered fold h.0 h.3) (covers_from fold q h.1 h.4)
covers_from fold (Character c ∷ q) p h = ap (covers fold (Character c ∷ q)) h.2 ∙ and_from _ _ (eq-eqb (folded_char fold c) (folded_char fold h.0) h.3) (covers_from fold q h.1 h.4)
covers_from fold (User ∷ q) p h = ap (covers fold (User ∷ q)) h.1 ∙ covers_from fold q h.0 h.2

pub stands_exact : (fold : Bool) (user : List ℕ) (p : List Atom) (t : List ℕ) (b : Bool) → b ≡ stands fold user p t → IsTrue b ↔ Stands fold user p t
stands_exact fold user p t b e = (λ yes. stands_holds fold user p t (sym e ∙ yes), λ h. e ∙ stands_from fold user p t h)

pub covers_exact : (fold : Bool) (q p : List Atom) (b : Bool) → b ≡ covers fold q p → IsTrue b ↔ Covers fold q p
covers_exact fold q p b e = (λ yes. covers_holds fold q p (sym e ∙ yes), λ h. e ∙ covers_from fold q p h)
