-- Patterns one after the other: the twin, covering, and the literal prefix.
use Rattle.std.proofs.Common.{◌≡◌, nat_eq, ℕ, List, [], ◌∷◌, ◌++◌, Bool, true, false, ◌||◌, cond, refl, subst, sym, ap, ◌∙◌, arith, append_assoc, inl, inr}
use Rattle.std.proofs.lemmas.Bool.{false≢true, and_parts, and_from, eq-eqb}
use Rattle.std.proofs.lemmas.Bool.Decides.{nat_tests}
use Rattle.std.proofs.lemmas.List.{append-nil, map-append}
use Rattle.std.specs.Char.{to_ascii_lowercase}
use Rattle.std.specs.List.{starts_with}
use Rattle.std.specs.Str.{all_scalars}
use lib.Utf8.{scalar}
use Rattle.rg_pattern.specs.declared.atoms.Atom.{Atom}
use Rattle.rg_pattern.specs.declared.atoms.Atom.TheVariants.{Character, One, Any, User}
use Rattle.rg_base.specs.Folding.{folded, folded_char}
use Rattle.rg_pattern.specs.Atoms.{is_user, has_user, are_scalars, is_slash, ends_in_slash, twin, literal_prefix}
use Rattle.rg_pattern.specs.Standing.{Stands, IsBelow}
use Rattle.rg_pattern.specs.Covering.{Covers, IsSingle}

-- a text that p followed by q stands for, cut where p ends
abbrev Cut : Bool → List ℕ → List Atom → List Atom → List ℕ → Type 0
Cut fold user p q t = (front rest : List ℕ) × (t ≡ front ++ rest) × Stands fold user p front × Stands fold user q rest

stands_cut : (fold : Bool) (user : List ℕ) (p q : List Atom) (t : List ℕ) → Stands fold user (p ++ q) t → Cut fold user p q t
stands_cut fold user [] q t h = ([], t, refl, refl, h)
stands_cut fold user (Character c ∷ p) q t h =
    let o = stands_cut fold user p q h.1 h.4 in
    (h.0 ∷ o.0, o.1, h.2 ∙ ap (λ z. h.0 ∷ z) o.2, (h.0, o.0, refl, h.3, o.3), o.4)
stands_cut fold user (One ∷ p) q t h =
    let o = stands_cut fold user p q h.1 h.3 in
    (h.0 ∷ o.0, o.1, h.2 ∙ ap (λ z. h.0 ∷ z) o.2, (h.0, o.0, refl, o.3), o.4)
stands_cut fold user (User ∷ p) q t h =
    let o = stands_cut fold user p q h.1 h.4 in
    (h.0 ++ o.0, o.1, h.2 ∙ ap (λ z. h.0 ++ z) o.2 ∙ sym (append_assoc h.0 o.0 o.1), (h.0, o.0, refl, h.3, o.3), o.4)
stands_cut fold user (Any ∷ p) q t h =
    let o = stands_cut fold user p q h.1 h.3 in
    (h.0 ++ o.0, o.1, h.2 ∙ ap (λ z. h.0 ++ z) o.2 ∙ sym (append_assoc h.0 o.0 o.1), (h.0, o.0, refl, o.3), o.4)

stands_join : (fold : Bool) (user : List ℕ) (p q : List Atom) (front rest : List ℕ) → Stands fold user p front → Stands fold user q rest → Stands fold user (p ++ q) (front ++ rest)
stands_join fold user [] q front rest h s = subst (λ (z : List ℕ). Stands fold user q (z ++ rest)) (sym h) s
stands_join fold user (Character c ∷ p) q front rest h s = (h.0, h.1 ++ rest, ap (λ z. z ++ rest) h.2, h.3, stands_join fold user p q h.1 rest h.4 s)
stands_join fold user (One ∷ p) q front rest h s = (h.0, h.1 ++ rest, ap (λ z. z ++ rest) h.2, stands_join fold user p q h.1 rest h.3 s)
stands_join fold user (User ∷ p) q front rest h s = (h.0, h.1 ++ rest, ap (λ z. z ++ rest) h.2 ∙ append_assoc h.0 h.1 rest, h.3, stands_join fold user p q h.1 rest h.4 s)
stands_join fold user (Any ∷ p) q front rest h s = (h.0, h.1 ++ rest, ap (λ z. z ++ rest) h.2 ∙ append_assoc h.0 h.1 rest, stands_join fold user p q h.1 rest h.3 s)

-- only `/` is folded to `/`
lower_slash : (x : ℕ) → 47 ≡ to_ascii_lowercase x → x ≡ 47
lower_slash x e = grind (arith, nat_tests)

only_slash : (fold : Bool) (x : ℕ) → folded_char fold 47 ≡ folded_char fold x → x ≡ 47
only_slash false x e = sym e
only_slash true x e = lower_slash x e

-- what the twin adds
abbrev tail : Bool → List Atom
tail b = cond b (Any ∷ []) (Character 47 ∷ Any ∷ [])

tail_stands : (fold : Bool) (user : List ℕ) (b : Bool) (s : List ℕ) → Stands fold user (tail b) s → (rest : List ℕ) × (s ≡ cond b rest (47 ∷ rest))
tail_stands fold user true s h = (s, refl)
tail_stands fold user false s h = (h.1, h.2 ∙ ap (λ y. y ∷ h.1) (only_slash fold h.0 h.3))

stands_tail : (fold : Bool) (user : List ℕ) (b : Bool) (rest : List ℕ) → Stands fold user (tail b) (cond b rest (47 ∷ rest))
stands_tail fold user true rest = (rest, [], sym (append-nil rest), refl)
stands_tail fold user false rest = (47, rest, refl, refl, (rest, [], sym (append-nil rest), refl))

pub twin_below : (fold : Bool) (user : List ℕ) (p : List Atom) (t : List ℕ) → Stands fold user (twin p) t → IsBelow fold user p t
twin_below fold user p t h =
    let o = stands_cut fold user p (tail (ends_in_slash p)) t h in
    let r = tail_stands fold user (ends_in_slash p) o.1 o.4 in
    (o.0, r.0, o.3, o.2 ∙ ap (λ z. o.0 ++ z) r.1)

pub below_twin : (fold : Bool) (user : List ℕ) (p : List Atom) (t : List ℕ) → IsBelow fold user p t → Stands fold user (twin p) t
below_twin fold user p t b =
    subst (λ (z : List ℕ). Stands fold user (twin p) z) (sym b.3)
    (stands_join fold user p (tail (ends_in_slash p)) b.0 (cond (ends_in_slash p) b.1 (47 ∷ b.1)) b.2 (stands_tail fold user (ends_in_slash p) b.1))

-- One stands for what a single atom stands for
single_stands : (fold : Bool) (user : List ℕ) (b : Atom) (p : List Atom) (t : List ℕ) → IsSingle b → Stands fold user (b ∷ p) t → (x : ℕ) × (rest : List ℕ) × (t ≡ x ∷ rest) × Stands fold user p rest
single_stands fold user One p t s h = h
single_stands fold user (Character c) p t s h = (h.0, h.1, h.2, h.4)
single_stands fold user Any p t s h = elim s [ inl one ↦ absurd (cc) | inr char ↦ absurd (let e = char.1 in cc) ]
single_stands fold user User p t s h = elim s [ inl one ↦ absurd (cc) | inr char ↦ absurd (let e = char.1 in cc) ]

pub covers_stands : (fold : Bool) (user : List ℕ) (q p : List Atom) (t : List ℕ) → Covers fold q p → Stands fold user p t → Stands fold user q t
covers_stands fold user [] p t k h = subst (λ (z : List Atom). Stands fold user z t) k h
covers_stands fold user (Any ∷ q) p t k h =
    let o = stands_cut fold user k.0 k.1 t (subst (λ (z : List Atom). Stands fold user z t) k.2 h) in
    (o.0, o.1, o.2, covers_stands fold user q k.1 o.1 k.3 o.4)
covers_stands fold user (One ∷ q) p t k h =
    let o = single_stands fold user k.0 k.1 t k.3 (subst (λ (z : List Atom). Stands fold user z t) k.2 h) in
    (o.0, o.1, o.2, covers_stands fold user q k.1 o.1 k.4 o.3)
covers_stands fold user (Character c ∷ q) p t k h =
    let o = subst (λ (z : List Atom). Stands fold user z t) k.2 h in
    (o.0, o.1, o.2, k.3 ∙ o.3, covers_stands fold user q k.1 o.1 k.4 o.4)
covers_stands fold user (User ∷ q) p t k h =
    let o = subst (λ (z : List Atom). Stands fold user z t) k.1 h in
    (o.0, o.1, o.2, o.3, covers_stands fold user q k.0 o.1 k.2 o.4)

prefix_begins : (fold : Bool) (user : List ℕ) (p : List Atom) (t : List ℕ) → Stands fold user p t → (rest : List ℕ) × (folded fold t ≡ literal_prefix fold p ++ rest)
prefix_begins fold user [] t h = (folded fold t, refl)
prefix_begins fold user (Character c ∷ p) t h =
    let o = prefix_begins fold user p h.1 h.4 in
    (o.0, ap (folded fold) h.2 ∙ ap (λ y. y ∷ folded fold h.1) (sym h.3) ∙ ap (λ s. folded_char fold c ∷ s) o.1)
prefix_begins fold user (One ∷ p) t h = (folded fold t, refl)
prefix_begins fold user (Any ∷ p) t h = (folded fold t, refl)
prefix_begins fold user (User ∷ p) t h = (folded fold t, refl)

pub ends_in_slash_push : (p : List Atom) (a : Atom) → ends_in_slash (p ++ a ∷ []) ≡ is_slash a
ends_in_slash_push [] a = refl
ends_in_slash_push (b ∷ []) a = refl
ends_in_slash_push (b ∷ c ∷ p) a = ends_in_slash_push (c ∷ p) a

twin_prefix_begins : (fold : Bool) (user : List ℕ) (p : List Atom) (t : List ℕ) → Stands fold user (twin p) t → (rest : List ℕ) × (folded fold t ≡ literal_prefix fold p ++ rest)
twin_prefix_begins fold user p t h =
    let b = twin_below fold user p t h in
    let o = prefix_begins fold user p b.0 b.2 in
    let added = cond (ends_in_slash p) b.1 (47 ∷ b.1) in (
      o.0 ++ folded fold added,
      ap (folded fold) b.3 ∙ map-append (folded_char fold) b.0 added ∙ ap (λ z. z ++ folded fold added) o.1 ∙ append_assoc (literal_prefix fold p) o.0 (folded fold added),
    )

pub same_for_all : (fold : Bool) (user other : List ℕ) (p : List Atom) (t : List ℕ) → has_user p ≡ false → Stands fold user p t → Stands fold other p t
same_for_all fold user other [] t n h = h
same_for_all fold user other (Character c ∷ p) t n h = (h.0, h.1, h.2, h.3, same_for_all fold user other p h.1 n h.4)
same_for_all fold user other (One ∷ p) t n h = (h.0, h.1, h.2, same_for_all fold user other p h.1 n h.3)
same_for_all fold user other (User ∷ p) t n h = absurd (false≢true (sym n))
same_for_all fold user other (Any ∷ p) t n h = (h.0, h.1, h.2, same_for_all fold user other p h.1 n h.3)

pub some_text : (fold : Bool) (user : List ℕ) (p : List Atom) → has_user p ≡ false → are_scalars p ≡ true → (t : List ℕ) × (all_scalars t ≡ true) × Stands fold user p t
some_text fold user [] n s = ([], refl, refl)
some_text fold user (Character c ∷ p) n s =
    let k = and_parts (scalar c) (are_scalars p) s in
    let o = some_text fold user p n k.1 in
    (c ∷ o.0, and_from _ _ k.0 o.1, (c, o.0, refl, refl, o.2))
some_text fold user (One ∷ p) n s = let o = some_text fold user p n s in (97 ∷ o.0, o.1, (97, o.0, refl, o.2))
some_text fold user (User ∷ p) n s = absurd (false≢true (sym n))
some_text fold user (Any ∷ p) n s = let o = some_text fold user p n s in (o.0, o.1, ([], o.0, refl, o.2))

has_user-append : (p q : List Atom) → has_user q ≡ false → has_user (p ++ q) ≡ has_user p
has_user-append [] q n = n
has_user-append (a ∷ p) q n = ap (λ b. is_user a || b) (has_user-append p q n)

tail_user : (b : Bool) → has_user (tail b) ≡ false
tail_user true = refl
tail_user false = refl

pub has_user-twin : (p : List Atom) → has_user (twin p) ≡ has_user p
has_user-twin p = has_user-append p (tail (ends_in_slash p)) (tail_user (ends_in_slash p))

-- the same, as a walk of a trie asks it
begins : (needle rest : List ℕ) → starts_with nat_eq (needle ++ rest) needle ≡ true
begins [] rest = refl
begins (c ∷ needle) rest = and_from _ _ (eq-eqb c c refl) (begins needle rest)

starts : (prefix text : List ℕ) → (rest : List ℕ) × (text ≡ prefix ++ rest) → starts_with nat_eq text prefix ≡ true
starts prefix text o = ap (λ s. starts_with nat_eq s prefix) o.1 ∙ begins prefix o.0

pub prefix_starts : (fold : Bool) (user : List ℕ) (p : List Atom) (t : List ℕ) → Stands fold user p t → starts_with nat_eq (folded fold t) (literal_prefix fold p) ≡ true
prefix_starts fold user p t h = starts (literal_prefix fold p) (folded fold t) (prefix_begins fold user p t h)

pub twin_prefix_starts : (fold : Bool) (user : List ℕ) (p : List Atom) (t : List ℕ) → Stands fold user (twin p) t → starts_with nat_eq (folded fold t) (literal_prefix fold p) ≡ true
twin_prefix_starts fold user p t h = starts (literal_prefix fold p) (folded fold t) (twin_prefix_begins fold user p t h)
