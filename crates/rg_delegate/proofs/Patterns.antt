-- A pattern that covers one that covers a third covers the third.
use Rattle.std.proofs.Common.{◌≡◌, ◌↔◌, Bool, true, List, [], ◌∷◌, ◌++◌, IsTrue, refl, sym, ap, subst, ◌∙◌, inl, inr, append_assoc}
use Rattle.rg_pattern.specs.declared.atoms.Atom.{Atom}
use Rattle.rg_pattern.specs.declared.atoms.Atom.TheVariants.{Character, One, Any, User}
use Rattle.rg_pattern.specs.Covering.{Covers, IsSingle}
use Rattle.rg_pattern.specs.Tests.{covers}

-- what is covered by two patterns together is cut in two
cut : (fold : Bool) (a b r : List Atom) → Covers fold (a ++ b) r → (front back : List Atom) × (r ≡ front ++ back) × Covers fold b back
cut fold [] b r h = ([], r, refl, h)
cut fold (Any ∷ a) b r h =
    let s = cut fold a b h.1 h.3 in
    (h.0 ++ s.0, s.1, h.2 ∙ ap (λ t. h.0 ++ t) s.2 ∙ sym (append_assoc h.0 s.0 s.1), s.3)
cut fold (One ∷ a) b r h =
    let s = cut fold a b h.1 h.4 in
    (h.0 ∷ s.0, s.1, h.2 ∙ ap (λ t. h.0 ∷ t) s.2, s.3)
cut fold (Character c ∷ a) b r h =
    let s = cut fold a b h.1 h.4 in
    (Character h.0 ∷ s.0, s.1, h.2 ∙ ap (λ t. Character h.0 ∷ t) s.2, s.3)
cut fold (User ∷ a) b r h =
    let s = cut fold a b h.0 h.2 in
    (User ∷ s.0, s.1, h.1 ∙ ap (λ t. User ∷ t) s.2, s.3)

abbrev CoversAll : Bool → List Atom → Type 0
CoversAll fold q = (p r : List Atom) → Covers fold q p → Covers fold p r → Covers fold q r

one_covers : (fold : Bool) (q : List Atom) → CoversAll fold q → (b : Atom) (rest r : List Atom) → IsSingle b → Covers fold q rest → Covers fold (b ∷ rest) r → Covers fold (One ∷ q) r
one_covers fold q on b rest r single h g = elim single [
  | inl one ↦
      let k : Covers fold (One ∷ rest) r = subst (λ (a : Atom). Covers fold (a ∷ rest) r) one g in
      (k.0, k.1, k.2, k.3, on rest k.1 h k.4)
  | inr letter ↦
      let k : Covers fold (Character letter.0 ∷ rest) r = subst (λ (a : Atom). Covers fold (a ∷ rest) r) letter.1 g in
      (Character k.0, k.1, k.2, inr (k.0, refl), on rest k.1 h k.4)
]

covers_on : (fold : Bool) (q : List Atom) → CoversAll fold q
covers_on fold [] p r h g = subst (λ (p : List Atom). Covers fold p r) h g
covers_on fold (Any ∷ q) p r h g =
    let s = cut fold h.0 h.1 r (subst (λ (p : List Atom). Covers fold p r) h.2 g) in
    (s.0, s.1, s.2, covers_on fold q h.1 s.1 h.3 s.3)
covers_on fold (One ∷ q) p r h g = one_covers fold q (covers_on fold q) h.0 h.1 r h.3 h.4 (subst (λ (p : List Atom). Covers fold p r) h.2 g)
covers_on fold (Character c ∷ q) p r h g =
    let k : Covers fold (Character h.0 ∷ h.1) r = subst (λ (p : List Atom). Covers fold p r) h.2 g in
    (k.0, k.1, k.2, h.3 ∙ k.3, covers_on fold q h.1 k.1 h.4 k.4)
covers_on fold (User ∷ q) p r h g =
    let k : Covers fold (User ∷ h.0) r = subst (λ (p : List Atom). Covers fold p r) h.1 g in
    (k.0, k.1, covers_on fold q h.0 k.0 h.2 k.2)

abbrev pub CoversLaw : Type 0
CoversLaw = (fold : Bool) (q p : List Atom) → IsTrue (covers fold q p) ↔ Covers fold q p

pub third_covered : CoversLaw → (fold : Bool) (q p r : List Atom) → covers fold q p ≡ true → covers fold p r ≡ true → covers fold q r ≡ true
third_covered law fold q p r h g = (law fold q r).1 (covers_on fold q p r ((law fold q p).0 h) ((law fold p r).0 g))
