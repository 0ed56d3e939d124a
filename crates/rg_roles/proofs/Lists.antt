-- Counts of what passes.
use Rattle.std.proofs.Common.{◌≡◌, ◌+◌, ◌≤◌, ◌<◌, Bool, true, false, cond, List, [], ◌∷◌, refl, sym, ap, ◌∙◌, ◌⊎◌, inl, inr, arith}
use Rattle.std.specs.List.{All, count_by}
use Rattle.std.proofs.lemmas.Bool.{false≢true}
use Rattle.std.proofs.lemmas.List.Elements.{All-nil, All-cons}
use Rattle.std.proofs.lemmas.List.Sums.{sum_by-cons}

-- of two tests, the second of which passes where the first does: they agree, or more passes the second
abbrev Agree : {X : Type 0} (p q : X → Bool) → List X → Type 0
Agree p q xs = All (λ x. q x ≡ true → p x ≡ true) xs

pub count_cases : {X : Type 0} (p q : X → Bool) → ((x : X) → p x ≡ true → q x ≡ true) → (xs : List X)
    → (Agree p q xs × (count_by p xs ≤ count_by q xs)) ⊎ (count_by p xs < count_by q xs)
count_cases p q up [] = inl (All-nil (λ x. q x ≡ true → p x ≡ true), omega arith)
count_cases p q up (x ∷ xs) = by_head (p x) (q x) refl refl (count_cases p q up xs) where
  by_head : (a b : Bool) → p x ≡ a → q x ≡ b → (Agree p q xs × (count_by p xs ≤ count_by q xs)) ⊎ (count_by p xs < count_by q xs)
      → (Agree p q (x ∷ xs) × (count_by p (x ∷ xs) ≤ count_by q (x ∷ xs))) ⊎ (count_by p (x ∷ xs) < count_by q (x ∷ xs))
  by_head a b ea eb r = by_cases a b ea eb r
      (sum_by-cons (λ y. cond (p y) 1 0) x xs ∙ ap (λ c. cond c 1 0 + count_by p xs) ea)
      (sum_by-cons (λ y. cond (q y) 1 0) x xs ∙ ap (λ c. cond c 1 0 + count_by q xs) eb) where
        by_cases : (a b : Bool) → p x ≡ a → q x ≡ b → (Agree p q xs × (count_by p xs ≤ count_by q xs)) ⊎ (count_by p xs < count_by q xs)
            → count_by p (x ∷ xs) ≡ cond a 1 0 + count_by p xs → count_by q (x ∷ xs) ≡ cond b 1 0 + count_by q xs
            → (Agree p q (x ∷ xs) × (count_by p (x ∷ xs) ≤ count_by q (x ∷ xs))) ⊎ (count_by p (x ∷ xs) < count_by q (x ∷ xs))
        by_cases true true ea eb (inl r) cp cq = inl (All-cons (λ y. q y ≡ true → p y ≡ true) x xs (λ e. ea) r.0, let h : count_by p xs ≤ count_by q xs = r.1 in omega arith)
        by_cases true true ea eb (inr l) cp cq = inr (omega arith)
        by_cases true false ea eb r cp cq = absurd (false≢true (sym eb ∙ up x ea))
        by_cases false true ea eb (inl r) cp cq = inr (let h : count_by p xs ≤ count_by q xs = r.1 in omega arith)
        by_cases false true ea eb (inr l) cp cq = inr (omega arith)
        by_cases false false ea eb (inl r) cp cq = inl (All-cons (λ y. q y ≡ true → p y ≡ true) x xs (λ e. absurd (false≢true (sym eb ∙ e))) r.0, let h : count_by p xs ≤ count_by q xs = r.1 in omega arith)
        by_cases false false ea eb (inr l) cp cq = inr (omega arith)
