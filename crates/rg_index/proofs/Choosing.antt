-- The first element with the least number, found in one go.
use Rattle.std.proofs.Common.{◌≡◌, ◌<◌, ◌≤◌, ℕ, Bool, true, false, cond, if◌then◌else◌, List, [], ◌∷◌, Option, Some, None, map, min, nat_eq, nat_lt, option_map, refl, sym, ap, ◌∙◌, arith}
use Rattle.std.proofs.lemmas.Option.{none-some}
use Rattle.std.specs.List.{find, fold}
use Rattle.rg_index.specs.Candidates.{least}
use Rattle.rg_index.specs.Kept.{lesser}

at_most_first : (n : ℕ) (ns : List ℕ) → fold min n ns ≤ n
at_most_first n [] = omega arith
at_most_first n (m ∷ ns) = let h = at_most_first (min n m) ns in omega (arith, h)

module _ {X : Type 0} (f : X → ℕ) where
  abbrev pub step : Option (X × ℕ) → X → Option (X × ℕ)
  step best x = lesser best x (f x)

  abbrev pub first_least : List X → Option X
  first_least xs = find (λ x. nat_eq (f x) (least (map f xs))) xs

  less : (a b : ℕ) → nat_lt a b ≡ true → a < b
  less a b e = grind arith

  not_less : (a b : ℕ) → nat_lt a b ≡ false → b ≤ a
  not_less a b e = grind arith

  differs : (a b : ℕ) → b < a → nat_eq a b ≡ false
  differs a b l = grind arith

  is_same : (a b : ℕ) → nat_eq a b ≡ true → a ≡ b
  is_same a b e = grind arith

  -- the first is passed over where the second has less
  passed : (b x : X) (xs : List X) → f x < f b → first_least (b ∷ x ∷ xs) ≡ first_least (x ∷ xs)
  passed b x xs l =
      let lesser_two : min (f b) (f x) ≡ f x = omega arith in
      let same : least (map f (b ∷ x ∷ xs)) ≡ least (map f (x ∷ xs)) = ap (λ n. fold min n (map f xs)) lesser_two in
      let low = at_most_first (f x) (map f xs) in
      let off : nat_eq (f b) (least (map f (x ∷ xs))) ≡ false = differs (f b) (least (map f (x ∷ xs))) (omega (arith, low)) in
      ap (λ n. find (λ y. nat_eq (f y) n) (b ∷ x ∷ xs)) same ∙ ap (λ c. cond c (Some b) (find (λ y. nat_eq (f y) (least (map f (x ∷ xs)))) (x ∷ xs))) off

  -- the second is passed over where it hasn't less
  skipped : (b x : X) (xs : List X) → f b ≤ f x → first_least (b ∷ x ∷ xs) ≡ first_least (b ∷ xs)
  skipped b x xs l =
      let lesser_two : min (f b) (f x) ≡ f b = omega arith in
      let n : ℕ = least (map f (b ∷ xs)) in
      let same : least (map f (b ∷ x ∷ xs)) ≡ n = ap (λ n. fold min n (map f xs)) lesser_two in
      let low = at_most_first (f b) (map f xs) in
      ap (λ n. find (λ y. nat_eq (f y) n) (b ∷ x ∷ xs)) same ∙ at n low (nat_eq (f b) n) refl where
        at : (n : ℕ) → n ≤ f b → (c : Bool) → nat_eq (f b) n ≡ c
            → cond (nat_eq (f b) n) (Some b) (cond (nat_eq (f x) n) (Some x) (find (λ y. nat_eq (f y) n) xs)) ≡ cond (nat_eq (f b) n) (Some b) (find (λ y. nat_eq (f y) n) xs)
        at n low true e = ap (λ c. cond c (Some b) (cond (nat_eq (f x) n) (Some x) (find (λ y. nat_eq (f y) n) xs))) e ∙ sym (ap (λ c. cond c (Some b) (find (λ y. nat_eq (f y) n) xs)) e)
        at n low false e =
            let off : nat_eq (f x) n ≡ false = differs (f x) n (above n low (nat_eq (f b) n) refl e) in
            ap (λ c. cond (nat_eq (f b) n) (Some b) (cond c (Some x) (find (λ y. nat_eq (f y) n) xs))) off where
              above : (n : ℕ) → n ≤ f b → (c : Bool) → nat_eq (f b) n ≡ c → nat_eq (f b) n ≡ false → n < f x
              above n low c e k = grind (arith, l)

  run : (xs : List X) (b : X) → option_map (λ (p : X × ℕ). p.0) (fold step (Some (b, f b)) xs) ≡ first_least (b ∷ xs)
  run [] b = sym (ap (λ c. cond c (Some b) None) (itself (f b))) where
    itself : (n : ℕ) → nat_eq n n ≡ true
    itself n = grind arith
  run (x ∷ xs) b = at (nat_lt (f x) (f b)) refl (run xs x) (run xs b) where
    at : (c : Bool) → nat_lt (f x) (f b) ≡ c
        → option_map (λ (p : X × ℕ). p.0) (fold step (Some (x, f x)) xs) ≡ first_least (x ∷ xs)
        → option_map (λ (p : X × ℕ). p.0) (fold step (Some (b, f b)) xs) ≡ first_least (b ∷ xs)
        → option_map (λ (p : X × ℕ). p.0) (fold step (if nat_lt (f x) (f b) then Some (x, f x) else Some (b, f b)) xs) ≡ first_least (b ∷ x ∷ xs)
    at true e taken kept = ap (λ (c : Bool). option_map (λ (p : X × ℕ). p.0) (fold step (if c then Some (x, f x) else Some (b, f b)) xs)) e ∙ taken ∙ sym (passed b x xs (less (f x) (f b) e))
    at false e taken kept = ap (λ (c : Bool). option_map (λ (p : X × ℕ). p.0) (fold step (if c then Some (x, f x) else Some (b, f b)) xs)) e ∙ kept ∙ sym (skipped b x xs (not_less (f x) (f b) e))

  -- what the steps come to
  pub chosen : (xs : List X) → option_map (λ (p : X × ℕ). p.0) (fold step None xs) ≡ first_least xs
  chosen [] = refl
  chosen (x ∷ xs) = run xs x

  some_stays : (xs : List X) (p : X × ℕ) → fold step (Some p) xs ≡ None → ⊥
  some_stays [] p e = none-some p (sym e)
  some_stays (x ∷ xs) p e = at (nat_lt (f x) p.1) e (some_stays xs (x, f x)) (some_stays xs p) where
    at : (c : Bool) → fold step (if c then Some (x, f x) else Some p) xs ≡ None → (fold step (Some (x, f x)) xs ≡ None → ⊥) → (fold step (Some p) xs ≡ None → ⊥) → ⊥
    at true g taken kept = taken g
    at false g taken kept = kept g

  -- some element has the least number
  pub attained : (x : X) (xs : List X) → first_least (x ∷ xs) ≡ None → ⊥
  attained x xs e = at (fold step (Some (x, f x)) xs) refl (run xs x ∙ e) where
    at : (o : Option (X × ℕ)) → fold step (Some (x, f x)) xs ≡ o → option_map (λ (p : X × ℕ). p.0) (fold step (Some (x, f x)) xs) ≡ None → ⊥
    at None k g = some_stays xs (x, f x) k
    at (Some p) k g = none-some p.0 (sym (ap (option_map (λ (p : X × ℕ). p.0)) (sym k) ∙ g))
