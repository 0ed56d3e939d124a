-- The stranger is the least number of `#` that begins none of the texts, and so isn't named.
use Rattle.std.proofs.Common.{◌≡◌, ◌⊎◌, ◌<◌, ◌≤◌, ◌&&◌, ◌==◌, ◌++◌, ℕ, zero, suc, Bool, true, false, not, cond, fold, max, List, [], ◌∷◌, length, replicate, Contains, refl, sym, ap, subst, ◌∙◌, inl, inr, arith}
use Rattle.std.specs.Str.{bytes_eq}
use Rattle.std.proofs.Math.Nat.{le-max_left, le-max_right, max-eq_left, max-eq_right}
use Rattle.std.proofs.lemmas.Bool.{cases_lt, eqb-true, false_from_ne_true}
use Rattle.std.proofs.lemmas.List.{length-replicate}
use Rattle.std.proofs.lemmas.Slice.Eq.{bytes_eq-Decides}
use Rattle.rg_base.specs.Texts.{is_among, is_empty}
use Rattle.rg_base.proofs.Lists.{Contains-cases, Contains-first, Contains-later, Contains-none, among_holds}
use Rattle.rg_items.specs.Subjects.{owner_word, user_word}
use Rattle.rg_facts.specs.declared.facts.Facts.{Facts}
use Rattle.rg_acl.specs.Laws.{Begins, is_unnamed, owns}
use Rattle.rg_acl.specs.Named.{is_word, named}
use Rattle.rg_acl.specs.Strangers.{marks, most_marks, stranger, stranger_to}
use Rattle.rg_acl.specs.declared.named.Listing.TheVariants.{Users}

-- ---- marks

begun_marks : (n : ℕ) (rest : List ℕ) → n ≤ marks (replicate n 35 ++ rest)
begun_marks zero rest = omega arith
begun_marks (suc n) rest = let less = begun_marks n rest in omega (arith, less)

marks_begin : (n : ℕ) (t : List ℕ) → n ≤ marks t → Begins (replicate n 35) t
marks_begin zero t h = (t, refl)
marks_begin (suc n) [] h = absurd (omega (arith, h))
marks_begin (suc n) (c ∷ t) h = at (c == 35) refl h (marks_begin n t) where
  at : (b : Bool) → (c == 35) ≡ b → suc n ≤ cond b (suc (marks t)) 0 → (n ≤ marks t → Begins (replicate n 35) t) → Begins (replicate (suc n) 35) (c ∷ t)
  at true e k later = let rest = later (omega (arith, k)) in (rest.0, λ i. eqb-true c 35 e i ∷ rest.1 i)
  at false e k later = absurd (omega (arith, k))

-- ---- the most marks

abbrev more : ℕ → List ℕ → ℕ
more most t = max most (marks t)

most_le : (n : ℕ) (texts : List (List ℕ)) → n ≤ fold more n texts
most_le n [] = omega arith
most_le n (t ∷ texts) = let first = le-max_left n (marks t) in let later = most_le (more n t) texts in omega (arith, first, later)

marks_le : (n : ℕ) (texts : List (List ℕ)) (t : List ℕ) → Contains texts t → marks t ≤ fold more n texts
marks_le n [] t there = absurd (Contains-none t there)
marks_le n (s ∷ texts) t there = elim (Contains-cases s texts t there) [
  | inl same ↦
      let first = le-max_right n (marks s) in
      let later = most_le (more n s) texts in
      subst (λ x. marks x ≤ fold more (more n s) texts) same (omega (arith, first, later))
  | inr on ↦ marks_le (more n s) texts t on
]

either : (a b : ℕ) → (max a b ≡ a) ⊎ (max a b ≡ b)
either a b = elim (cases_lt a b) [ inl less ↦ inr (max-eq_right (omega (arith, less))) | inr le ↦ inl (max-eq_left le) ]

most_found : (n : ℕ) (texts : List (List ℕ)) → (fold more n texts ≡ n) ⊎ ((t : List ℕ) × Contains texts t × (marks t ≡ fold more n texts))
most_found n [] = inl refl
most_found n (t ∷ texts) = elim (most_found (more n t) texts) [
  | inl same ↦ elim (either n (marks t)) [
    | inl e ↦ inl (same ∙ e)
    | inr e ↦ inr (t, Contains-first t texts, sym (same ∙ e))
  ]
  | inr found ↦ inr (found.0, Contains-later t texts found.0 found.1, found.2)
]

-- ---- the stranger

pub begins_none : (texts : List (List ℕ)) (t : List ℕ) → Contains texts t → Begins (stranger_to texts) t → ⊥
begins_none texts t there begun =
    let most = marks_le 0 texts t there in
    let many : suc (most_marks texts) ≤ marks t = subst (λ x. suc (most_marks texts) ≤ marks x) (sym begun.1) (begun_marks (suc (most_marks texts)) begun.0) in
    omega (arith, most, many)

pub fewer_begin : (texts : List (List ℕ)) (n : ℕ) → 0 < n → n < length (stranger_to texts) → (t : List ℕ) × Contains texts t × Begins (replicate n 35) t
fewer_begin texts n some short =
    let few : n < suc (most_marks texts) = subst (λ m. n < m) (length-replicate (suc (most_marks texts)) 35) short in elim (most_found 0 texts) [
      | inl none ↦ absurd (omega (arith, none, some, few))
      | inr found ↦ (found.0, found.1, marks_begin n found.0 (omega (arith, found.2, few)))
    ]

stranger_begins : (texts : List (List ℕ)) (t : List ℕ) → t ≡ stranger_to texts → Begins (stranger_to texts) t
stranger_begins texts t e = ([], e ∙ sym (append_none (stranger_to texts))) where
  append_none : (xs : List ℕ) → xs ++ [] ≡ xs
  append_none [] = refl
  append_none (x ∷ xs) = ap (λ ys. x ∷ ys) (append_none xs)

-- the first character of the words is no `#`
no_word : (n : ℕ) → is_word (replicate (suc n) 35) ≡ false
unfolding user_word owner_word
no_word n = refl

and_none : (a b : Bool) → b ≡ false → (a && b) ≡ false
and_none true b e = e
and_none false b e = refl

module _ (facts : Facts) (owner : List ℕ) where
  abbrev who : List ℕ
  who = stranger facts owner

  abbrev texts : List (List ℕ)
  texts = owner ∷ named Users facts

  no_owner : owns owner who ≡ false
  no_owner = and_none (not (is_empty owner)) (bytes_eq owner who) (false_from_ne_true (bytes_eq owner who)
      (λ same. begins_none texts owner (Contains-first owner (named Users facts)) (stranger_begins texts owner ((bytes_eq-Decides owner who).0 same))))

  not_among : is_among who (named Users facts) ≡ false
  not_among = false_from_ne_true (is_among who (named Users facts))
      (λ there. begins_none texts who (Contains-later owner (named Users facts) who (among_holds who (named Users facts) there)) (stranger_begins texts who refl))

  pub is_stranger : is_unnamed facts owner who ≡ true
  is_stranger = λ i. not (no_word (most_marks texts) i) && (not (no_owner i) && not (not_among i))
