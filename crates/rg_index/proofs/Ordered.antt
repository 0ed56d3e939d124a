-- Lists of pairs in order: which pairs they hold, that these fix the list, and how many there are.
use Rattle.std.proofs.Common.{◌≡◌, ◌⊎◌, ◌+◌, ◌++◌, Bool, true, false, cond, List, [], ◌∷◌, Contains, length, filter, refl, sym, ap, subst, ◌∙◌, inl, inr, arith, length-append}
use Rattle.std.proofs.lemmas.Cmp.{tied_itself}
use Rattle.std.proofs.lemmas.List.Elements.{All-cons, All-contains, All-filter, All-weaker, Contains-append_cases, filter_passes}
use Rattle.std.specs.List.{All}
use Rattle.std.specs.Ordering.{is_gt, is_lt, ordering_reverse}
use Rattle.std.specs.declared.cmp.Ordering.{Ordering}
use Rattle.std.specs.declared.cmp.Ordering.TheVariants.{Less, Equal, Greater}
use Rattle.rg_base.proofs.Lists.{Contains-cases, Contains-filter, Contains-filtered, Contains-first, Contains-later, Contains-none, Contains-same}
use Rattle.rg_trie.specs.declared.pair.Pair.{Pair}
use Rattle.rg_trie.specs.Blocks.{IsRising}
use Rattle.rg_trie.specs.Edited.{with_pair, without_pair}
use Rattle.rg_trie.specs.Pairs.{Below, pair_order}
use Rattle.rg_trie.proofs.Holding.{rising_with}
use Rattle.rg_trie.proofs.Orders.{pair_total, same_pair}
use Rattle.rg_trie.proofs.Prefixes.{rising_filter}
use Rattle.rg_trie.proofs.Sets.{adds, takes}
use Rattle.rg_index.specs.Candidates.{in_order}
use Rattle.rg_index.specs.Kept.{with_all, without_all}

-- ---- the order stays

pub rising_all : (ps t : List Pair) → IsRising Below t → IsRising Below (with_all t ps)
rising_all [] t h = h
rising_all (p ∷ ps) t h = rising_all ps (with_pair p t) (rising_with p t h)

pub rising_left : (ps t : List Pair) → IsRising Below t → IsRising Below (without_all t ps)
rising_left [] t h = h
rising_left (p ∷ ps) t h = rising_left ps (without_pair p t) (rising_filter Below _ t h)

-- ---- which pairs there are

pub added : (ps t : List Pair) (q : Pair) → Contains (with_all t ps) q → Contains ps q ⊎ Contains t q
added [] t q h = inr h
added (p ∷ ps) t q h = elim (added ps (with_pair p t) q h) [
  | inl new ↦ inl (Contains-later p ps q new)
  | inr old ↦ elim ((adds p t q).0 old) [
    | inl e ↦ inl (Contains-same (p ∷ ps) p q (sym e) (Contains-first p ps))
    | inr held ↦ inr held
  ]
]

pub into_old : (ps t : List Pair) (q : Pair) → Contains t q → Contains (with_all t ps) q
into_old [] t q h = h
into_old (p ∷ ps) t q h = into_old ps (with_pair p t) q ((adds p t q).1 (inr h))

pub into_new : (ps t : List Pair) (q : Pair) → Contains ps q → Contains (with_all t ps) q
into_new [] t q h = absurd (Contains-none q h)
into_new (p ∷ ps) t q h = elim (Contains-cases p ps q h) [
  | inl e ↦ into_old ps (with_pair p t) q ((adds p t q).1 (inl (sym e)))
  | inr on ↦ into_new ps (with_pair p t) q on
]

pub left : (ps t : List Pair) (q : Pair) → Contains (without_all t ps) q → Contains t q × (Contains ps q → ⊥)
left [] t q h = (h, λ none. Contains-none q none)
left (p ∷ ps) t q h =
    let r = left ps (without_pair p t) q h in
    let k = (takes p t q).0 r.0 in
    (k.1, λ w. elim (Contains-cases p ps q w) [ inl e ↦ k.0 (sym e) | inr on ↦ r.1 on ])

pub stays : (ps t : List Pair) (q : Pair) → Contains t q → (Contains ps q → ⊥) → Contains (without_all t ps) q
stays [] t q h n = h
stays (p ∷ ps) t q h n =
    stays ps (without_pair p t) q ((takes p t q).1 ((λ e. n (Contains-same (p ∷ ps) p q (sym e) (Contains-first p ps))), h)) (λ on. n (Contains-later p ps q on))

pub ordered_from : (ps : List Pair) (q : Pair) → Contains (in_order ps) q → Contains ps q
ordered_from ps q h = elim (added ps [] q h) [ inl new ↦ new | inr none ↦ absurd (Contains-none q none) ]

-- ---- the pairs fix the list

not_itself : (p : Pair) → Below p p → ⊥
not_itself p b = let bad : Less ≡ Equal = sym b ∙ tied_itself pair_total p in cc

not_both : (p q : Pair) → Below p q → Below q p → ⊥
not_both p q b a = let bad : Less ≡ Greater = sym a ∙ pair_total.antisymm q p ∙ ap ordering_reverse b in cc

abbrev Within : List Pair → List Pair → Type 0
Within xs ys = (q : Pair) → Contains xs q → Contains ys q

first_same : (x y : Pair) (xs ys : List Pair) → IsRising Below (x ∷ xs) → IsRising Below (y ∷ ys) → Within (x ∷ xs) (y ∷ ys) → Within (y ∷ ys) (x ∷ xs) → x ≡ y
first_same x y xs ys h g to back = elim (Contains-cases y ys x (to x (Contains-first x xs))) [
  | inl e ↦ sym e
  | inr on ↦ elim (Contains-cases x xs y (back y (Contains-first y ys))) [
    | inl e ↦ e
    | inr other ↦ absurd (not_both x y (All-contains (Below x) xs y h.0 other) (All-contains (Below y) ys x g.0 on))
  ]
]

rest_within : (x y : Pair) (xs ys : List Pair) → IsRising Below (x ∷ xs) → x ≡ y → Within (x ∷ xs) (y ∷ ys) → Within xs ys
rest_within x y xs ys h e to q w = elim (Contains-cases y ys q (to q (Contains-later x xs q w))) [
  | inl same ↦ absurd (not_itself x (subst (Below x) (sym (e ∙ same)) (All-contains (Below x) xs q h.0 w)))
  | inr on ↦ on
]

pub same_list : (xs ys : List Pair) → IsRising Below xs → IsRising Below ys → Within xs ys → Within ys xs → xs ≡ ys
same_list [] [] h g to back = refl
same_list [] (y ∷ ys) h g to back = absurd (Contains-none y (back y (Contains-first y ys)))
same_list (x ∷ xs) [] h g to back = absurd (Contains-none x (to x (Contains-first x xs)))
same_list (x ∷ xs) (y ∷ ys) h g to back =
    let e = first_same x y xs ys h g to back in
    let rest = same_list xs ys h.1 g.1 (rest_within x y xs ys h e to) (rest_within y x ys xs g (sym e) back) in
    λ i. e i ∷ rest i

-- those of a list in order that pass are the passing ones in order
pub filter_in_order : (test : Pair → Bool) (ps : List Pair) → filter test (in_order ps) ≡ in_order (filter test ps)
filter_in_order test ps = same_list (filter test (in_order ps)) (in_order (filter test ps)) (rising_filter Below test (in_order ps) (rising_all ps [] tt)) (rising_all (filter test ps) [] tt)
    (λ q h. let k = Contains-filtered test (in_order ps) q h in into_new (filter test ps) [] q (Contains-filter test ps q (ordered_from ps q k.0) k.1))
    (λ q h. let k = Contains-filtered test ps q (ordered_from (filter test ps) q h) in Contains-filter test (in_order ps) q (into_new ps [] q k.0) k.1)

-- ---- how many there are

-- no pair stands twice
abbrev pub Apart : List Pair → Type 0
Apart [] = Unit {0}
Apart (p ∷ ps) = (Contains ps p → ⊥) × Apart ps

pub apart_filter : (test : Pair → Bool) (ps : List Pair) → Apart ps → Apart (filter test ps)
apart_filter test [] h = tt
apart_filter test (p ∷ ps) h = elim (test p) as (λ b. Apart (cond b (p ∷ filter test ps) (filter test ps))) [
  | true ↦ ((λ w. h.0 (Contains-filtered test ps p w).0), apart_filter test ps h.1)
  | false ↦ apart_filter test ps h.1
]

pub apart_append : (ps qs : List Pair) → Apart ps → Apart qs → ((p : Pair) → Contains ps p → Contains qs p → ⊥) → Apart (ps ++ qs)
apart_append [] qs h g n = g
apart_append (p ∷ ps) qs h g n = (
  λ w. elim (Contains-append_cases ps qs p w) [ inl now ↦ h.0 now | inr later ↦ n p (Contains-first p ps) later ],
  apart_append ps qs h.1 g (λ q w v. n q (Contains-later p ps q w) v),
)

around : (p : Pair) (ps : List Pair) → (Contains ps p → ⊥)
    → length (filter (λ q. is_lt (pair_order q p)) ps) + length (filter (λ q. is_gt (pair_order q p)) ps) ≡ length ps
around p [] n = refl
around p (q ∷ ps) n = at (pair_order q p) refl (around p ps (λ w. n (Contains-later q ps p w))) where
  low : List Pair
  low = filter (λ q. is_lt (pair_order q p)) ps

  high : List Pair
  high = filter (λ q. is_gt (pair_order q p)) ps

  at : (o : Ordering) → pair_order q p ≡ o → length low + length high ≡ length ps
      → length (cond (is_lt (pair_order q p)) (q ∷ low) low) + length (cond (is_gt (pair_order q p)) (q ∷ high) high) ≡ length (q ∷ ps)
  at Less e h = ap (λ o. length (cond (is_lt o) (q ∷ low) low) + length (cond (is_gt o) (q ∷ high) high)) e ∙ let less : length (q ∷ low) + length high ≡ length (q ∷ ps) = omega (arith, h) in less
  at Equal e h = absurd (n (Contains-same (q ∷ ps) q p (same_pair q p e) (Contains-first q ps)))
  at Greater e h = ap (λ o. length (cond (is_lt o) (q ∷ low) low) + length (cond (is_gt o) (q ∷ high) high)) e ∙ let more : length low + length (q ∷ high) ≡ length (q ∷ ps) = omega (arith, h) in more

one_longer : (p : Pair) (t : List Pair) → (Contains t p → ⊥) → length (with_pair p t) ≡ length t + 1
one_longer p t n =
    let low : List Pair = filter (λ q. is_lt (pair_order q p)) t in
    let high : List Pair = filter (λ q. is_gt (pair_order q p)) t in
    let both = around p t n in
    length-append low (p ∷ high) ∙ let sum : length low + length (p ∷ high) ≡ length t + 1 = omega (arith, both) in sum

longer : (ps t : List Pair) → Apart ps → ((p : Pair) → Contains ps p → Contains t p → ⊥) → length (with_all t ps) ≡ length t + length ps
longer [] t h n = let e : length t ≡ length t + 0 = omega arith in e
longer (p ∷ ps) t h n =
    let one = one_longer p t (n p (Contains-first p ps)) in
    let rest = longer ps (with_pair p t) h.1 (λ q w v. elim ((adds p t q).0 v) [
      | inl e ↦ h.0 (Contains-same ps q p e w)
      | inr old ↦ n q (Contains-later p ps q w) old
    ]) in
    rest ∙ let e : length (with_pair p t) + length ps ≡ length t + length (p ∷ ps) = omega (arith, one) in e

pub length_in_order : (ps : List Pair) → Apart ps → length (in_order ps) ≡ length ps
length_in_order ps h = longer ps [] h (λ p w none. Contains-none p none) ∙ let none : List Pair = [] in let e : length none + length ps ≡ length ps = omega arith in e
