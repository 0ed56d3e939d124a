-- Which pairs a list holds after an edit.
use Rattle.std.proofs.Common.{◌≡◌, ℕ, ◌<◌, zero, suc, Bool, true, false, List, [], ◌∷◌, filter, cond, not, length, get_or, refl, sym, ap, ◌∙◌, subst, arith, ◌⊎◌, inl, inr}
use Rattle.std.proofs.lemmas.Cmp.{tied_itself}
use Rattle.std.proofs.lemmas.List.Elements.{All-contains, All-contains_itself, All-filter, Contains-append_cases, Contains-append_left, Contains-append_right, filter_passes}
use Rattle.std.specs.List.{Contains}
use Rattle.std.specs.Ordering.{is_lt, is_eq, is_gt}
use Rattle.std.specs.declared.cmp.Ordering.{Ordering}
use Rattle.std.specs.declared.cmp.Ordering.TheVariants.{Less, Equal, Greater}
use Rattle.rg_trie.specs.declared.pair.Pair.{Pair}
use Rattle.rg_trie.specs.Edited.{Adds, Takes, with_pair, without_pair}
use Rattle.rg_trie.specs.Pairs.{pair_order}
use Rattle.rg_trie.proofs.Orders.{pair_total, same_pair}

module _ {X : Type 0} (test : X → Bool) where
  longer : (y : X) (ys : List X) (x : X) → Contains ys x → Contains (y ∷ ys) x
  longer y ys x h = (suc h.0, omega arith, h.2)

  into_filter : (xs : List X) (x : X) (k : ℕ) → k < length xs → get_or xs k x ≡ x → test x ≡ true → Contains (filter test xs) x
  into_filter [] x k l e t = absurd (omega arith)
  into_filter (y ∷ ys) x zero l e t = subst (λ b. Contains (cond b (y ∷ filter test ys) (filter test ys)) x) (sym (ap test e ∙ t)) (0, omega arith, e)
  into_filter (y ∷ ys) x (suc k) l e t =
      let rest = into_filter ys x k (omega arith) e t in
      elim (test y) as (λ b. Contains (cond b (y ∷ filter test ys) (filter test ys)) x) [
        | true ↦ longer y (filter test ys) x rest
        | false ↦ rest
      ]

  kept : (xs : List X) (x : X) → Contains xs x → test x ≡ true → Contains (filter test xs) x
  kept xs x h t = into_filter xs x h.0 h.1 h.2 t

  held : (xs : List X) (x : X) → Contains (filter test xs) x → Contains xs x
  held xs x h = All-contains (Contains xs) (filter test xs) x (All-filter test (Contains xs) xs (All-contains_itself xs)) h

  passes : (xs : List X) (x : X) → Contains (filter test xs) x → test x ≡ true
  passes xs x h = All-contains (λ y. test y ≡ true) (filter test xs) x (filter_passes test xs) h

head : {X : Type 0} (y : X) (ys : List X) → Contains (y ∷ ys) y
head y ys = (0, omega arith, refl)

first_or_later : {X : Type 0} (y : X) (ys : List X) (x : X) (k : ℕ) → k < length (y ∷ ys) → get_or (y ∷ ys) k x ≡ x → (x ≡ y) ⊎ Contains ys x
first_or_later y ys x zero l e = inl (sym e)
first_or_later y ys x (suc k) l e = inr (k, omega arith, e)

module _ (p : Pair) (pairs : List Pair) where
  abbrev lower : List Pair
  lower = filter (λ q. is_lt (pair_order q p)) pairs

  abbrev higher : List Pair
  higher = filter (λ q. is_gt (pair_order q p)) pairs

  added_from : (q : Pair) → Contains (with_pair p pairs) q → (q ≡ p) ⊎ Contains pairs q
  added_from q h = elim (Contains-append_cases lower (p ∷ higher) q h) [
    | inl a ↦ inr (held (λ q. is_lt (pair_order q p)) pairs q a)
    | inr b ↦ elim (first_or_later p higher q b.0 b.1 b.2) [
      | inl e ↦ inl e
      | inr later ↦ inr (held (λ q. is_gt (pair_order q p)) pairs q later)
    ]
  ]

  there : (q : Pair) → q ≡ p → Contains (with_pair p pairs) q
  there q e = subst (Contains (with_pair p pairs)) (sym e) (Contains-append_right lower (p ∷ higher) p (head p higher))

  old_stays : (q : Pair) → Contains pairs q → Contains (with_pair p pairs) q
  old_stays q h = by_case (pair_order q p) refl where
    by_case : (o : Ordering) → pair_order q p ≡ o → Contains (with_pair p pairs) q
    by_case Less e = Contains-append_left lower (p ∷ higher) q (kept (λ q. is_lt (pair_order q p)) pairs q h (ap is_lt e))
    by_case Equal e = there q (same_pair q p e)
    by_case Greater e = Contains-append_right lower (p ∷ higher) q (longer (λ q. true) p higher q (kept (λ q. is_gt (pair_order q p)) pairs q h (ap is_gt e)))

  pub adds : Adds p pairs (with_pair p pairs)
  adds q = (added_from q, λ h. elim h [ inl e ↦ there q e | inr old ↦ old_stays q old ])

  abbrev other : Pair → Bool
  other q = not (is_eq (pair_order q p))

  differs : (q : Pair) → other q ≡ true → q ≡ p → ⊥
  differs q t e = let bad : false ≡ true = sym (ap (λ o. not (is_eq o)) (ap (λ r. pair_order r p) e ∙ tied_itself pair_total p)) ∙ t in cc

  unequal : (q : Pair) → (q ≡ p → ⊥) → other q ≡ true
  unequal q n = by_case (pair_order q p) refl where
    by_case : (o : Ordering) → pair_order q p ≡ o → not (is_eq (pair_order q p)) ≡ true
    by_case Less e = ap (λ o. not (is_eq o)) e
    by_case Equal e = absurd (n (same_pair q p e))
    by_case Greater e = ap (λ o. not (is_eq o)) e

  pub takes : Takes p pairs (without_pair p pairs)
  takes q = (λ h. (λ e. differs q (passes other pairs q h) e, held other pairs q h), λ h. kept other pairs q h.1 (unequal q h.0))
