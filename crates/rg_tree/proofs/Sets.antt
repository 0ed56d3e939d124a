-- What stands in lists and trees after an edit.
use Rattle.std.proofs.Common.{◌≡◌, ℕ, ◌==◌, ◌/◌, ◌%◌, ◌<◌, zero, suc, Bool, true, false, List, [], ◌∷◌, ◌++◌, filter, cond, not, Option, Some, None, refl, sym, ap, ◌∙◌, subst, arith}
use Rattle.rg_tree.specs.declared.tree.Placed.{Placed}
use Rattle.rg_tree.specs.Trees.{going, left_at, others, set_in, value_of, way}

module _ {V : Type 0} where
  -- those that go another way have other keys
  pub value_of_going : (depth number key : ℕ) → left_at depth key % 4 ≡ number → (ps : List (Placed V)) → value_of key (going depth number ps) ≡ value_of key ps
  value_of_going depth number key e [] = refl
  value_of_going depth number key e (p ∷ ps) = grind (arith, value_of_going depth number key e ps, ap (λ n. left_at depth n % 4))

  pub value_of_others_same : (key : ℕ) → (ps : List (Placed V)) → value_of key (others key ps) ≡ None
  value_of_others_same key [] = refl
  value_of_others_same key (p ∷ ps) = grind (arith, value_of_others_same key ps)

  pub value_of_others : (key k : ℕ) → (k == key) ≡ false → (ps : List (Placed V)) → value_of k (others key ps) ≡ value_of k ps
  value_of_others key k e [] = refl
  value_of_others key k e (p ∷ ps) = grind (arith, value_of_others key k e ps)

  pub value_of_append : (k : ℕ) → (ps qs : List (Placed V)) → value_of k ps ≡ None → value_of k (ps ++ qs) ≡ value_of k qs
  value_of_append k [] qs e = refl
  value_of_append k (p ∷ ps) qs e = grind (arith, value_of_append k ps qs)

  pub value_of_before : (k : ℕ) → (ps : List (Placed V)) (q : Placed V) → (q.key == k) ≡ false → value_of k (ps ++ q ∷ []) ≡ value_of k ps
  value_of_before k [] q e = grind arith
  value_of_before k (p ∷ ps) q e = grind (arith, value_of_before k ps q e)

  pub value_of_set : (key : ℕ) (value : Option V) (k : ℕ) → (ps : List (Placed V)) → value_of k (set_in key value ps) ≡ cond (k == key) value (value_of k ps)
  value_of_set key None k ps = by_case (k == key) refl where
    by_case : (b : Bool) → (k == key) ≡ b → value_of k (others key ps) ≡ cond (k == key) None (value_of k ps)
    by_case true e = grind (arith, value_of_others_same key ps)
    by_case false e = grind (arith, value_of_others key k e ps)
  value_of_set key (Some value) k ps = by_case (k == key) refl where
    by_case : (b : Bool) → (k == key) ≡ b → value_of k (others key ps ++ (record { key = key; value = value }) ∷ []) ≡ cond (k == key) (Some value) (value_of k ps)
    by_case true e = grind (arith, value_of_others_same key ps, value_of_append k (others key ps) ((record { key = key; value = value }) ∷ []))
    by_case false e = grind (arith, value_of_others key k e ps, value_of_before k (others key ps) (record { key = key; value = value }))

-- one of four, with another in the place of one of them
module _ {X : Type 0} (bits : ℕ) (is_key : Bool) (value : X) where
  pub way_0 : (x y z w next : X) → (is_key ≡ true → bits % 4 ≡ 0) → next ≡ cond is_key value x → way bits next y z w ≡ cond is_key value (way bits x y z w)
  way_0 x y z w next t e = grind (arith, t, e)

  pub way_1 : (x y z w next : X) → (is_key ≡ true → bits % 4 ≡ 1) → next ≡ cond is_key value y → way bits x next z w ≡ cond is_key value (way bits x y z w)
  way_1 x y z w next t e = grind (arith, t, e)

  pub way_2 : (x y z w next : X) → (is_key ≡ true → bits % 4 ≡ 2) → next ≡ cond is_key value z → way bits x y next w ≡ cond is_key value (way bits x y z w)
  way_2 x y z w next t e = grind (arith, t, e)

  pub way_3 : (x y z w next : X) → (is_key ≡ true → bits % 4 ≡ 3) → next ≡ cond is_key value w → way bits x y z next ≡ cond is_key value (way bits x y z w)
  way_3 x y z w next t e = grind (arith, t, e)
