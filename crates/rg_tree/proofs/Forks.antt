-- A fork in which one tree was changed.
use Rattle.std.proofs.Common.{◌≡◌, ℕ, ◌==◌, ◌+◌, ◌/◌, ◌%◌, ◌<◌, zero, suc, Bool, true, false, List, cond, Option, Some, None, IfOk, refl, sym, ap, ◌∙◌, subst, arith}
use Rattle.std.specs.declared.result.Result.{Result}
use Rattle.std.specs.declared.result.Result.TheVariants.{Ok, Err}
use Rattle.rg_tree.specs.declared.tree.Placed.{Placed}
use Rattle.rg_tree.specs.declared.tree.Tree.{Tree}
use Rattle.rg_tree.specs.Trees.{Holds, HoldsAll, IsForked, found, left_at, set_in, value_of, way}
use Rattle.rg_tree.proofs.Sets.{value_of_set, way_0, way_1, way_2, way_3}

pub left_at_next : (depth below key bits : ℕ) → below ≡ depth + 1 → bits ≡ left_at depth key → bits / 4 ≡ left_at below key
left_at_next depth below key bits e b = subst (λ n. bits / 4 ≡ left_at n key) (sym (e ∙ add_one depth)) (ap (λ n. n / 4) b) where
  add_one : (n : ℕ) → n + 1 ≡ suc n
  add_one n = omega arith

is_same : (k key : ℕ) → (k == key) ≡ true → k ≡ key
is_same k key e = grind (arith, e)

-- the tree is a fork of these four
abbrev pub Forks : {V : Type 0} → Tree V → Tree V → Tree V → Tree V → Tree V → Type 0
Forks tree a b c d = (key bits : ℕ) → found tree key bits ≡ way bits (found a key (bits / 4)) (found b key (bits / 4)) (found c key (bits / 4)) (found d key (bits / 4))

module _ {V : Type 0} (depth below key bits : ℕ) (value : Option V) (a b c d next tree new : Tree V) (e : below ≡ depth + 1) (known : bits ≡ left_at depth key) (old : Forks tree a b c d) where
  going_there : (k : ℕ) → (k == key) ≡ true → left_at depth k % 4 ≡ bits % 4
  going_there k t = ap (λ n. left_at depth n % 4) (is_same k key t) ∙ ap (λ n. n % 4) (sym known)

  lower : (k : ℕ) → left_at depth k / 4 ≡ left_at below k
  lower k = left_at_next depth below k (left_at depth k) e refl

  changed : (part : Tree V) → Holds below key value part next → (k : ℕ) → found next k (left_at depth k / 4) ≡ cond (k == key) value (found part k (left_at depth k / 4))
  changed part h k = subst (λ n. found next k n ≡ cond (k == key) value (found part k n)) (sym (lower k)) (h k)

  pub held_0 : bits % 4 ≡ 0 → Holds below key value a next → IsForked 0 a b c d next new → Holds depth key value tree new
  held_0 w h f k = f k (left_at depth k) ∙ way_0 (left_at depth k) (k == key) value _ _ _ _ _ (λ t. going_there k t ∙ w) (changed a h k) ∙ ap (λ x. cond (k == key) value x) (sym (old k (left_at depth k)))

  pub held_1 : bits % 4 ≡ 1 → Holds below key value b next → IsForked 1 a b c d next new → Holds depth key value tree new
  held_1 w h f k = f k (left_at depth k) ∙ way_1 (left_at depth k) (k == key) value _ _ _ _ _ (λ t. going_there k t ∙ w) (changed b h k) ∙ ap (λ x. cond (k == key) value x) (sym (old k (left_at depth k)))

  pub held_2 : bits % 4 ≡ 2 → Holds below key value c next → IsForked 2 a b c d next new → Holds depth key value tree new
  held_2 w h f k = f k (left_at depth k) ∙ way_2 (left_at depth k) (k == key) value _ _ _ _ _ (λ t. going_there k t ∙ w) (changed c h k) ∙ ap (λ x. cond (k == key) value x) (sym (old k (left_at depth k)))

  pub held_3 : bits % 4 ≡ 3 → Holds below key value d next → IsForked 3 a b c d next new → Holds depth key value tree new
  held_3 w h f k = f k (left_at depth k) ∙ way_3 (left_at depth k) (k == key) value _ _ _ _ _ (λ t. going_there k t ∙ w) (changed d h k) ∙ ap (λ x. cond (k == key) value x) (sym (old k (left_at depth k)))

pub if_ok : {X Y : Type 0} (P Q : X → Type 0) (r : Result X Y) → ((x : X) → P x → Q x) → IfOk r P → IfOk r Q
if_ok P Q (Ok x) f h = f x h
if_ok P Q (Err y) f h = tt

-- a leaf after an edit
pub leaf_held : {V : Type 0} (depth key : ℕ) (value : Option V) (tree new : Tree V) (ps qs : List (Placed V)) → ((k bits : ℕ) → found tree k bits ≡ value_of k ps) → qs ≡ set_in key value ps → HoldsAll depth qs new → Holds depth key value tree new
leaf_held depth key value tree new ps qs old e h k = h k ∙ ap (value_of k) e ∙ value_of_set key value k ps ∙ ap (λ x. cond (k == key) value x) (sym (old k (left_at depth k)))
