-- Lists whose names stand in byte order.
use Rattle.std.proofs.Common.{◌≡◌, ℕ, suc, ◌+◌, ◌-◌, ◌≤◌, ◌<◌, List, [], ◌∷◌, ◌++◌, length, take, drop, get_or, sym, ap, ◌∙◌, subst, arith}
use Rattle.std.specs.Cmp.Lexicographic.{slice_cmp}
use Rattle.std.specs.Ordering.{nat_cmp}
use Rattle.std.specs.declared.cmp.Ordering.TheVariants.{Less}
use Rattle.std.specs.Str.{encode_utf8_all}
use Rattle.std.proofs.Math.Seq.{drop-cons}
use Rattle.std.proofs.lemmas.List.{length-drop, take_more}
use Rattle.rg_policy.specs.declared.policy.PolicyResource.{PolicyResource}
use Rattle.rg_json.specs.Own.{EachOf}
use Rattle.rg_json.proofs.Owned.{EachOf-push}
use Rattle.rg_wire.specs.Own.{IsInOrder}
use Rattle.rg_ask_wire.specs.KeyOrder.{AreInOrder}

module _ {X : Type 0} (name : X → List ℕ) where
  short : (xs : List X) → length xs ≤ 1 → AreInOrder name xs
  short [] le = tt
  short (x ∷ []) le = (tt, tt)
  short (x ∷ (y ∷ xs)) le = absurd (omega (arith, le))

  -- what is left at the end is in order
  pub order_ends : (xs : List X) (n : ℕ) → length xs ≤ n → AreInOrder name (drop (n - 1) xs)
  order_ends xs n le = short (drop (n - 1) xs) (omega (arith, le, length-drop (n - 1) xs))

  -- an item before the next one
  pub order_steps : (xs : List X) (n : ℕ) (x y : X) → 1 ≤ n → n < length xs → x ≡ get_or xs (n - 1) x → y ≡ get_or xs n y → slice_cmp nat_cmp (encode_utf8_all (name x)) (encode_utf8_all (name y)) ≡ Less
      → AreInOrder name (drop (n + 1 - 1) xs) → AreInOrder name (drop (n - 1) xs)
  order_steps xs n x y low high is_x is_y before rest =
      let tail : drop n xs ≡ y ∷ drop (suc n) xs = drop-cons xs n y high ∙ ap (λ z. z ∷ drop (suc n) xs) (sym is_y) in
      let same : suc (n - 1) ≡ n = omega (arith, low) in
      let back : n + 1 - 1 ≡ n = omega arith in
      let at : n - 1 < length xs = omega (arith, high) in
      let whole : drop (n - 1) xs ≡ x ∷ (y ∷ drop (suc n) xs) = drop-cons xs (n - 1) x at ∙ ap (λ z. z ∷ drop (suc (n - 1)) xs) (sym is_x) ∙ ap (λ zs. x ∷ zs) (ap (λ k. drop k xs) same ∙ tail) in
      let later : AreInOrder name (y ∷ drop (suc n) xs) = subst (λ (zs : List X). AreInOrder name zs) tail (subst (λ k. AreInOrder name (drop k xs)) back rest) in
      subst (λ (zs : List X). AreInOrder name zs) (sym whole) (before, later)

-- ---- lists of maps

pub each_more : {X : Type 0} (own : X → Type 0) (xs : List X) (i : ℕ) (x : X) → i < length xs → x ≡ get_or xs i x → EachOf own (take i xs) → own x → EachOf own (take (i + 1) xs)
each_more own xs i x within is all here = subst (λ ys. EachOf own ys) (sym (take_more xs i x within ∙ ap (λ y. take i xs ++ y ∷ []) (sym is))) (EachOf-push own (take i xs) x all here)

-- ---- the levels of a resource map

pub levels_in_order : (rs : List PolicyResource) → AreInOrder (λ (r : PolicyResource). r.level) rs → IsInOrder rs
levels_in_order [] is = tt
levels_in_order (r ∷ []) is = (tt, tt)
levels_in_order (r ∷ (s ∷ rs)) is = (is.0, levels_in_order (s ∷ rs) is.1)
