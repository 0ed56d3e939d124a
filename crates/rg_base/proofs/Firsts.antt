-- The least place that passes.
use Rattle.std.proofs.Common.{◌≡◌, ◌<◌, ◌+◌, ℕ, zero, suc, Bool, true, false, cond, Option, Some, None, refl, sym, ap, ◌∙◌, subst, ⊎_elim, arith, add-one}
use Rattle.std.specs.Option.{option_or}
use Rattle.std.proofs.lemmas.Bool.{cases_lt}
use Rattle.rg_base.specs.Names.{first_place}

module _ (test : ℕ → Bool) where
  abbrev AllFail : ℕ → Type 0
  AllFail n = (j : ℕ) → j < n → test j ≡ false

  fail_more : (n : ℕ) → AllFail n → test n ≡ false → AllFail (suc n)
  fail_more n a h j l = ⊎_elim (λ below. a j below) (λ past. subst (λ k. test k ≡ false) (let same : n ≡ j = omega arith in same) h) (cases_lt j n)

  pub first_none : (n : ℕ) → first_place test n ≡ None → AllFail n
  first_none zero e = λ j l. absurd (omega arith)
  first_none (suc n) e = by_case (first_none n) (first_place test n) (test n) refl refl e where
    by_case : (first_place test n ≡ None → AllFail n) → (o : Option ℕ) (b : Bool) → first_place test n ≡ o → test n ≡ b → option_or o (cond b (Some n) None) ≡ None → AllFail (suc n)
    by_case before None false eo eb h = fail_more n (before eo) eb
    by_case before None true eo eb h = absurd (cc)
    by_case before (Some m) b eo eb h = absurd (cc)

  pub first_some : (n k : ℕ) → first_place test n ≡ Some k → (k < n) × (test k ≡ true) × AllFail k
  first_some zero k e = absurd (cc)
  first_some (suc n) k e = by_case (first_some n k) (first_place test n) (test n) refl refl e where
    by_case : (first_place test n ≡ Some k → (k < n) × (test k ≡ true) × AllFail k) → (o : Option ℕ) (b : Bool) → first_place test n ≡ o → test n ≡ b → option_or o (cond b (Some n) None) ≡ Some k → (k < suc n) × (test k ≡ true) × AllFail k
    by_case earlier None false eo eb h = absurd (cc)
    by_case earlier None true eo eb h =
        let same : n ≡ k = cc in
        (omega arith, subst (λ m. test m ≡ true) same eb, subst AllFail same (first_none n eo))
    by_case earlier (Some m) b eo eb h =
        let before = earlier (eo ∙ h) in
        let within : k < n = before.0 in
        (omega arith, before.1, before.2)

  pub none_more : (n : ℕ) → first_place test n ≡ None → test n ≡ false → first_place test (n + 1) ≡ None
  none_more n e h = rw add-one (λ i. option_or (e i) (cond (h i) (Some n) None))

  pub none_first : (n : ℕ) → AllFail n → first_place test n ≡ None
  none_first zero a = refl
  none_first (suc n) a =
      let l : n < suc n = omega arith in
      (λ i. option_or (none_first n (λ j below. a j (omega arith)) i) (cond (a n l i) (Some n) None))

  pub some_first : (n k : ℕ) → k < n → test k ≡ true → AllFail k → first_place test n ≡ Some k
  some_first zero k l h a = absurd (omega arith)
  some_first (suc n) k l h a = ⊎_elim
      (λ below. ap (λ o. option_or o (cond (test n) (Some n) None)) (some_first n k below h a))
      (λ past. at_end (let same : k ≡ n = omega arith in same))
      (cases_lt k n) where
        at_end : k ≡ n → first_place test (suc n) ≡ Some k
        at_end same =
            (λ i. option_or (none_first n (subst AllFail same a) i) (cond (subst (λ m. test m ≡ true) same h i) (Some n) None)) ∙ ap Some (sym same)
