-- A log that keeps the changes after a version leads on from what was there at it.
use Rattle.std.proofs.Common.{arith, Bool, true, false, cond, eqb, leb, ltb, ◌&&◌, ◌≡◌, ◌<◌, ◌≤◌, ◌+◌, ◌-◌, ℕ, List, [], ◌∷◌, ◌++◌, length, drop, refl, ap, sym, ◌∙◌, subst, inl, inr}
use Rattle.std.proofs.lemmas.List.{drop-append-le, drop-drop, length-append, length-drop}
use Rattle.std.proofs.Math.Seq.{drop-length}
use Rattle.std.proofs.lemmas.Bool.{eqb-true, false≢true, leb-true}
use Rattle.rg_delta.specs.Logs.{Book, Known, behind, changes_after, keeps_after, last_kept, last_version, latest, most_kept, noted, raised, restarted}
use Rattle.rg_delta.specs.Logs.Known.{Nothing, These, Unknown}
use Rattle.rg_delta.specs.Chains.{Follows, IsSince, Leads}

-- below the last one a version rises by one
raised_by_one : (n : ℕ) → n < last_version → raised n ≡ n + 1
raised_by_one n h = omega arith

-- where the latest n + 1 of the kept ones are there, they are the latest n from before, and the new one
length_kept : {C : Type 0} (cs : List C) (c : C) → length (last_kept (cs ++ c ∷ [])) ≡ length cs + 1 - (length cs + 1 - most_kept)
length_kept cs c = length-drop (length (cs ++ c ∷ []) - most_kept) (cs ++ c ∷ []) ∙ ap (λ n. n - (n - most_kept)) (length-append cs (c ∷ []))

latest_kept : {C : Type 0} (n : ℕ) (cs : List C) (c : C) → n + 1 ≤ length (last_kept (cs ++ c ∷ [])) → latest (n + 1) (last_kept (cs ++ c ∷ [])) ≡ latest n cs ++ c ∷ []
latest_kept n cs c h =
    let whole = cs ++ c ∷ [] in
    let long : length whole ≡ length cs + 1 = length-append cs (c ∷ []) in
    let kept : length (last_kept whole) ≡ length cs + 1 - (length cs + 1 - most_kept) = length_kept cs c in
    drop-drop (length (last_kept whole) - (n + 1)) (length whole - most_kept) whole
    ∙ ap (λ m. drop m whole) (omega (arith, long, kept, h))
    ∙ drop-append-le (length cs - n) cs (c ∷ []) (omega arith)

and_right : (a b : Bool) → (a && b) ≡ true → b ≡ true
and_right true b h = h
and_right false b h = absurd (false≢true h)

module _ {X C : Type 0} (One : C → X → X → Type 0) where
  pub leads_on : (x : X) (cs : List C) (y : X) (c : C) (z : X) → Leads One x cs y → One c y z → Leads One x (cs ++ c ∷ []) z
  leads_on x [] y c z is step = (z, subst (λ w. One c w z) (sym is) step, refl)
  leads_on x (d ∷ cs) y c z led step = (led.0, led.1, leads_on led.0 cs y c z led.2 step)

  -- at the version itself
  pub since_now : (x : X) (b : Book C) → IsSince One b.version x b x
  since_now x b = record {
    later = omega arith;
    led = λ _. subst (λ cs. Leads One x cs x) (sym (ap (λ n. drop n b.changes) (none b) ∙ drop-length b.changes)) refl;
  }
    where
      none : (b : Book C) → length b.changes - (b.version - b.version) ≡ length b.changes
      none b = omega arith

  -- after one more change
  pub since_noted : (from : ℕ) (x : X) (b : Book C) (y : X) (c : C) (z : X) → IsSince One from x b y → b.version < last_version → One c y z → IsSince One from x (noted c b) z
  since_noted from x b y c z s low step =
      let rises = raised_by_one b.version low in
      let more : raised b.version - from ≡ (b.version - from) + 1 = omega (arith, s.later) in
      record {
        later = omega (arith, s.later);
        led = λ enough.
            let there : (b.version - from) + 1 ≤ length (last_kept (b.changes ++ c ∷ [])) = omega arith in
            let had : b.version - from ≤ length b.changes = omega (arith, length_kept b.changes c) in
            subst (λ cs. Leads One x cs z)
            (sym (ap (λ n. latest n (last_kept (b.changes ++ c ∷ []))) more ∙ latest_kept (b.version - from) b.changes c there))
            (leads_on x (latest (b.version - from) b.changes) y c z (s.led had) step);
      }

  -- after a restart no change is kept
  pub since_restarted : (from : ℕ) (x : X) (b : Book C) (y z : X) → IsSince One from x b y → b.version < last_version → IsSince One from x (restarted b) z
  since_restarted from x b y z s low =
      let rises = raised_by_one b.version low in
      record {
        later = omega (arith, s.later);
        led = λ (few : raised b.version - from ≤ 0). absurd (omega (arith, s.later));
      }

  pub since_follows : (from : ℕ) (x : X) (b : Book C) (y : X) (d : Book C) (z : X) → IsSince One from x b y → Follows One y b z d → IsSince One from x d z
  since_follows from x b y d z s (inl stays) = subst (λ e. IsSince One from x e z) (sym stays.1) (subst (λ w. IsSince One from x b w) (sym stays.0) s)
  since_follows from x b y d z s (inr (inl notes)) = subst (λ e. IsSince One from x e z) (sym notes.3) (since_noted from x b y notes.0 z s notes.1 notes.2)
  since_follows from x b y d z s (inr (inr restarts)) = subst (λ e. IsSince One from x e z) (sym restarts.1) (since_restarted from x b y z s restarts.0)

  -- what the log answers: nothing changed, or these changes lead there, or it doesn't know
  pub known_says : (P : Known C → Type 0) (from : ℕ) (x : X) (b : Book C) (y : X) → IsSince One from x b y
      → (from ≡ b.version → x ≡ y → P Nothing) → ((cs : List C) → Leads One x cs y → P (These cs)) → P Unknown → P (changes_after b from)
  known_says P from x b y s same these unknown =
      at_version (eqb from b.version) refl
    where
      unchanged : from ≡ b.version → x ≡ y
      unchanged now =
          let none : behind b from ≡ 0 = omega (arith, now) in
          let empty : latest (behind b from) b.changes ≡ [] = ap (λ n. drop n b.changes) (omega (arith, none)) ∙ drop-length b.changes in
          subst (λ cs. Leads One x cs y) empty (s.led (omega (arith, none)))

      if_kept : (t : Bool) → keeps_after b from ≡ t → P (cond t (These (latest (behind b from) b.changes)) Unknown)
      if_kept true is = these (latest (behind b from) b.changes) (s.led (leb-true (behind b from) (length b.changes) (and_right (ltb from b.version) (leb (behind b from) (length b.changes)) is)))
      if_kept false is = unknown

      at_version : (t : Bool) → eqb from b.version ≡ t → P (cond t Nothing (cond (keeps_after b from) (These (latest (behind b from) b.changes)) Unknown))
      at_version true is = let now = eqb-true from b.version is in same now (unchanged now)
      at_version false is = if_kept (keeps_after b from) refl
