-- What steps lead to, set by set.
use Rattle.std.proofs.Common.{◌≡◌, ◌⊎◌, ◌+◌, ◌++◌, ◌||◌, ℕ, nat_eq, true, false, List, [], ◌∷◌, length, take, drop, get_or, Contains, refl, sym, ap, ◌∙◌, subst, inl, inr, ⊎_elim, arith}
use Rattle.std.proofs.Math.Seq.{take-append_seam}
use Rattle.std.specs.Bool.{Decides}
use Rattle.std.specs.List.{All}
use Rattle.std.proofs.lemmas.Bool.{eq-eqb, eqb-true, or_cases, or_left, or_right, true≢false}
use Rattle.std.proofs.lemmas.List.Elements.{All-contains, Contains-append_left, Contains-push, Contains-push_cases}
use Rattle.rg_base.proofs.Lists.{Contains-none}
use Rattle.rg_roles.specs.Places.{AreReached, Reaches, by_step, by_steps, has}
use Rattle.rg_roles.proofs.Charted.{prepend}
use Rattle.rg_roles.proofs.Sets.{has_none}
use Rattle.rg_roles.proofs.Walks.{reached_in}

-- one of the places is this one, or steps lead from it to this one
abbrev pub Goes : List (List ℕ) → List ℕ → ℕ → Type 0
Goes chart ms k = (m : ℕ) × Contains ms m × ((m ≡ k) ⊎ Reaches chart m k)

-- the set has the places from which it goes there
abbrev pub AreGone : List (List ℕ) → List ℕ → List ℕ → Type 0
AreGone chart ms words = (k : ℕ) → Decides (has words k) (Goes chart ms k)

-- the set has these places
abbrev pub AreListed : List ℕ → List ℕ → Type 0
AreListed found words = (k : ℕ) → Decides (has words k) (Contains found k)

-- an empty set
abbrev pub IsNone : List ℕ → Type 0
IsNone words = (k : ℕ) → has words k ≡ false

pub gone_none : (chart : List (List ℕ)) (words : List ℕ) → IsNone words → AreGone chart [] words
gone_none chart words none k = (λ h. absurd (true≢false (sym h ∙ none k)), λ g. absurd (Contains-none g.0 g.1))

pub listed_none : (words : List ℕ) → IsNone words → AreListed [] words
listed_none words none k = (λ h. absurd (true≢false (sym h ∙ none k)), λ c. absurd (Contains-none k c))

-- words that were lent as a slice
pub lent : (new old : List ℕ) (n : ℕ) → n ≡ length new → take n (new ++ drop (length new) old) ≡ new
lent new old n e = ap (λ m. take m (new ++ drop (length new) old)) e ∙ take-append_seam new (drop (length new) old)

pub gone_more : (chart : List (List ℕ)) (ms : List ℕ) (to : ℕ) (words further joined new : List ℕ) → AreGone chart ms words
    → ((k : ℕ) → Decides (has further k) (Reaches chart to k)) → ((k : ℕ) → has joined k ≡ (has words k || has further k))
    → ((k : ℕ) → has new k ≡ (nat_eq k to || has joined k)) → AreGone chart (ms ++ to ∷ []) new
gone_more chart ms to words further joined new before known join insert k = (there, back) where
  there : has new k ≡ true → Goes chart (ms ++ to ∷ []) k
  there h = ⊎_elim
      (λ same. (to, Contains-push ms to, inl (sym (eqb-true k to same))))
      (λ rest. ⊎_elim
      (λ old. let g = (before k).0 old in (g.0, Contains-append_left ms (to ∷ []) g.0 g.1, g.2))
      (λ more. (to, Contains-push ms to, inr ((known k).0 more)))
      (or_cases (has words k) (has further k) (sym (join k) ∙ rest)))
      (or_cases (nat_eq k to) (has joined k) (sym (insert k) ∙ h))

  back : Goes chart (ms ++ to ∷ []) k → has new k ≡ true
  back g = insert k ∙ ⊎_elim
      (λ c. or_right (nat_eq k to) (has joined k) (join k ∙ or_left (has words k) (has further k) ((before k).1 (g.0, c, g.2))))
      (λ same. ⊎_elim
      (λ here. or_left (nat_eq k to) (has joined k) (eq-eqb k to (sym (same ∙ here))))
      (λ r. or_right (nat_eq k to) (has joined k) (join k ∙ or_right (has words k) (has further k) ((known k).1 (subst (λ m. Reaches chart m k) (sym same) r))))
      g.2)
      (Contains-push_cases ms to g.0 g.1)

pub listed_more : (found : List ℕ) (to : ℕ) (words new : List ℕ) → AreListed found words → ((k : ℕ) → has new k ≡ (nat_eq k to || has words k)) → AreListed (found ++ to ∷ []) new
listed_more found to words new before insert k = (
  λ h. ⊎_elim
      (λ same. subst (Contains (found ++ to ∷ [])) (sym (eqb-true k to same)) (Contains-push found to))
      (λ rest. Contains-append_left found (to ∷ []) k ((before k).0 rest))
      (or_cases (nat_eq k to) (has words k) (sym (insert k) ∙ h)),
  λ c. insert k ∙ ⊎_elim
      (λ old. or_right (nat_eq k to) (has words k) ((before k).1 old))
      (λ same. or_left (nat_eq k to) (has words k) (eq-eqb k to (sym same)))
      (Contains-push_cases found to k c),
)

-- a first step, and what it leads on to
first_step : (chart : List (List ℕ)) (place k : ℕ) → Reaches chart place k → Goes chart (get_or chart place []) k
first_step chart place k (by_step _ c) = (k, c, inl refl)
first_step chart place k (by_steps p _ r c) =
    let g = first_step chart place p r in (
      g.0,
      g.1,
      inr (⊎_elim
          (λ same. by_step k (subst (λ q. Contains (get_or chart q []) k) (sym same) c))
          (λ steps. by_steps p k steps c)
          g.2),
    )

pub gone_known : (chart : List (List ℕ)) (place : ℕ) (words : List ℕ) → AreGone chart (get_or chart place []) words → (k : ℕ) → Decides (has words k) (Reaches chart place k)
gone_known chart place words gone k = (
  λ h. let g = (gone k).0 h in ⊎_elim
      (λ same. by_step k (subst (Contains (get_or chart place [])) same g.1))
      (λ r. prepend chart place g.0 k g.1 r)
      g.2,
  λ r. (gone k).1 (first_step chart place k r),
)

pub listed_known : (chart : List (List ℕ)) (place : ℕ) (found words : List ℕ) → AreReached chart place found → AreListed found words → (k : ℕ) → Decides (has words k) (Reaches chart place k)
listed_known chart place found words reached listed k = (
  λ h. All-contains (Reaches chart place) found k reached.sound ((listed k).0 h),
  λ r. (listed k).1 (reached_in chart place found reached k r),
)

-- a place without steps leads nowhere
pub nowhere : (chart : List (List ℕ)) (place : ℕ) → get_or chart place [] ≡ [] → (k : ℕ) → Decides (has [] k) (Reaches chart place k)
nowhere chart place none k = (
  λ h. absurd (true≢false (sym h ∙ has_none 0 k)),
  λ r. let g = first_step chart place k r in absurd (Contains-none g.0 (subst (λ ms. Contains ms g.0) none g.1)),
)

pub no_steps : (steps : List ℕ) → nat_eq (length steps) 0 ≡ true → steps ≡ []
no_steps [] h = refl
no_steps (k ∷ steps) h = absurd (let none : length (k ∷ steps) ≡ 0 = eqb-true (length (k ∷ steps)) 0 h in omega arith)
