-- Each step keeps the rule of the readers.
use Rattle.std.proofs.Common.{◌≡◌, ◌≢◌, ◌⊎◌, ℕ, List, set, Option, Some, None, refl, ap, ◌∙◌, subst, ⊎_elim}
use mathlib.Core.Option.{some}
use lib.ListN.{get_elem?}
use Rattle.crossbeam_utils.specs.Register.{Admits, TurnsAt, Forks, Merges}
use Rattle.atomic_table.proofs.Lists.{at_set, at_snoc, set_again}
use Rattle.logbook.specs.declared.tokens.Seen.{Seen}
use Rattle.rg_publish.specs.Knowing.{Begins, AllBegin, Reads}
use Rattle.rg_publish.proofs.Lists.{prefix_self, prefix_trans}

module _ {E A P T : Type 0} (seen : T → Seen E A P) where
  abbrev Token : Type 0
  Token = Seen E A P

  abbrev Holds : T → List (Option Token) → Type 0
  Holds x views = AllBegin (seen x) views

  begins_self : (s t : Token) → Some s ≡ Some t → Begins t s
  begins_self s t is = let same : s ≡ t = cc is in subst (λ (z : Token). Begins z s) same (refl, prefix_self s.log)

  begins_on : (t s u : Token) → Begins t s → Begins s u → Begins t u
  begins_on t s u a b = (a.0 ∙ b.0, prefix_trans t.log s.log u.log a.1 b.1)

  pub admits : Admits Holds None
  admits x views h j v e t is = ⊎_elim (λ (was : get_elem? views j ≡ some v). h j v was t is) (λ (same : None ≡ v). absurd (cc (same, is))) (at_snoc views None v j e)

  pub reads : (seat : ℕ) (v : Option Token) (x y : T) → Begins (seen x) (seen y) → TurnsAt Holds seat v x y (λ v x y w. Reads v (seen y) w)
  reads seat v x y up views h at = (
    Some (seen y),
    (λ j u e t is. ⊎_elim (λ (z : (j ≡ seat) × (Some (seen y) ≡ u)). begins_self (seen y) t (z.1 ∙ is)) (λ (z : (j ≢ seat) × (get_elem? views j ≡ some u)). begins_on t (seen x) (seen y) (h j u z.1 t is) up) (at_set views seat j (Some (seen y)) u e)),
    (refl, λ t is. begins_on t (seen x) (seen y) (h seat v at t is) up),
  )

  pub forks : (seat : ℕ) (v : Option Token) → Forks Holds seat v v v
  forks seat v x views h at j u e t is = ⊎_elim (λ (was : get_elem? (set views seat v) j ≡ some u). h j u (subst (λ l. get_elem? l j ≡ some u) (set_again views seat v at) was) t is) (λ (same : v ≡ u). h seat v at t (same ∙ is)) (at_snoc (set views seat v) v u j e)

  pub merges : (seat : ℕ) (v : Option Token) (other : ℕ) (w : Option Token) → Merges Holds seat v other w w None
  merges seat v other w x views h at apart there j u e t is =
      let theirs : get_elem? views other ≡ some w = ⊎_elim (λ (z : (other ≡ seat) × (w ≡ w)). absurd (apart z.0)) (λ (z : (other ≢ seat) × (get_elem? views other ≡ some w)). z.1) (at_set views seat other w w there) in
      ⊎_elim (λ (z : (j ≡ other) × (None ≡ u)). absurd (cc (z.1, is)))
      (λ (z : (j ≢ other) × (get_elem? (set views seat w) j ≡ some u)). ⊎_elim (λ (y : (j ≡ seat) × (w ≡ u)). h other w theirs t (y.1 ∙ is)) (λ (y : (j ≢ seat) × (get_elem? views j ≡ some u)). h j u y.1 t is) (at_set views seat j w u z.1))
      (at_set (set views seat w) other j None u e)
