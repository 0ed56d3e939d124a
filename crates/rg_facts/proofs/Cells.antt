-- The first cell that isn't empty is the cell of the first candidate by cell and id.
use Rattle.std.proofs.Common.{◌≡◌, ◌||◌, ◌&&◌, ◌+◌, ℕ, ℤ, Bool, true, false, cond, nat_lt, eqb, int_lt, List, [], ◌∷◌, map, filter, Option, Some, None, refl, ap, sym, ◌∙◌, arith}
use Rattle.std.proofs.lemmas.Bool.{and_parts, eqb-true}
use Rattle.std.proofs.lemmas.Bool.Decides.{nat_tests}
use Rattle.std.specs.List.{cons_option, filter_map, list_all, list_any}
use Rattle.std.specs.Option.{option_map_or, option_or}
use Rattle.std.specs.Ordering.{int_eq}
use Rattle.std.specs.Prelude.{option_map}
use Rattle.rg_policy.specs.Kinds.{normal, overriding}
use Rattle.rg_policy.specs.declared.policy.Policy.{Policy}
use Rattle.rg_evalr.specs.declared.frame.Effect.{Effect}
use Rattle.rg_evalr.specs.declared.frame.Effect.TheVariants.{Nothing, Allow, Deny}
use Rattle.rg_evalr.specs.declared.frame.Side.{Side}
use Rattle.rg_evalr.specs.declared.frame.Side.TheVariants.{Resource, Tag}
use Rattle.rg_facts.specs.Best.{best_from, better, ranked, ranks_before}
use Rattle.rg_facts.specs.Candidates.{Candidate, Setting}
use Rattle.rg_facts.specs.Firsts.{first_by, first_some}
use Rattle.rg_facts.specs.Flow.{cell_at, cell_in, cell_of, cells, decider, given, has_lesser_id, policies_in, stands_in}
use Rattle.rg_facts.proofs.Least.{best_from_none, by_id, by_rank}

abbrev Rank : Type 0
Rank = ℕ × Policy

-- a policy in a cell
abbrev rank : ℕ → Policy → Rank
rank k p = (k, p)

abbrev Bests : Type 0
Bests = ℕ → Option Policy

-- ---- the best of each cell, and the first cell that has one

abbrev shown : Bests → ℕ → Option Rank
shown b k = option_map (rank k) (b k)

abbrev lead : List ℕ → Bests → Option Rank
lead ks b = first_some (map (shown b) ks)

-- after one more policy in cell j
abbrev with_one : Rank → Bests → Bests
with_one r b k = cond (eqb r.0 k) (Some (better has_lesser_id (b k) r.1)) (b k)

-- the cells stand in order
abbrev Ascending : List ℕ → Type 0
Ascending [] = Unit {0}
Ascending (k ∷ ks) = (list_all (nat_lt k) ks ≡ true) × Ascending ks

-- the first cell that has one is one of the cells
lead_above : (j : ℕ) (ks : List ℕ) (b : Bests) (r : Rank) → list_all (nat_lt j) ks ≡ true → lead ks b ≡ Some r → nat_lt j r.0 ≡ true
lead_above j [] b r h e = let bad : None ≡ Some r = e in cc
lead_above j (k ∷ ks) b r h e = at (b k) e (lead_above j ks b r (and_parts (nat_lt j k) (list_all (nat_lt j) ks) h).1) where
  at : (o : Option Policy) → option_or (option_map (rank k) o) (lead ks b) ≡ Some r → (lead ks b ≡ Some r → nat_lt j r.0 ≡ true) → nat_lt j r.0 ≡ true
  at None rest on = on rest
  at (Some p) same on = let first : k ≡ r.0 = (let pair : rank k p ≡ r = cc in ap (λ (x : Rank). x.0) pair) in ap (nat_lt j) (sym first) ∙ (and_parts (nat_lt j k) (list_all (nat_lt j) ks) h).0

before_self : (k : ℕ) (x y : ℤ) → (nat_lt k k || (eqb k k && int_lt x y)) ≡ int_lt x y
before_self k x y = grind (arith, nat_tests)

before_below : (k j : ℕ) (x y : ℤ) → nat_lt k j ≡ true → (nat_lt k j || (eqb k j && int_lt x y)) ≡ true
before_below k j x y h = ap (λ v. v || (eqb k j && int_lt x y)) h

not_before : (j k : ℕ) (x y : ℤ) → nat_lt k j ≡ true → (nat_lt j k || (eqb j k && int_lt x y)) ≡ false
not_before j k x y h = grind (arith, nat_tests)

-- one more in the first cell that has one
same_cell : (k : ℕ) (y p : Policy) → Some (rank k (better has_lesser_id (Some y) p)) ≡ Some (better ranks_before (Some (rank k y)) (rank k p))
same_cell k y p =
    choose (has_lesser_id p y)
    ∙ ap (λ v. Some (cond v (rank k p) (rank k y))) (sym (before_self k p.id.0 y.id.0))
  where
    choose : (v : Bool) → Some (rank k (cond v p y)) ≡ Some (cond v (rank k p) (rank k y))
    choose true = refl
    choose false = refl

-- one more in a cell that is before all that have one
earlier_cell : (k : ℕ) (p : Policy) (o : Option Rank) → ((r : Rank) → o ≡ Some r → nat_lt k r.0 ≡ true) → Some (rank k p) ≡ Some (better ranks_before o (rank k p))
earlier_cell k p None above = refl
earlier_cell k p (Some r) above = ap (λ v. Some (cond v (rank k p) r)) (sym (before_below k r.0 p.id.0 r.1.id.0 (above r refl)))

-- one more in a cell after the first that has one
later_cell : (j k : ℕ) (y p : Policy) → nat_lt k j ≡ true → Some (rank k y) ≡ Some (better ranks_before (Some (rank k y)) (rank j p))
later_cell j k y p h = ap (λ v. Some (cond v (rank j p) (rank k y))) (sym (not_before j k p.id.0 y.id.0 h))

among_above : (k j : ℕ) (ks : List ℕ) → list_all (nat_lt k) ks ≡ true → list_any (eqb j) ks ≡ true → nat_lt k j ≡ true
among_above k j [] h i = let bad : false ≡ true = i in cc
among_above k j (m ∷ ks) h i = at (eqb j m) refl i (among_above k j ks (and_parts (nat_lt k m) (list_all (nat_lt k) ks) h).1) where
  at : (v : Bool) → eqb j m ≡ v → (v || list_any (eqb j) ks) ≡ true → (list_any (eqb j) ks ≡ true → nat_lt k j ≡ true) → nat_lt k j ≡ true
  at true e here on = ap (nat_lt k) (eqb-true j m e) ∙ (and_parts (nat_lt k m) (list_all (nat_lt k) ks) h).0
  at false e later on = on later

-- one more in the very cell that is looked at
here_too : (k : ℕ) (ks : List ℕ) (r : Rank) (b : Bests) (o : Option Policy) (rest : Option Rank) → list_all (nat_lt k) ks ≡ true → r.0 ≡ k
    → option_or (option_map (rank k) (Some (better has_lesser_id o r.1))) rest ≡ Some (better ranks_before (option_or (option_map (rank k) o) (lead ks b)) r)
here_too k ks r b None rest up same = earlier_cell k r.1 (lead ks b) (λ s e. lead_above k ks b s up e) ∙ ap (λ (n : ℕ). Some (better ranks_before (lead ks b) (rank n r.1))) (sym same)
here_too k ks r b (Some y) rest up same = same_cell k y r.1 ∙ ap (λ (n : ℕ). Some (better ranks_before (Some (rank k y)) (rank n r.1))) (sym same)

-- one more in a later cell
there_too : (k : ℕ) (ks : List ℕ) (r : Rank) (b : Bests) (o : Option Policy) (rest : Option Rank) → list_all (nat_lt k) ks ≡ true → list_any (eqb r.0) ks ≡ true
    → rest ≡ Some (better ranks_before (lead ks b) r)
    → option_or (option_map (rank k) o) rest ≡ Some (better ranks_before (option_or (option_map (rank k) o) (lead ks b)) r)
there_too k ks r b None rest up j on = on
there_too k ks r b (Some y) rest up j on = later_cell r.0 k y r.1 (among_above k r.0 ks up j)

lead_one : (ks : List ℕ) (r : Rank) (b : Bests) → Ascending ks → list_any (eqb r.0) ks ≡ true → lead ks (with_one r b) ≡ Some (better ranks_before (lead ks b) r)
lead_one [] r b up i = let bad : false ≡ true = i in cc
lead_one (k ∷ ks) r b up i = at (eqb r.0 k) refl i (lead_one ks r b up.1) where
  at : (v : Bool) → eqb r.0 k ≡ v → (v || list_any (eqb r.0) ks) ≡ true → (list_any (eqb r.0) ks ≡ true → lead ks (with_one r b) ≡ Some (better ranks_before (lead ks b) r))
      → option_or (option_map (rank k) (cond v (Some (better has_lesser_id (b k) r.1)) (b k))) (lead ks (with_one r b)) ≡ Some (better ranks_before (option_or (shown b k) (lead ks b)) r)
  at true e j on = here_too k ks r b (b k) (lead ks (with_one r b)) up.0 (eqb-true r.0 k e)
  at false e j on = there_too k ks r b (b k) (lead ks (with_one r b)) up.0 j (on j)

-- ---- many, one after the other

abbrev in_cell : ℕ → List Rank → List Policy
in_cell k rs = map (λ (r : Rank). r.1) (filter (λ (r : Rank). eqb r.0 k) rs)

abbrev with_all : List Rank → Bests → Bests
with_all rs b k = best_from has_lesser_id (b k) (in_cell k rs)

next_in : (r : Rank) (rs : List Rank) (b : Bests) (k : ℕ) → with_all (r ∷ rs) b k ≡ with_all rs (with_one r b) k
next_in r rs b k = elim (eqb r.0 k) as (λ v. best_from has_lesser_id (b k) (map (λ (x : Rank). x.1) (cond v (r ∷ filter (λ (x : Rank). eqb x.0 k) rs) (filter (λ (x : Rank). eqb x.0 k) rs)))
    ≡ best_from has_lesser_id (cond v (Some (better has_lesser_id (b k) r.1)) (b k)) (in_cell k rs)) [ true ↦ refl | false ↦ refl ]

lead_all : (ks : List ℕ) (rs : List Rank) (b : Bests) → Ascending ks → list_all (λ (r : Rank). list_any (eqb r.0) ks) rs ≡ true
    → lead ks (with_all rs b) ≡ best_from ranks_before (lead ks b) rs
lead_all ks [] b up h = refl
lead_all ks (r ∷ rs) b up h =
    let both = and_parts (list_any (eqb r.0) ks) (list_all (λ (x : Rank). list_any (eqb x.0) ks) rs) h in
    (λ i. lead ks (λ k. next_in r rs b k i))
    ∙ lead_all ks rs (with_one r b) up both.1
    ∙ ap (λ o. best_from ranks_before o rs) (lead_one ks r b up both.0)

-- ---- candidates

-- the policies in a cell are those that rank there
ranked_in : (s : Setting) (k : ℕ) (cs : List Candidate) → policies_in s cs k ≡ in_cell k (filter_map (ranked s) cs)
unfolding ranked
ranked_in s k [] = refl
ranked_in s k (c ∷ cs) = at (cell_at s c) (ranked_in s k cs) where
  at : (o : Option ℕ) → policies_in s cs k ≡ in_cell k (filter_map (ranked s) cs)
      → map (λ (x : Candidate). x.source.policy) (cond (option_map_or (λ m. eqb m k) o false) (c ∷ filter (stands_in s k) cs) (filter (stands_in s k) cs))
      ≡ in_cell k (cons_option (option_map (λ n. rank n c.source.policy) o) (filter_map (ranked s) cs))
  at None on = on
  at (Some m) on = elim (eqb m k) as (λ v. map (λ (x : Candidate). x.source.policy) (cond v (c ∷ filter (stands_in s k) cs) (filter (stands_in s k) cs))
      ≡ map (λ (r : Rank). r.1) (cond v (rank m c.source.policy ∷ filter (λ (r : Rank). eqb r.0 k) (filter_map (ranked s) cs)) (filter (λ (r : Rank). eqb r.0 k) (filter_map (ranked s) cs)))) [
        | true ↦ ap (λ ps. c.source.policy ∷ ps) on
        | false ↦ on
      ]

-- each cell is one of the eight
abbrev is_cell : Option ℕ → Bool
is_cell o = option_map_or (λ n. list_any (eqb n) cells) o true

cell_is : (priority : ℤ) (side : Side) (effect : Effect) → is_cell (cell_of priority side effect) ≡ true
cell_is priority side effect = at (int_eq priority overriding) (int_eq priority normal) side effect where
  at : (u v : Bool) (side : Side) (effect : Effect) → is_cell (cond u (cell_in side effect) (cond v (option_map (λ n. n + 4) (cell_in side effect)) None)) ≡ true
  at true v Tag Deny = refl
  at true v Resource Deny = refl
  at true v Tag Allow = refl
  at true v Resource Allow = refl
  at true v Tag Nothing = refl
  at true v Resource Nothing = refl
  at false true Tag Deny = refl
  at false true Resource Deny = refl
  at false true Tag Allow = refl
  at false true Resource Allow = refl
  at false true Tag Nothing = refl
  at false true Resource Nothing = refl
  at false false side effect = refl

all_cells : (s : Setting) (cs : List Candidate) → list_all (λ (r : Rank). list_any (eqb r.0) cells) (filter_map (ranked s) cs) ≡ true
unfolding ranked
all_cells s [] = refl
all_cells s (c ∷ cs) = at (cell_at s c) (cell_is c.source.policy.priority c.source.side (given s c)) (all_cells s cs) where
  at : (o : Option ℕ) → is_cell o ≡ true → list_all (λ (r : Rank). list_any (eqb r.0) cells) (filter_map (ranked s) cs) ≡ true
      → list_all (λ (r : Rank). list_any (eqb r.0) cells) (cons_option (option_map (λ n. rank n c.source.policy) o) (filter_map (ranked s) cs)) ≡ true
  at None h on = on
  at (Some n) h on = ap (λ v. v && list_all (λ (r : Rank). list_any (eqb r.0) cells) (filter_map (ranked s) cs)) h ∙ on

in_order : Ascending cells
in_order = (refl, (refl, (refl, (refl, (refl, (refl, (refl, (refl, tt))))))))

-- who decides is the first by cell and id
pub decider_is : (s : Setting) (cs : List Candidate) → decider s cs ≡ first_by ranks_before (filter_map (ranked s) cs)
decider_is s cs =
    (λ i. lead cells (λ k. (ap (first_by has_lesser_id) (ranked_in s k cs) ∙ sym (best_from_none has_lesser_id by_id (in_cell k (filter_map (ranked s) cs)))) i))
    ∙ lead_all cells (filter_map (ranked s) cs) (λ k. None) in_order (all_cells s cs)
    ∙ best_from_none ranks_before by_rank (filter_map (ranked s) cs)
