-- The first cell in which some policy is told is the flow's.
use Rattle.std.proofs.Common.{◌≡◌, ◌||◌, ◌∷◌, ℕ, Bool, true, false, cond, eqb, List, [], map, filter, Option, Some, None, is_some, refl, ap, sym, ◌∙◌}
use Rattle.std.proofs.lemmas.List.Folds.{list_any-append}
use Rattle.std.specs.Prelude.{option_map}
use Rattle.std.specs.List.{find, list_any}
use Rattle.std.specs.Option.{option_map_or, option_or}
use Rattle.rg_policy.specs.declared.policy.Policy.{Policy}
use Rattle.rg_facts.proofs.Least.{best_from_none, by_id}
use Rattle.rg_facts.specs.Best.{best_from, better}
use Rattle.rg_facts.specs.Candidates.{Candidate, Setting, is_chosen}
use Rattle.rg_facts.specs.Firsts.{first_by, first_some}
use Rattle.rg_facts.specs.Flow.{cells, decider, has_lesser_id, policies_in, stands_in}
use Rattle.rg_explain.specs.Explaining.{fills, first_filled, told, told_all, told_by}
use Rattle.rg_explain.proofs.Chosen.{unchosen}

or_none : (b : Bool) → (b || false) ≡ b
or_none true = refl
or_none false = refl

-- ---- whether a cell is filled

fills_alone : (s : Setting) (n : ℕ) (c : Candidate) (b : Bool) → is_chosen s c ≡ b → list_any (fills n) (cond b (told s c ∷ []) []) ≡ stands_in s n c
fills_alone s n c true h = or_none (stands_in s n c)
fills_alone s n c false h = ap (λ o. option_map_or (λ m. eqb m n) o false) (sym (unchosen s c h))

filled_by : (s : Setting) (n : ℕ) (cs : List Candidate) → list_any (fills n) (told_all s cs) ≡ list_any (stands_in s n) cs
filled_by s n [] = refl
filled_by s n (c ∷ cs) =
    list_any-append (fills n) (told_by s c) (told_all s cs)
    ∙ (λ i. fills_alone s n c (is_chosen s c) refl i || filled_by s n cs i)

abbrev is_any : {X : Type 0} → List X → Bool
is_any xs = list_any (λ x. true) xs

some_in : (s : Setting) (n : ℕ) (cs : List Candidate) → list_any (stands_in s n) cs ≡ is_any (policies_in s cs n)
some_in s n [] = refl
some_in s n (c ∷ cs) = elim (stands_in s n c) as (λ v. (v || list_any (stands_in s n) cs)
    ≡ is_any (map (λ (x : Candidate). x.source.policy) (cond v (c ∷ filter (stands_in s n) cs) (filter (stands_in s n) cs)))) [
      | true ↦ refl
      | false ↦ some_in s n cs
    ]

best_there : (b : Policy) (ps : List Policy) → is_some (best_from has_lesser_id (Some b) ps) ≡ true
best_there b [] = refl
best_there b (p ∷ ps) = best_there (better has_lesser_id (Some b) p) ps

any_best : (ps : List Policy) → is_any ps ≡ is_some (best_from has_lesser_id None ps)
any_best [] = refl
any_best (p ∷ ps) = sym (best_there p ps)

filled : (s : Setting) (cs : List Candidate) (n : ℕ) → list_any (fills n) (told_all s cs) ≡ is_some (first_by has_lesser_id (policies_in s cs n))
filled s cs n =
    filled_by s n cs
    ∙ some_in s n cs
    ∙ any_best (policies_in s cs n)
    ∙ ap is_some (best_from_none has_lesser_id by_id (policies_in s cs n))

-- ---- the first

abbrev shown : (ℕ → Option Policy) → ℕ → Option (ℕ × Policy)
shown f n = option_map (λ p. (n, p)) (f n)

first_shown : (f : ℕ → Option Policy) (test : ℕ → Bool) → ((n : ℕ) → test n ≡ is_some (f n)) → (ks : List ℕ)
    → find test ks ≡ option_map (λ (d : ℕ × Policy). d.0) (first_some (map (shown f) ks))
first_shown f test agree [] = refl
first_shown f test agree (k ∷ ks) = at (f k) (agree k) (first_shown f test agree ks) where
  at : (o : Option Policy) → test k ≡ is_some o → find test ks ≡ option_map (λ (d : ℕ × Policy). d.0) (first_some (map (shown f) ks))
      → cond (test k) (Some k) (find test ks) ≡ option_map (λ (d : ℕ × Policy). d.0) (option_or (option_map (λ p. (k, p)) o) (first_some (map (shown f) ks)))
  at None e on = ap (λ v. cond v (Some k) (find test ks)) e ∙ on
  at (Some p) e on = ap (λ v. cond v (Some k) (find test ks)) e

pub deciding_cell : (s : Setting) (cs : List Candidate) → first_filled (told_all s cs) ≡ option_map (λ (d : ℕ × Policy). d.0) (decider s cs)
deciding_cell s cs = first_shown (λ n. first_by has_lesser_id (policies_in s cs n)) (λ n. list_any (fills n) (told_all s cs)) (filled s cs) cells
