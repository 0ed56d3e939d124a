-- The first of what candidates give, whatever their order.
use Rattle.std.proofs.Common.{◌≡◌, ◌↔◌, ◌||◌, ◌&&◌, ◌+◌, ℕ, ℤ, Bool, true, false, not, cond, nat_lt, eqb, int_lt, List, [], ◌∷◌, Option, Some, None, Contains, refl, ap, sym, subst, ◌∙◌, inl, inr, arith}
use Rattle.std.proofs.lemmas.Bool.Decides.{nat_tests}
use Rattle.std.proofs.lemmas.Int.{ints}
use Rattle.std.proofs.lemmas.Option.{none-some, same_Some}
use Rattle.std.specs.List.{cons_option, filter_map, find, list_any}
use Rattle.std.specs.Ordering.{int_eq}
use Rattle.std.specs.Prelude.{option_map}
use Rattle.rg_base.proofs.Lists.{Contains-cases, Contains-first, Contains-later, Contains-none, any_from, find_contained}
use Rattle.rg_policy.specs.Kinds.{normal, overriding}
use Rattle.rg_policy.specs.declared.policy.Policy.{Policy}
use Rattle.rg_evalr.specs.declared.frame.Effect.{Effect}
use Rattle.rg_evalr.specs.declared.frame.Effect.TheVariants.{Nothing, Allow, Deny}
use Rattle.rg_evalr.specs.declared.frame.Side.{Side}
use Rattle.rg_evalr.specs.declared.frame.Side.TheVariants.{Resource, Tag}
use Rattle.rg_facts.specs.Best.{best_from, better, ranked, ranks_before}
use Rattle.rg_facts.specs.Candidates.{Candidate, Setting, takes_part}
use Rattle.rg_facts.specs.Choices.{Choice, choice_rank, goes_before, offered, side_rank}
use Rattle.rg_facts.specs.Firsts.{first_by, is_first}
use Rattle.rg_facts.specs.Flow.{cell_in, cell_of, given}
use Rattle.rg_facts.specs.Laws.{AreTold, HaveSame}
use Rattle.rg_facts.specs.declared.choice.Kind.{Kind}
use Rattle.rg_facts.proofs.Least.{IsOrder, best_from_none, by_place, by_rank}
use Rattle.rg_facts.proofs.Taking.{unoffered, unranked}

-- ---- what is made of some elements

behind : {Y : Type 0} (o : Option Y) (ys : List Y) (y : Y) → Contains ys y → Contains (cons_option o ys) y
behind None ys y there = there
behind (Some w) ys y there = Contains-later w ys y there

pub Contains-filter_map : {X Y : Type 0} (f : X → Option Y) (xs : List X) (x : X) (y : Y) → Contains xs x → f x ≡ Some y → Contains (filter_map f xs) y
Contains-filter_map f [] x y h e = absurd (Contains-none x h)
Contains-filter_map f (z ∷ zs) x y h e = elim (Contains-cases z zs x h) [
  | inl same ↦ subst (λ o. Contains (cons_option o (filter_map f zs)) y) (sym (ap f same ∙ e)) (Contains-first y (filter_map f zs))
  | inr on ↦ behind (f z) (filter_map f zs) y (Contains-filter_map f zs x y on e)
]

pub Contains-filter_mapped : {X Y : Type 0} (f : X → Option Y) (xs : List X) (y : Y) → Contains (filter_map f xs) y → (x : X) × Contains xs x × (f x ≡ Some y)
Contains-filter_mapped f [] y h = absurd (Contains-none y h)
Contains-filter_mapped {X = X} {Y = Y} f (z ∷ zs) y h = at (f z) refl h (Contains-filter_mapped f zs y) where
  at : (o : Option Y) → f z ≡ o → Contains (cons_option o (filter_map f zs)) y → (Contains (filter_map f zs) y → (x : X) × Contains zs x × (f x ≡ Some y)) → (x : X) × Contains (z ∷ zs) x × (f x ≡ Some y)
  at None e there on = let r = on there in (r.0, Contains-later z zs r.0 r.1, r.2)
  at (Some w) e there on = elim (Contains-cases w (filter_map f zs) y there) [
    | inl same ↦ (z, Contains-first z zs, e ∙ ap Some same)
    | inr later ↦ (let r = on later in (r.0, Contains-later z zs r.0 r.1, r.2))
  ]

-- ---- the first of a list

not_true : (b : Bool) → not b ≡ true → b ≡ false
not_true true h = let bad : false ≡ true = h in cc
not_true false h = refl

none_of : {X : Type 0} (f : X → Bool) (xs : List X) (y : X) → list_any f xs ≡ false → Contains xs y → f y ≡ false
none_of f xs y h i = at (f y) refl where
  at : (b : Bool) → f y ≡ b → b ≡ false
  at true e = sym (any_from f xs y i e) ∙ h
  at false e = refl

first_there : {X : Type 0} (before : X → X → Bool) (xs : List X) (x : X) → first_by before xs ≡ Some x → Contains xs x
first_there before xs x h = (find_contained (is_first before xs) xs x h).0

none_before : {X : Type 0} (before : X → X → Bool) (xs : List X) (x y : X) → first_by before xs ≡ Some x → Contains xs y → before y x ≡ false
none_before before xs x y h i = none_of (λ z. before z x) xs y (not_true _ (find_contained (is_first before xs) xs x h).1) i

some_best : {X : Type 0} (before : X → X → Bool) (xs : List X) (b : X) → (x : X) × (best_from before (Some b) xs ≡ Some x)
some_best before [] b = (b, refl)
some_best before (x ∷ xs) b = some_best before xs (better before (Some b) x)

some_first : {X : Type 0} (before : X → X → Bool) → IsOrder before → (xs : List X) (y : X) → Contains xs y → (x : X) × (first_by before xs ≡ Some x)
some_first before o [] y i = absurd (Contains-none y i)
some_first before o (x ∷ xs) y i = let s = some_best before xs x in (s.0, sym (best_from_none before o (x ∷ xs)) ∙ s.1)

-- lists with the same things, of which two that go before neither are one, have the same first
first_same : {X : Type 0} (before : X → X → Bool) → IsOrder before → (xs ys : List X)
    → ((x y : X) → Contains ys x → Contains ys y → before x y ≡ false → before y x ≡ false → x ≡ y) → ((x : X) → Contains xs x ↔ Contains ys x) → first_by before xs ≡ first_by before ys
first_same {X = X} before o xs ys told same = at (first_by before xs) refl where
  none : (r : Option X) → first_by before ys ≡ r → first_by before xs ≡ None → None ≡ r
  none None e' e = refl
  none (Some y) e' e = let s = some_first before o xs y ((same y).1 (first_there before ys y e')) in absurd (none-some s.0 (sym e ∙ s.1))

  at : (r : Option X) → first_by before xs ≡ r → r ≡ first_by before ys
  at None e = none (first_by before ys) refl e
  at (Some x) e =
      let there = (same x).0 (first_there before xs x e) in
      let s = some_first before o ys x there in
      let other = first_there before ys s.0 s.1 in
      ap Some (told x s.0 there other (none_before before ys s.0 x s.1 there) (none_before before xs x s.0 e ((same s.0).1 other))) ∙ sym s.1

-- ---- the sides of cells and choices

abbrev is_tag_side : Side → Bool
is_tag_side Tag = true
is_tag_side Resource = false

abbrev is_tag_cell : ℕ → Bool
is_tag_cell n = eqb n 1 || (eqb n 3 || (eqb n 5 || eqb n 7))

abbrev of_side : Side → Option ℕ → Type 0
of_side side None = Unit {0}
of_side side (Some n) = is_tag_cell n ≡ is_tag_side side

cell_side : (priority : ℤ) (side : Side) (effect : Effect) → of_side side (cell_of priority side effect)
cell_side priority side effect = at (int_eq priority overriding) (int_eq priority normal) side effect where
  at : (u v : Bool) (side : Side) (effect : Effect) → of_side side (cond u (cell_in side effect) (cond v (option_map (λ n. n + 4) (cell_in side effect)) None))
  at true v Tag Deny = refl
  at true v Resource Deny = refl
  at true v Tag Allow = refl
  at true v Resource Allow = refl
  at true v Tag Nothing = tt
  at true v Resource Nothing = tt
  at false true Tag Deny = refl
  at false true Resource Deny = refl
  at false true Tag Allow = refl
  at false true Resource Allow = refl
  at false true Tag Nothing = tt
  at false true Resource Nothing = tt
  at false false side effect = tt

same_side : (x y : Side) → is_tag_side x ≡ is_tag_side y → x ≡ y
same_side Tag Tag e = refl
same_side Resource Resource e = refl
same_side Tag Resource e = let bad : true ≡ false = e in cc
same_side Resource Tag e = let bad : false ≡ true = e in cc

tied_cells : (n m : ℕ) (x y : ℤ) → (nat_lt n m || (eqb n m && int_lt x y)) ≡ false → (nat_lt m n || (eqb m n && int_lt y x)) ≡ false → n ≡ m
tied_cells n m x y h k = grind (arith, nat_tests)

tied_ids : (n m : ℕ) (x y : ℤ) → (nat_lt n m || (eqb n m && int_lt x y)) ≡ false → (nat_lt m n || (eqb m n && int_lt y x)) ≡ false → int_eq x y ≡ true
tied_ids n m x y h k = grind (arith, ints, nat_tests)

-- the cell of a rank, and its side
rank_cell : (s : Setting) (c : Candidate) (r : ℕ × Policy) → ranked s c ≡ Some r → (is_tag_cell r.0 ≡ is_tag_side c.source.side) × (c.source.policy ≡ r.1)
unfolding ranked
rank_cell s c r e = at (cell_of c.source.policy.priority c.source.side (given s c)) (cell_side c.source.policy.priority c.source.side (given s c)) e where
  at : (o : Option ℕ) → of_side c.source.side o → option_map (λ n. let x : ℕ × Policy = (n, c.source.policy) in x) o ≡ Some r → (is_tag_cell r.0 ≡ is_tag_side c.source.side) × (c.source.policy ≡ r.1)
  at None side none = absurd (none-some r none)
  at (Some n) side some =
      let made : ℕ × Policy = (n, c.source.policy) in
      let pair : made ≡ r = same_Some made r some in
      (ap (λ (x : ℕ × Policy). is_tag_cell x.0) (sym pair) ∙ side, ap (λ (x : ℕ × Policy). x.1) pair)

ranks_told : (s : Setting) (cs : List Candidate) → AreTold cs → (r t : ℕ × Policy) → Contains (filter_map (ranked s) cs) r → Contains (filter_map (ranked s) cs) t
    → ranks_before r t ≡ false → ranks_before t r ≡ false → r ≡ t
ranks_told s cs told r t i j h k =
    let c = Contains-filter_mapped (ranked s) cs r i in
    let d = Contains-filter_mapped (ranked s) cs t j in
    let rc = rank_cell s c.0 r c.2 in
    let td = rank_cell s d.0 t d.2 in
    let cell : r.0 ≡ t.0 = tied_cells r.0 t.0 r.1.id.0 t.1.id.0 h k in
    let side : c.0.source.side ≡ d.0.source.side = same_side c.0.source.side d.0.source.side (sym rc.0 ∙ ap is_tag_cell cell ∙ td.0) in
    let ids : int_eq c.0.source.policy.id.0 d.0.source.policy.id.0 ≡ true =
    (λ i. int_eq (rc.1 i).id.0 (td.1 i).id.0) ∙ tied_ids r.0 t.0 r.1.id.0 t.1.id.0 h k in
    let policy : r.1 ≡ t.1 = sym rc.1 ∙ told c.0 d.0 c.1 d.1 ids side ∙ td.1 in
    λ i. (cell i, policy i)

-- ---- choices

abbrev choice_key : ℕ → ℤ → ℕ → ℕ → ℤ → ℕ → Bool
choice_key r x k s y m = nat_lt r s || (eqb r s && (int_lt x y || (int_eq x y && nat_lt k m)))

tied_ranks : (r s : ℕ) (x y : ℤ) (k m : ℕ) → choice_key r x k s y m ≡ false → choice_key s y m r x k ≡ false → r ≡ s
tied_ranks r s x y k m h i = grind (arith, nat_tests)

tied_policies : (r s : ℕ) (x y : ℤ) (k m : ℕ) → choice_key r x k s y m ≡ false → choice_key s y m r x k ≡ false → int_eq x y ≡ true
tied_policies r s x y k m h i = grind (arith, ints, nat_tests)

tied_places : (r s : ℕ) (x y : ℤ) (k m : ℕ) → choice_key r x k s y m ≡ false → choice_key s y m r x k ≡ false → k ≡ m
tied_places r s x y k m h i = grind (arith, ints, nat_tests)

rank_side : (u v : Bool) (x y : Side) → cond u 0 2 + side_rank x ≡ cond v 0 2 + side_rank y → x ≡ y
rank_side u v Tag Tag e = refl
rank_side u v Resource Resource e = refl
rank_side true true Tag Resource e = absurd (omega (arith, e))
rank_side true false Tag Resource e = absurd (omega (arith, e))
rank_side false true Tag Resource e = absurd (omega (arith, e))
rank_side false false Tag Resource e = absurd (omega (arith, e))
rank_side true true Resource Tag e = absurd (omega (arith, e))
rank_side true false Resource Tag e = absurd (omega (arith, e))
rank_side false true Resource Tag e = absurd (omega (arith, e))
rank_side false false Resource Tag e = absurd (omega (arith, e))

offer_of : (s : Setting) (kind : Kind) (c : Candidate) (d : Choice) → offered s kind c ≡ Some d → (c.source.policy ≡ d.policy) × (c.source.side ≡ d.side)
unfolding offered
offer_of s kind c d e = when _ _ e where
  made : (o : Option ℕ) → option_map (λ n. let x : Choice = record { policy = c.source.policy; side = c.source.side; place = n } in x) o ≡ Some d → (c.source.policy ≡ d.policy) × (c.source.side ≡ d.side)
  made None none = absurd (none-some d none)
  made (Some n) some =
      let choice : Choice = record { policy = c.source.policy; side = c.source.side; place = n } in
      let same : choice ≡ d = same_Some choice d some in
      (ap (λ (x : Choice). x.policy) same, ap (λ (x : Choice). x.side) same)

  when : (b : Bool) (o : Option ℕ) → cond b (option_map (λ n. let x : Choice = record { policy = c.source.policy; side = c.source.side; place = n } in x) o) None ≡ Some d → (c.source.policy ≡ d.policy) × (c.source.side ≡ d.side)
  when true o some = made o some
  when false o none = absurd (none-some d none)

offers_told : (s : Setting) (kind : Kind) (cs : List Candidate) → AreTold cs → (x y : Choice) → Contains (filter_map (offered s kind) cs) x → Contains (filter_map (offered s kind) cs) y
    → goes_before x y ≡ false → goes_before y x ≡ false → x ≡ y
offers_told s kind cs told x y i j h k =
    let c = Contains-filter_mapped (offered s kind) cs x i in
    let d = Contains-filter_mapped (offered s kind) cs y j in
    let xc = offer_of s kind c.0 x c.2 in
    let yd = offer_of s kind d.0 y d.2 in
    let side : x.side ≡ y.side = rank_side (int_eq x.policy.priority overriding) (int_eq y.policy.priority overriding) x.side y.side
    (tied_ranks (choice_rank x) (choice_rank y) x.policy.id.0 y.policy.id.0 x.place y.place h k) in
    let ids : int_eq c.0.source.policy.id.0 d.0.source.policy.id.0 ≡ true =
    (λ i. int_eq (xc.0 i).id.0 (yd.0 i).id.0) ∙ tied_policies (choice_rank x) (choice_rank y) x.policy.id.0 y.policy.id.0 x.place y.place h k in
    let policy : x.policy ≡ y.policy = sym xc.0 ∙ told c.0 d.0 c.1 d.1 ids (xc.1 ∙ side ∙ sym yd.1) ∙ yd.0 in
    let place : x.place ≡ y.place = tied_places (choice_rank x) (choice_rank y) x.policy.id.0 y.policy.id.0 x.place y.place h k in
    λ i. record { policy = policy i; side = side i; place = place i }

-- ---- so the firsts are the same

-- what those that take part give is given by both lists, and no other gives anything
given_by_both : {Y : Type 0} (test : Candidate → Bool) (f : Candidate → Option Y) → ((c : Candidate) → test c ≡ false → f c ≡ None) → (xs ys : List Candidate)
    → ((c : Candidate) → test c ≡ true → Contains xs c → Contains ys c) → (y : Y) → Contains (filter_map f xs) y → Contains (filter_map f ys) y
given_by_both test f idle xs ys same y i =
    let c = Contains-filter_mapped f xs y i in
    at c.0 c.1 c.2 (test c.0) refl
  where
    at : (c : Candidate) → Contains xs c → f c ≡ Some y → (b : Bool) → test c ≡ b → Contains (filter_map f ys) y
    at c there e true t = Contains-filter_map f ys c y (same c t there) e
    at c there e false t = absurd (none-some y (sym (idle c t) ∙ e))

pub same_decider : (s : Setting) (these those : List Candidate) → AreTold those → HaveSame (takes_part s) these those
    → first_by ranks_before (filter_map (ranked s) these) ≡ first_by ranks_before (filter_map (ranked s) those)
same_decider s these those told same =
    first_same ranks_before by_rank (filter_map (ranked s) these) (filter_map (ranked s) those) (ranks_told s those told) (λ r. (
      given_by_both (takes_part s) (ranked s) (unranked s) these those (λ c t. (same c t).0) r,
      given_by_both (takes_part s) (ranked s) (unranked s) those these (λ c t. (same c t).1) r,
    ))

pub same_choice : (s : Setting) (kind : Kind) (these those : List Candidate) → AreTold those → HaveSame (takes_part s) these those
    → first_by goes_before (filter_map (offered s kind) these) ≡ first_by goes_before (filter_map (offered s kind) those)
same_choice s kind these those told same =
    first_same goes_before by_place (filter_map (offered s kind) these) (filter_map (offered s kind) those) (offers_told s kind those told) (λ y. (
      given_by_both (takes_part s) (offered s kind) (unoffered s kind) these those (λ c t. (same c t).0) y,
      given_by_both (takes_part s) (offered s kind) (unoffered s kind) those these (λ c t. (same c t).1) y,
    ))
