-- For proofs alone: filters, look-ups and repeats of lists in which one element was put, or from which some were taken.
use Rattle.std.proofs.Common.{◌≡◌, ◌||◌, Bool, true, false, not, cond, List, [], ◌∷◌, ◌++◌, map, Some, None, option_map, Contains, length, ◌≤◌, arith, refl, ap, sym, ◌∙◌, subst, inl, inr}
use Rattle.std.specs.List.{filter, find, list_all, list_any}
use Rattle.std.proofs.lemmas.Bool.{and_from, and_parts, false≢true}
use Rattle.std.proofs.lemmas.List.{append-nil}
use Rattle.std.proofs.lemmas.List.Elements.{Contains-append_left, filter-append}
use Rattle.std.proofs.lemmas.List.Folds.{list_all-append}
use Rattle.std.proofs.lemmas.Option.{none-some, same_Some}
use Rattle.rg_base.proofs.Lists.{Contains-cases, Contains-filtered, Contains-first, Contains-later, Contains-none, all_distinct-map, all_from, all_holds, any_from, any_holds, find_contained, list_any_agree}
use Rattle.rg_base.specs.Texts.{all_distinct}
use Rattle.rg_cmd.specs.Lists.{put, without}

abbrev pub replaced : {X : Type 0} → (X → Bool) → X → List X → List X
replaced same x xs = map (λ y. cond (same y) x y) xs

-- a Bool, with what it is
pub case {ℓ} : (P : Bool → Type ℓ) (b : Bool) → (b ≡ true → P true) → (b ≡ false → P false) → P b
case P true t f = t refl
case P false t f = f refl

module _ {X : Type 0} (same f : X → Bool) (x : X) where
  -- those that are replaced pass the test where the new one does
  abbrev pub Agree : List X → Type 0
  Agree xs = (y : X) → Contains xs y → same y ≡ true → f y ≡ f x

  pub filter_replaced_in : (xs : List X) → f x ≡ true → Agree xs → filter f (replaced same x xs) ≡ replaced same x (filter f xs)
  filter_replaced_in [] fx agree = refl
  filter_replaced_in (y ∷ xs) fx agree =
      let rest = filter_replaced_in xs fx (λ z there. agree z (Contains-later y xs z there)) in
      case (λ b. (same y ≡ b) → filter f (cond b x y ∷ replaced same x xs) ≡ replaced same x (filter f (y ∷ xs))) (same y)
      (λ _ is. rw (fx, agree y (Contains-first y xs) is ∙ fx, is) (ap (λ zs. x ∷ zs) rest))
      (λ _ is. case (λ c. f y ≡ c → cond c (y ∷ filter f (replaced same x xs)) (filter f (replaced same x xs)) ≡ replaced same x (cond c (y ∷ filter f xs) (filter f xs))) (f y)
      (λ _ _. rw is (ap (λ zs. y ∷ zs) rest)) (λ _ _. rest) refl)
      refl

  pub filter_replaced_out : (xs : List X) → f x ≡ false → Agree xs → filter f (replaced same x xs) ≡ filter f xs
  filter_replaced_out [] fx agree = refl
  filter_replaced_out (y ∷ xs) fx agree =
      let rest = filter_replaced_out xs fx (λ z there. agree z (Contains-later y xs z there)) in
      case (λ b. (same y ≡ b) → filter f (cond b x y ∷ replaced same x xs) ≡ filter f (y ∷ xs)) (same y)
      (λ _ is. rw (fx, agree y (Contains-first y xs) is ∙ fx) rest)
      (λ _ is. ap (λ zs. cond (f y) (y ∷ zs) zs) rest)
      refl

  pub any_filtered : (xs : List X) → f x ≡ true → Agree xs → list_any same (filter f xs) ≡ list_any same xs
  any_filtered [] fx agree = refl
  any_filtered (y ∷ xs) fx agree =
      let rest = any_filtered xs fx (λ z there. agree z (Contains-later y xs z there)) in
      case (λ b. (same y ≡ b) → list_any same (cond (f y) (y ∷ filter f xs) (filter f xs)) ≡ (b || list_any same xs)) (same y)
      (λ _ is. rw (agree y (Contains-first y xs) is ∙ fx, is) refl)
      (λ _ is. case (λ c. list_any same (cond c (y ∷ filter f xs) (filter f xs)) ≡ list_any same xs) (f y) (λ _. rw is rest) (λ _. rest))
      refl

  pub filter_put_in : (xs : List X) → f x ≡ true → Agree xs → filter f (put same x xs) ≡ put same x (filter f xs)
  filter_put_in xs fx agree =
      case (λ b. list_any same xs ≡ b → filter f (cond b (replaced same x xs) (xs ++ x ∷ [])) ≡ put same x (filter f xs)) (list_any same xs)
      (λ _ is. rw (any_filtered xs fx agree, is) (filter_replaced_in xs fx agree))
      (λ _ is. rw (any_filtered xs fx agree, is) (filter-append f xs (x ∷ []) ∙ ap (λ b. filter f xs ++ cond b (x ∷ []) []) fx))
      refl

  pub filter_put_out : (xs : List X) → f x ≡ false → Agree xs → filter f (put same x xs) ≡ filter f xs
  filter_put_out xs fx agree =
      case (λ b. filter f (cond b (replaced same x xs) (xs ++ x ∷ [])) ≡ filter f xs) (list_any same xs)
      (λ _. filter_replaced_out xs fx agree)
      (λ _. filter-append f xs (x ∷ []) ∙ ap (λ b. filter f xs ++ cond b (x ∷ []) []) fx ∙ append-nil (filter f xs))

  -- what is taken away failed the test
  pub filter_without_out : (xs : List X) → ((y : X) → Contains xs y → same y ≡ true → f y ≡ false) → filter f (without same xs) ≡ filter f xs
  filter_without_out [] apart = refl
  filter_without_out (y ∷ xs) apart =
      let rest = filter_without_out xs (λ z there. apart z (Contains-later y xs z there)) in
      case (λ b. same y ≡ b → filter f (cond (not b) (y ∷ without same xs) (without same xs)) ≡ filter f (y ∷ xs)) (same y)
      (λ _ is. rw (apart y (Contains-first y xs) is) rest)
      (λ _ is. ap (λ zs. cond (f y) (y ∷ zs) zs) rest)
      refl

-- taking away and filtering may change places
pub filter_without : {X : Type 0} (same f : X → Bool) (xs : List X) → filter f (without same xs) ≡ without same (filter f xs)
filter_without same f [] = refl
filter_without same f (y ∷ xs) =
    case (λ b. same y ≡ b → filter f (cond (not b) (y ∷ without same xs) (without same xs)) ≡ without same (cond (f y) (y ∷ filter f xs) (filter f xs))) (same y)
    (λ _ is. case (λ c. filter f (without same xs) ≡ without same (cond c (y ∷ filter f xs) (filter f xs))) (f y) (λ _. rw is (filter_without same f xs)) (λ _. filter_without same f xs))
    (λ _ is. case (λ c. cond c (y ∷ filter f (without same xs)) (filter f (without same xs)) ≡ without same (cond c (y ∷ filter f xs) (filter f xs))) (f y)
    (λ _. rw is (ap (λ zs. y ∷ zs) (filter_without same f xs))) (λ _. filter_without same f xs))
    refl

-- ---- look-ups

module _ {X : Type 0} (p : X → Bool) where
  pub find_append : (xs ys : List X) (x : X) → find p xs ≡ Some x → find p (xs ++ ys) ≡ Some x
  find_append [] ys x is = absurd (none-some x is)
  find_append (y ∷ xs) ys x is =
      case (λ b. cond b (Some y) (find p xs) ≡ Some x → cond b (Some y) (find p (xs ++ ys)) ≡ Some x) (p y)
      (λ _ found. found)
      (λ _ found. find_append xs ys x found)
      is

  -- a map that keeps the answer of the test
  pub find_mapped : (g : X → X) → ((y : X) → p (g y) ≡ p y) → (xs : List X) → find p (map g xs) ≡ option_map g (find p xs)
  find_mapped g keeps [] = refl
  find_mapped g keeps (y ∷ xs) = rw (keeps y) (
      case (λ b. cond b (Some (g y)) (find p (map g xs)) ≡ option_map g (cond b (Some y) (find p xs))) (p y) (λ _. refl) (λ _. find_mapped g keeps xs))

  module _ (same : X → Bool) (apart : (y : X) → same y ≡ true → p y ≡ false) where
    pub find_without : (xs : List X) → find p (without same xs) ≡ find p xs
    find_without [] = refl
    find_without (y ∷ xs) =
        case (λ b. same y ≡ b → find p (cond (not b) (y ∷ without same xs) (without same xs)) ≡ find p (y ∷ xs)) (same y)
        (λ _ is. rw (apart y is) (find_without xs))
        (λ _ is. ap (λ o. cond (p y) (Some y) o) (find_without xs))
        refl

    pub find_replaced : (x : X) → p x ≡ false → (xs : List X) → find p (replaced same x xs) ≡ find p xs
    find_replaced x px [] = refl
    find_replaced x px (y ∷ xs) =
        case (λ b. same y ≡ b → find p (cond b x y ∷ replaced same x xs) ≡ find p (y ∷ xs)) (same y)
        (λ _ is. rw (px, apart y is) (find_replaced x px xs))
        (λ _ is. ap (λ o. cond (p y) (Some y) o) (find_replaced x px xs))
        refl

    pub find_appended : (x : X) → p x ≡ false → (xs : List X) → find p (xs ++ x ∷ []) ≡ find p xs
    find_appended x px [] = rw px refl
    find_appended x px (y ∷ xs) = ap (λ o. cond (p y) (Some y) o) (find_appended x px xs)

    pub find_put : (x : X) → p x ≡ false → (xs : List X) → find p (put same x xs) ≡ find p xs
    find_put x px xs = case (λ b. find p (cond b (replaced same x xs) (xs ++ x ∷ [])) ≡ find p xs) (list_any same xs) (λ _. find_replaced x px xs) (λ _. find_appended x px xs)

-- what is there is found
pub find_some : {X : Type 0} (p : X → Bool) (xs : List X) → list_any p xs ≡ true → (x : X) × (find p xs ≡ Some x)
find_some p [] h = absurd (false≢true h)
find_some p (y ∷ xs) h =
    case (λ b. p y ≡ b → (b || list_any p xs) ≡ true → (x : _) × (cond b (Some y) (find p xs) ≡ Some x)) (p y)
    (λ _ _ _. (y, refl)) (λ _ _ rest. find_some p xs rest) refl h

pub some_there : {X : Type 0} (p : X → Bool) (xs : List X) (x : X) → find p xs ≡ Some x → list_any p xs ≡ true
some_there p xs x h = let r = find_contained p xs x h in any_from p xs x r.0 r.1

pub find_none : {X : Type 0} (p : X → Bool) (xs : List X) → find p xs ≡ None → (x : X) → Contains xs x → p x ≡ true → ⊥
find_none p xs none x there is = let r = find_some p xs (any_from p xs x there is) in none-some r.0 (sym none ∙ r.1)

-- no element of a list without any that passes does
pub none_passes : {X : Type 0} (p : X → Bool) (xs : List X) → list_any p xs ≡ false → (x : X) → Contains xs x → p x ≡ false
none_passes p xs none x there = case (λ b. p x ≡ b → b ≡ false) (p x) (λ _ is. absurd (false≢true (sym none ∙ any_from p xs x there is))) (λ _ _. refl) refl

pub none_from : {X : Type 0} (p : X → Bool) (xs : List X) → ((x : X) → Contains xs x → p x ≡ false) → list_any p xs ≡ false
none_from p xs fails = case (λ b. list_any p xs ≡ b → b ≡ false) (list_any p xs) (λ _ some. let r = any_holds p xs some in absurd (false≢true (sym (fails r.0 r.1) ∙ r.2))) (λ _ _. refl) refl

-- ---- all elements

-- what holds of all holds of those that pass a test, and there it may say more
pub filter_all : {X : Type 0} (p q r : X → Bool) → ((x : X) → p x ≡ true → q x ≡ true → r x ≡ true) → (xs : List X) → list_all q xs ≡ true → list_all r (filter p xs) ≡ true
filter_all p q r says xs h = all_from r (filter p xs) (λ x there. let f = Contains-filtered p xs x there in says x f.1 (all_holds q xs h x f.0))

-- what holds of all, weakened
pub all_weaker : {X : Type 0} (q r : X → Bool) (xs : List X) → ((x : X) → Contains xs x → q x ≡ true → r x ≡ true) → list_all q xs ≡ true → list_all r xs ≡ true
all_weaker q r xs says h = all_from r xs (λ x there. says x there (all_holds q xs h x there))

pub all_snoc : {X : Type 0} (q : X → Bool) (xs : List X) (x : X) → list_all q xs ≡ true → q x ≡ true → list_all q (xs ++ x ∷ []) ≡ true
all_snoc q xs x h its = list_all-append q xs (x ∷ []) ∙ and_from (list_all q xs) (list_all q (x ∷ [])) h (and_from (q x) true its refl)

module _ {X : Type 0} (q same : X → Bool) (x : X) where
  all_replaced : (ys : List X) → list_all q ys ≡ true → q x ≡ true → list_all q (replaced same x ys) ≡ true
  all_replaced [] all its = refl
  all_replaced (y ∷ ys) all its =
      let both = and_parts (q y) (list_all q ys) all in
      and_from (q (cond (same y) x y)) (list_all q (replaced same x ys)) (case (λ b. q (cond b x y) ≡ true) (same y) (λ _. its) (λ _. both.0)) (all_replaced ys both.1 its)

  -- what holds of all and of the new one holds of all that are there after it is put
  pub all_put : (xs : List X) → list_all q xs ≡ true → q x ≡ true → list_all q (put same x xs) ≡ true
  all_put xs h its = case (λ b. list_all q (cond b (replaced same x xs) (xs ++ x ∷ [])) ≡ true) (list_any same xs)
      (λ _. all_replaced xs h its) (λ _. all_snoc q xs x h its)

  any_replaced : ((y : X) → same y ≡ true → q y ≡ true → q x ≡ true) → (ys : List X) → list_any q ys ≡ true → list_any q (replaced same x ys) ≡ true
  any_replaced keeps [] h = h
  any_replaced keeps (y ∷ ys) h = case (λ b. q y ≡ b → (b || list_any q ys) ≡ true → (q (cond (same y) x y) || list_any q (replaced same x ys)) ≡ true) (q y)
      (λ _ is _. case (λ c. same y ≡ c → (q (cond c x y) || list_any q (replaced same x ys)) ≡ true) (same y)
      (λ _ its. ap (λ b. b || list_any q (replaced same x ys)) (keeps y its is)) (λ _ _. ap (λ b. b || list_any q (replaced same x ys)) is) refl)
      (λ _ _ rest. case (λ c. (c || list_any q (replaced same x ys)) ≡ true) (q (cond (same y) x y)) (λ _. refl) (λ _. any_replaced keeps ys rest))
      refl h

  -- what some element passes some passes after the new one is put, if it passes what those do that it replaces
  pub any_put : ((y : X) → same y ≡ true → q y ≡ true → q x ≡ true) → (xs : List X) → list_any q xs ≡ true → list_any q (put same x xs) ≡ true
  any_put keeps xs h = case (λ b. list_any q (cond b (replaced same x xs) (xs ++ x ∷ [])) ≡ true) (list_any same xs)
      (λ _. any_replaced keeps xs h)
      (λ _. let r = any_holds q xs h in any_from q (xs ++ x ∷ []) r.0 (Contains-append_left xs (x ∷ []) r.0 r.1) r.2)

-- ---- elements without repeats

any_of_both : {X : Type 0} (q : X → Bool) (xs ys : List X) → list_any q (xs ++ ys) ≡ (list_any q xs || list_any q ys)
any_of_both q [] ys = refl
any_of_both q (x ∷ xs) ys = case (λ b. (b || list_any q (xs ++ ys)) ≡ ((b || list_any q xs) || list_any q ys)) (q x) (λ _. refl) (λ _. any_of_both q xs ys)

pub not_true : (b : Bool) → not b ≡ true → b ≡ false
not_true false h = refl
not_true true h = sym h

pub or_false : (a b : Bool) → (a || b) ≡ false → (a ≡ false) × (b ≡ false)
or_false true b h = absurd (false≢true (sym h))
or_false false b h = (refl, h)

-- none of fewer is the same
pub none_filtered : {X : Type 0} (p q : X → Bool) (xs : List X) → list_any q xs ≡ false → list_any q (filter p xs) ≡ false
none_filtered p q xs none = case (λ b. list_any q (filter p xs) ≡ b → b ≡ false) (list_any q (filter p xs))
    (λ _ some. let r = any_holds q (filter p xs) some in absurd (false≢true (sym none ∙ any_from q xs r.0 (Contains-filtered p xs r.0 r.1).0 r.2)))
    (λ _ _. refl) refl

module _ {X : Type 0} (same : X → X → Bool) where
  pub distinct_filtered : (p : X → Bool) (xs : List X) → all_distinct same xs ≡ true → all_distinct same (filter p xs) ≡ true
  distinct_filtered p [] h = refl
  distinct_filtered p (x ∷ xs) h =
      let both = and_parts (not (list_any (same x) xs)) (all_distinct same xs) h in
      let rest = distinct_filtered p xs both.1 in
      case (λ b. all_distinct same (cond b (x ∷ filter p xs) (filter p xs)) ≡ true) (p x)
      (λ _. and_from (not (list_any (same x) (filter p xs))) (all_distinct same (filter p xs)) (ap not (none_filtered p (same x) xs (not_true (list_any (same x) xs) both.0))) rest)
      (λ _. rest)

  -- of two with one id in a list without repeats the one is the other
  pub one_of_id : (has : X → Bool) → ((x y : X) → has x ≡ true → has y ≡ true → same x y ≡ true) → (xs : List X) → all_distinct same xs ≡ true
      → (p q : X) → find has xs ≡ Some p → Contains xs q → has q ≡ true → q ≡ p
  one_of_id has shared [] distinct p q found there is = absurd (Contains-none q there)
  one_of_id has shared (x ∷ xs) distinct p q found there is =
      let both = and_parts (not (list_any (same x) xs)) (all_distinct same xs) distinct in
      case (λ b. has x ≡ b → cond b (Some x) (find has xs) ≡ Some p → q ≡ p) (has x)
      (λ _ own some. elim (Contains-cases x xs q there) [
        | inl here ↦ sym here ∙ same_Some x p some
        | inr later ↦ absurd (false≢true (sym (not_true (list_any (same x) xs) both.0) ∙ any_from (same x) xs q later (shared x q own is)))
      ])
      (λ _ other some. elim (Contains-cases x xs q there) [ inl here ↦ absurd (false≢true (sym other ∙ ap has here ∙ is)) | inr later ↦ one_of_id has shared xs both.1 p q some later is ])
      refl found

  module _ (turn : (x y : X) → same x y ≡ same y x) where
    -- one that is none of these may stand among them
    pub distinct_mid : (x : X) (xs ys : List X) → all_distinct same (xs ++ ys) ≡ true → list_any (same x) xs ≡ false → list_any (same x) ys ≡ false → all_distinct same (xs ++ x ∷ ys) ≡ true
    distinct_mid x [] ys h left right = and_from (not (list_any (same x) ys)) (all_distinct same ys) (ap not right) h
    distinct_mid x (a ∷ xs) ys h left right =
        let both = and_parts (not (list_any (same a) (xs ++ ys))) (all_distinct same (xs ++ ys)) h in
        let apart = or_false (same x a) (list_any (same x) xs) left in
        let none = or_false (list_any (same a) xs) (list_any (same a) ys) (sym (any_of_both (same a) xs ys) ∙ not_true (list_any (same a) (xs ++ ys)) both.0) in
        and_from (not (list_any (same a) (xs ++ x ∷ ys))) (all_distinct same (xs ++ x ∷ ys))
        (ap not (any_of_both (same a) xs (x ∷ ys) ∙ ap (λ b. b || (same a x || list_any (same a) ys)) none.0 ∙ ap (λ b. b || list_any (same a) ys) (turn a x ∙ apart.0) ∙ none.1))
        (distinct_mid x xs ys both.1 apart.1 right)

    pub distinct_snoc : (xs : List X) (x : X) → all_distinct same xs ≡ true → list_any (same x) xs ≡ false → all_distinct same (xs ++ x ∷ []) ≡ true
    distinct_snoc xs x h none = distinct_mid x xs [] (ap (all_distinct same) (append-nil xs) ∙ h) none refl

    -- two parts that have nothing in common
    pub distinct_parts : (p q : X → Bool) → ((x : X) → p x ≡ true → q x ≡ false) → (xs : List X) → all_distinct same xs ≡ true → all_distinct same (filter p xs ++ filter q xs) ≡ true
    distinct_parts p q apart [] h = refl
    distinct_parts p q apart (x ∷ xs) h =
        let both = and_parts (not (list_any (same x) xs)) (all_distinct same xs) h in
        let none = not_true (list_any (same x) xs) both.0 in
        let rest = distinct_parts p q apart xs both.1 in
        case (λ b. p x ≡ b → all_distinct same (cond b (x ∷ filter p xs) (filter p xs) ++ filter q (x ∷ xs)) ≡ true) (p x)
        (λ _ is. subst (λ b. all_distinct same (x ∷ (filter p xs ++ cond b (x ∷ filter q xs) (filter q xs))) ≡ true) (sym (apart x is))
        (and_from (not (list_any (same x) (filter p xs ++ filter q xs))) (all_distinct same (filter p xs ++ filter q xs))
        (ap not (any_of_both (same x) (filter p xs) (filter q xs) ∙ ap (λ b. b || list_any (same x) (filter q xs)) (none_filtered p (same x) xs none) ∙ none_filtered q (same x) xs none)) rest))
        (λ _ _. case (λ b. all_distinct same (filter p xs ++ cond b (x ∷ filter q xs) (filter q xs)) ≡ true) (q x)
        (λ _. distinct_mid x (filter p xs) (filter q xs) rest (none_filtered p (same x) xs none) (none_filtered q (same x) xs none))
        (λ _. rest))
        refl

-- elements are put in the place of those with the same mark, so the marks stay
module _ {X I : Type 0} (mark : X → I) (alike : I → I → Bool) (turn : (i j : I) → alike i j ≡ alike j i) (has : X → Bool) (x : X) (marked : (y : X) → has y ≡ true → mark x ≡ mark y) (own : (y : X) → alike (mark x) (mark y) ≡ has y) where
  marks_replaced : (xs : List X) → map mark (replaced has x xs) ≡ map mark xs
  marks_replaced [] = refl
  marks_replaced (y ∷ ys) = λ i. case (λ b. has y ≡ b → mark (cond b x y) ≡ mark y) (has y) (λ _ is. marked y is) (λ _ _. refl) refl i ∷ marks_replaced ys i

  pub distinct_put : (xs : List X) → all_distinct (λ a b. alike (mark a) (mark b)) xs ≡ true → all_distinct (λ a b. alike (mark a) (mark b)) (put has x xs) ≡ true
  distinct_put xs h = case (λ b. list_any has xs ≡ b → all_distinct (λ a b. alike (mark a) (mark b)) (cond b (replaced has x xs) (xs ++ x ∷ [])) ≡ true) (list_any has xs)
      (λ _ _. sym (all_distinct-map alike mark (replaced has x xs)) ∙ ap (all_distinct alike) (marks_replaced xs) ∙ all_distinct-map alike mark xs ∙ h)
      (λ _ none. distinct_snoc (λ a b. alike (mark a) (mark b)) (λ a b. turn (mark a) (mark b)) xs x h (list_any_agree (λ y. alike (mark x) (mark y)) has own xs ∙ none))
      refl

-- ---- how many pass

pub none_left : {X : Type 0} (p : X → Bool) (xs : List X) → ((x : X) → Contains xs x → p x ≡ false) → length (filter p xs) ≡ 0
none_left p [] fails = refl
none_left p (x ∷ xs) fails = ap (λ b. length (cond b (x ∷ filter p xs) (filter p xs))) (fails x (Contains-first x xs)) ∙ none_left p xs (λ y there. fails y (Contains-later x xs y there))

-- at most one passes a test whose passers are the same
pub at_most_one : {X : Type 0} (same : X → X → Bool) (p : X → Bool) → ((x y : X) → p x ≡ true → p y ≡ true → same x y ≡ true) → (xs : List X) → all_distinct same xs ≡ true → length (filter p xs) ≤ 1
at_most_one same p shared [] h = omega arith
at_most_one same p shared (x ∷ xs) h =
    let both = and_parts (not (list_any (same x) xs)) (all_distinct same xs) h in
    case (λ b. p x ≡ b → length (cond b (x ∷ filter p xs) (filter p xs)) ≤ 1) (p x)
    (λ _ is.
    let none = none_left p xs (λ y there. case (λ b. p y ≡ b → b ≡ false) (p y)
    (λ _ its. absurd (false≢true (sym (none_passes (same x) xs (not_true (list_any (same x) xs) both.0) y there) ∙ shared x y is its))) (λ _ _. refl) refl) in omega (arith, none))
    (λ _ _. at_most_one same p shared xs both.1) refl

-- the new one is found in the place of the first that is the same
pub find_own : {X : Type 0} (same : X → Bool) (x : X) → same x ≡ true → (xs : List X) → list_any same xs ≡ true → find same (replaced same x xs) ≡ Some x
find_own same x its [] h = absurd (false≢true h)
find_own same x its (y ∷ xs) h =
    case (λ b. same y ≡ b → (b || list_any same xs) ≡ true → find same (cond b x y ∷ replaced same x xs) ≡ Some x) (same y)
    (λ _ _ _. ap (λ b. cond b (Some x) (find same (replaced same x xs))) its)
    (λ _ is rest. ap (λ b. cond b (Some y) (find same (replaced same x xs))) is ∙ find_own same x its xs rest)
    refl h
