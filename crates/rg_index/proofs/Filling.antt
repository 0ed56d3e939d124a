-- Tries that are filled key by key, and the edits that are counted on the way.
use Rattle.std.proofs.Common.{◌≡◌, ◌+◌, ◌<◌, ◌≤◌, ◌++◌, ℕ, ℤ, List, [], ◌∷◌, true, false, Bool, if◌then◌else◌, get_or, length, map, take, refl, sym, ap, subst, ◌∙◌, arith}
use Rattle.std.proofs.lemmas.List.{length-take-le, map-append}
use Rattle.std.proofs.lemmas.List.Sums.{fold-append, sum_by_more, sum_by_more_le}
use Rattle.std.specs.List.{sum_by}
use Rattle.rg_base.proofs.Lists.{take_next}
use Rattle.rg_base.specs.Counts.{Counts, one_edit}
use Rattle.rg_defs.specs.declared.service_def.Level.{Level}
use Rattle.rg_policy.specs.declared.policy.PolicyResource.{PolicyResource}
use Rattle.rg_resmatch.specs.declared.reach.Reach.{Reach}
use Rattle.rg_resmatch.specs.declared.reach.Reach.TheVariants.{Exact, Down}
use Rattle.rg_resmatch.specs.Tests.{names_level}
use Rattle.rg_trie.specs.declared.pair.Pair.{Pair}
use Rattle.rg_trie.specs.Edited.{with_pair, without_pair}
use Rattle.rg_index.specs.Filing.{EditsWithin, numbered}
use Rattle.rg_index.specs.Kept.{lacked_keys, with_all, without_all}

-- ---- one more key

abbrev pub keyed : List ℕ → ℤ → ℕ → Pair
keyed key id place = record { key = key; entry = record { id = id; place = place } }

numbered_push : (id : ℤ) (place : ℕ) (keys : List (List ℕ)) (key : List ℕ) → numbered id place (keys ++ key ∷ []) ≡ numbered id place keys ++ keyed key id (place + length keys) ∷ []
numbered_push id place [] key = let none : List (List ℕ) = [] in let e : place ≡ place + length none = omega arith in ap (λ n. keyed key id n ∷ []) e
numbered_push id place (k ∷ keys) key =
    let e : place + 1 + length keys ≡ place + length (k ∷ keys) = omega arith in
    ap (λ ps. keyed k id place ∷ ps) (numbered_push id (place + 1) keys key ∙ ap (λ n. numbered id (place + 1) keys ++ keyed key id n ∷ []) e)

numbered_more : (id : ℤ) (keys : List (List ℕ)) (i : ℕ) (key : List ℕ) → i < length keys → key ≡ get_or keys i key → numbered id 0 (take (i + 1) keys) ≡ numbered id 0 (take i keys) ++ keyed key id i ∷ []
numbered_more id keys i key l is =
    let long = length-take-le i keys (omega arith) in
    let e : 0 + length (take i keys) ≡ i = omega (arith, long) in
    ap (numbered id 0) (take_next i keys key l is) ∙ numbered_push id 0 (take i keys) key ∙ ap (λ n. numbered id 0 (take i keys) ++ keyed key id n ∷ []) e

pub filed_more : (t : List Pair) (id : ℤ) (keys : List (List ℕ)) (i : ℕ) (key : List ℕ) → i < length keys → key ≡ get_or keys i key
    → with_all t (numbered id 0 (take (i + 1) keys)) ≡ with_pair (keyed key id i) (with_all t (numbered id 0 (take i keys)))
filed_more t id keys i key l is =
    ap (with_all t) (numbered_more id keys i key l is) ∙ fold-append (λ held p. with_pair p held) t (numbered id 0 (take i keys)) (keyed key id i ∷ [])

pub taken_more : (t : List Pair) (id : ℤ) (keys : List (List ℕ)) (i : ℕ) (key : List ℕ) → i < length keys → key ≡ get_or keys i key
    → without_all t (numbered id 0 (take (i + 1) keys)) ≡ without_pair (keyed key id i) (without_all t (numbered id 0 (take i keys)))
taken_more t id keys i key l is =
    ap (without_all t) (numbered_more id keys i key l is) ∙ fold-append (λ held p. without_pair p held) t (numbered id 0 (take i keys)) (keyed key id i ∷ [])

-- ---- a level that the resources lack

pub not_lacked : (reach : Reach) (l : Level) (rs : List PolicyResource) → names_level rs l.name ≡ true → lacked_keys reach l rs ≡ []
not_lacked Exact l rs e = refl
not_lacked Down l rs e = ap (λ (b : Bool). if b then [] else [] ∷ []) e

pub is_lacked : (reach : Reach) (l : Level) (rs : List PolicyResource) → reach ≡ Down → names_level rs l.name ≡ false → lacked_keys reach l rs ≡ [] ∷ []
is_lacked reach l rs down e = ap (λ r. lacked_keys r l rs) down ∙ ap (λ (b : Bool). if b then [] else [] ∷ []) e

-- ---- one more element

pub mapped_more : {X Y : Type 0} (f : X → Y) (xs : List X) (ys : List Y) (i : ℕ) (x : X) (y : Y) → ys ≡ map f (take i xs) → y ≡ f x → i < length xs → x ≡ get_or xs i x → ys ++ y ∷ [] ≡ map f (take (i + 1) xs)
mapped_more f xs ys i x y so e l is = (λ k. so k ++ e k ∷ []) ∙ sym (map-append f (take i xs) (x ∷ [])) ∙ ap (map f) (sym (take_next i xs x l is))

-- ---- counted edits

pub no_edit : (a : Counts) → EditsWithin 0 a a
no_edit a = record { edits = omega arith; compiles = refl; tries = refl }

pub more_allowed : (m n : ℕ) (a b : Counts) → m ≤ n → EditsWithin m a b → EditsWithin n a b
more_allowed m n a b l h = let e = h.edits in record { edits = omega (arith, e, l); compiles = h.compiles; tries = h.tries }

pub both_edits : (m n : ℕ) (a b c : Counts) → EditsWithin m a b → EditsWithin n b c → EditsWithin (m + n) a c
both_edits m n a b c h k =
    let e = h.edits in
    let f = k.edits in
    record { edits = omega (arith, e, f); compiles = k.compiles ∙ h.compiles; tries = k.tries ∙ h.tries }

pub one_more : (n : ℕ) (a b c : Counts) → EditsWithin n a b → c ≡ one_edit b → EditsWithin (n + 1) a c
one_more n a b c h e =
    let f = h.edits in
    subst (EditsWithin (n + 1) a) (sym e) (record { edits = omega (arith, f); compiles = h.compiles; tries = h.tries })

pub sum_more : {X : Type 0} (f : X → ℕ) (xs : List X) (i : ℕ) (x : X) (a b c : Counts) → i < length xs → x ≡ get_or xs i x → EditsWithin (sum_by f (take i xs)) a b → EditsWithin (f x) b c → EditsWithin (sum_by f (take (i + 1) xs)) a c
sum_more f xs i x a b c l is h k =
    let sum = sum_by_more f xs i x l in
    let here = ap f is in
    more_allowed (sum_by f (take i xs) + f x) (sum_by f (take (i + 1) xs)) a c (omega (arith, sum, here)) (both_edits (sum_by f (take i xs)) (f x) a b c h k)

pub sum_upto : {X : Type 0} (f : X → ℕ) (xs : List X) (i : ℕ) (x : X) (a b c : Counts) → i < length xs → x ≡ get_or xs i x → EditsWithin (sum_by f (take i xs)) a b → EditsWithin (f x) b c → EditsWithin (sum_by f xs) a c
sum_upto f xs i x a b c l is h k =
    let sum = sum_by_more_le f xs i x l in
    let here = ap f is in
    more_allowed (sum_by f (take i xs) + f x) (sum_by f xs) a c (omega (arith, sum, here)) (both_edits (sum_by f (take i xs)) (f x) a b c h k)
