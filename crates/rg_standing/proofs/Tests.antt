-- Tests of lists, taken apart.
use Rattle.std.proofs.Common.{◌≡◌, ◌&&◌, ◌||◌, ◌+◌, Bool, true, false, not, cond, ℕ, suc, nat_lt, List, [], ◌∷◌, length, Option, Some, None, is_some, map, refl, sym, ap, ◌∙◌, arith}
use Rattle.std.proofs.lemmas.Bool.Decides.{nat_tests}
use Rattle.std.proofs.lemmas.List.{length-map}
use Rattle.std.specs.Prelude.{is_none, option_map, position}
use Rattle.std.specs.List.{find, list_all, list_any, position_or_len, prefix_len}
use Rattle.rg_base.proofs.Lists.{list_any-map}
use Rattle.rg_policy.specs.declared.policy.PolicyResource.{PolicyResource}
use Rattle.rg_defs.specs.declared.service_def.Level.{Level}
use Rattle.rg_pattern.specs.declared.atoms.Atom.{Atom}
use Rattle.rg_pattern.specs.Atoms.{twin}
use Rattle.rg_pattern.specs.Reading.{atoms_of}
use Rattle.rg_pattern.specs.Tests.{stands}
use Rattle.rg_resmatch.specs.Tests.{patterns_of, some_stands}
use Rattle.rg_standing.specs.Hits.{value_stands}

shuffled : (a r b c d : Bool) → ((a || (r && b)) || (c || (r && d))) ≡ ((a || c) || (r && (b || d)))
shuffled true r b c d = refl
shuffled false true true true d = refl
shuffled false true true false d = refl
shuffled false true false true d = refl
shuffled false true false false d = refl
shuffled false false b true d = refl
shuffled false false b false d = refl

neither : (r : Bool) → false ≡ (r && false)
neither true = refl
neither false = refl

-- an element that passes one test, or where it counts the other
any_either : {X : Type 0} (p q : X → Bool) (r : Bool) (xs : List X) → list_any (λ x. p x || (r && q x)) xs ≡ (list_any p xs || (r && list_any q xs))
any_either p q r [] = neither r
any_either p q r (x ∷ xs) = ap (λ b. (p x || (r && q x)) || b) (any_either p q r xs) ∙ shuffled (p x) r (q x) (list_any p xs) (list_any q xs)

pub some_value : (level : Level) (r : PolicyResource) (user v : List ℕ) → list_any (value_stands level r.recursive user v) r.values.items ≡ some_stands level r user v
some_value level r user v =
    let p : List Atom → Bool = λ atoms. stands level.fold user atoms v in
    any_either (λ t. p (atoms_of level.wild t)) (λ t. p (twin (atoms_of level.wild t))) r.recursive r.values.items
    ∙ ap (λ b. b || (r.recursive && list_any (λ t. p (twin (atoms_of level.wild t))) r.values.items)) (sym (list_any-map p (atoms_of level.wild) r.values.items))
    ∙ ap (λ b. list_any p (patterns_of level r) || (r.recursive && b))
    (sym (list_any-map p twin (patterns_of level r) ∙ list_any-map (λ atoms. p (twin atoms)) (atoms_of level.wild) r.values.items))

-- all pass where none is found that doesn't
pub all_by_first : {X : Type 0} (p : X → Bool) (xs : List X) → list_all p xs ≡ is_none (find (λ x. not (p x)) xs)
all_by_first p [] = refl
all_by_first p (x ∷ xs) = elim (p x) as (λ v. (v && list_all p xs) ≡ is_none (cond (not v) (Some x) (find (λ y. not (p y)) xs))) [
  | true ↦ all_by_first p xs
  | false ↦ refl
]

front-map : {X Y : Type 0} (p : Y → Bool) (f : X → Y) (xs : List X) → position_or_len p (map f xs) ≡ position_or_len (λ x. p (f x)) xs
front-map p f [] = refl
front-map p f (x ∷ xs) = ap (λ n. cond (not (p (f x))) (1 + n) 0) (front-map p f xs)

-- the place of the first that passes, by what stands for each
pub position-map : {X Y : Type 0} (p : Y → Bool) (f : X → Y) (xs : List X) → position p (map f xs) ≡ position (λ x. p (f x)) xs
position-map p f xs = λ i. cond (nat_lt (front-map p f xs i) (length-map xs f i)) (Some (front-map p f xs i)) None

-- the same by what the test says of each
pub place_mapped : {X : Type 0} (p : X → Bool) (xs : List X) → position (λ b. b) (map p xs) ≡ position p xs
place_mapped p xs = position-map (λ b. b) p xs

-- ---- whether there is one

pub some_mapped : {X Y : Type 0} (f : X → Y) (o : Option X) → is_some (option_map f o) ≡ is_some o
some_mapped f None = refl
some_mapped f (Some x) = refl

pub some_if : {X : Type 0} (b : Bool) (x : X) → is_some (cond b (Some x) None) ≡ b
some_if true x = refl
some_if false x = refl

short_of : (n k : ℕ) → nat_lt (1 + n) (suc k) ≡ nat_lt n k
short_of n k = grind (arith, nat_tests)

above_none : (k : ℕ) → nat_lt 0 (suc k) ≡ true
above_none k = grind (arith, nat_tests)

short_by : {X : Type 0} (p : X → Bool) (xs : List X) → nat_lt (prefix_len (λ x. not (p x)) xs) (length xs) ≡ list_any p xs
short_by p [] = refl
short_by p (x ∷ xs) = elim (p x) as (λ v. nat_lt (cond (not v) (1 + prefix_len (λ y. not (p y)) xs) 0) (length (x ∷ xs)) ≡ (v || list_any p xs)) [
  | true ↦ above_none (length xs)
  | false ↦ short_of (prefix_len (λ y. not (p y)) xs) (length xs) ∙ short_by p xs
]

-- there is a first that passes exactly where some does
pub some_place : {X : Type 0} (p : X → Bool) (xs : List X) → is_some (position p xs) ≡ list_any p xs
some_place p xs = some_if (nat_lt (prefix_len (λ x. not (p x)) xs) (length xs)) _ ∙ short_by p xs
