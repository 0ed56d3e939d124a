-- When a resource covers another one of its level: what it is open to, and what it covers in turn.
use Rattle.std.proofs.Common.{◌≡◌, ◌&&◌, ◌||◌, not, if◌then◌else◌, ℕ, Bool, true, false, List, [], ◌∷◌, Contains, refl, sym, ap, ◌∙◌, inl, inr}
use Rattle.std.proofs.lemmas.Bool.{and_parts, and_from, false≢true, not-true, not_from_false, or_cases, or_left, or_right}
use Rattle.rg_base.proofs.Lists.{Contains-first, Contains-flat_map, all_from, all_holds, among_from, among_holds, any_from, any_holds}
use Rattle.rg_base.specs.Texts.{is_among}
use Rattle.rg_defs.specs.declared.service_def.ServiceDef.{ServiceDef}
use Rattle.rg_pattern.specs.declared.atoms.Atom.{Atom}
use Rattle.rg_pattern.specs.Atoms.{twin}
use Rattle.rg_pattern.specs.Reading.{atoms_of, with_twin}
use Rattle.rg_pattern.specs.Tests.{covers}
use Rattle.rg_policy.specs.declared.policy.PolicyResource.{PolicyResource}
use Rattle.rg_resmatch.specs.Tests.{is_open, star}
use Rattle.rg_same_resources.specs.Twins.{each_among, same_flag}
use Rattle.rg_delegate.specs.Covering.{equals, has_wildcards, ignores_case, patterns_at, resource_covers, some_covers, values_cover}
use Rattle.rg_delegate.specs.Laws.{writes_star}
use Rattle.rg_delegate.proofs.Patterns.{CoversLaw, third_covered}

-- ---- equal resources

pub record AreSame (m n : PolicyResource) : Type 0 where
  pub excludes : m.excludes ≡ n.excludes
  pub recursive : m.recursive ≡ n.recursive
  pub these : each_among m.values.items n.values.items ≡ true
  pub those : each_among n.values.items m.values.items ≡ true

flag_is : (a b : Bool) → same_flag a b ≡ true → a ≡ b
flag_is true b h = sym h
flag_is false b h = sym (not-true b h)

flag_from : (a b : Bool) → a ≡ b → same_flag a b ≡ true
flag_from true b h = sym h
flag_from false b h = not_from_false b (sym h)

pub same_holds : (m n : PolicyResource) → equals m n ≡ true → AreSame m n
same_holds m n h =
    let these = each_among m.values.items n.values.items in
    let those = each_among n.values.items m.values.items in
    let recursive = same_flag m.recursive n.recursive in
    let one = and_parts (same_flag m.excludes n.excludes) (recursive && (these && those)) h in
    let two = and_parts recursive (these && those) one.1 in
    let three = and_parts these those two.1 in
    record { excludes = flag_is _ _ one.0; recursive = flag_is _ _ two.0; these = three.0; those = three.1 }

same_from : (m n : PolicyResource) → AreSame m n → equals m n ≡ true
same_from m n s = and_from _ _ (flag_from _ _ s.excludes) (and_from _ _ (flag_from _ _ s.recursive) (and_from _ _ s.these s.those))

pub value_among : (texts others : List (List ℕ)) → each_among texts others ≡ true → (t : List ℕ) → Contains texts t → Contains others t
value_among texts others h t within = among_holds t others (all_holds (λ t. is_among t others) texts h t within)

among_third : (a b c : List (List ℕ)) → each_among a b ≡ true → each_among b c ≡ true → each_among a c ≡ true
among_third a b c h g = all_from (λ t. is_among t c) a (λ t within. among_from t c (value_among b c g t (value_among a b h t within)))

same_third : (m n o : PolicyResource) → AreSame m n → AreSame n o → AreSame m o
same_third m n o h g = record {
  excludes = h.excludes ∙ g.excludes;
  recursive = h.recursive ∙ g.recursive;
  these = among_third m.values.items n.values.items o.values.items h.these g.these;
  those = among_third o.values.items n.values.items m.values.items g.those h.those;
}

-- ---- the four cases of two flags

-- how m covers n: as its equal, by its `*`, or by its values
pub data Way (def : ServiceDef) (m n : PolicyResource) : Type 0 where
  by_equal : AreSame m n → m.excludes ≡ true → Way def m n
  by_star : is_open m ≡ true → n.excludes ≡ true → Way def m n
  by_values : m.excludes ≡ false → n.excludes ≡ false → values_cover def m n ≡ true → Way def m n

pub open_includes : (r : PolicyResource) → is_open r ≡ true → r.excludes ≡ false
open_includes r h = not-true r.excludes (and_parts (not r.excludes) (is_among star r.values.items) h).0

pub clash : {X : Type 0} (b : Bool) → b ≡ true → b ≡ false → X
clash b h g = absurd (false≢true (sym g ∙ h))

pub way_of : (def : ServiceDef) (m n : PolicyResource) → resource_covers def m n ≡ true → Way def m n
way_of def m n h = at m.excludes n.excludes refl refl h where
  at : (a b : Bool) → m.excludes ≡ a → n.excludes ≡ b → (if a || b then equals m n || is_open m else values_cover def m n) ≡ true → Way def m n
  at true b e f k = elim (or_cases (equals m n) (is_open m) k) [
    | inl same ↦ by_equal (same_holds m n same) e
    | inr star ↦ clash m.excludes e (open_includes m star)
  ]
  at false true e f k = elim (or_cases (equals m n) (is_open m) k) [
    | inl same ↦ clash m.excludes ((same_holds m n same).excludes ∙ f) e
    | inr star ↦ by_star star f
  ]
  at false false e f k = by_values e f k

chosen_by : (def : ServiceDef) (m n : PolicyResource) (a b : Bool) → m.excludes ≡ a → n.excludes ≡ b
    → (if a || b then equals m n || is_open m else values_cover def m n) ≡ true → resource_covers def m n ≡ true
chosen_by def m n a b e f h = ap (λ c. if c || n.excludes then equals m n || is_open m else values_cover def m n) e ∙ ap (λ c. if a || c then equals m n || is_open m else values_cover def m n) f ∙ h

from_equal : (def : ServiceDef) (m n : PolicyResource) → AreSame m n → m.excludes ≡ true → resource_covers def m n ≡ true
from_equal def m n s e = chosen_by def m n true n.excludes e refl (or_left _ _ (same_from m n s))

from_star : (def : ServiceDef) (m n : PolicyResource) → is_open m ≡ true → n.excludes ≡ true → resource_covers def m n ≡ true
from_star def m n h e = chosen_by def m n false true (open_includes m h) e (or_right (equals m n) _ h)

from_values : (def : ServiceDef) (m n : PolicyResource) → m.excludes ≡ false → n.excludes ≡ false → values_cover def m n ≡ true → resource_covers def m n ≡ true
from_values def m n e f h = chosen_by def m n false false e f h

-- ---- values

-- the pattern of a value is among the resource's
pub value_pattern : (def : ServiceDef) (r : PolicyResource) (t : List ℕ) → Contains r.values.items t → Contains (patterns_at def r) (atoms_of (has_wildcards def r.level) t)
value_pattern def r t within =
    let wild = has_wildcards def r.level in
    Contains-flat_map (λ t. with_twin r.recursive (atoms_of wild t)) r.values.items t (atoms_of wild t) within
    (Contains-first (atoms_of wild t) (if r.recursive then twin (atoms_of wild t) ∷ [] else []))

-- a pattern of n is covered by one of m
pub pattern_covered : (def : ServiceDef) (m n : PolicyResource) → values_cover def m n ≡ true → (p : List Atom) → Contains (patterns_at def n) p
    → (q : List Atom) × Contains (patterns_at def m) q × (covers (ignores_case def m.level) q p ≡ true)
pattern_covered def m n h p within =
    any_holds (λ q. covers (ignores_case def m.level) q p) (patterns_at def m) (all_holds (some_covers (ignores_case def m.level) (patterns_at def m)) (patterns_at def n) h p within)

values_third : CoversLaw → (def : ServiceDef) (m n o : PolicyResource) → m.level ≡ n.level → values_cover def m n ≡ true → values_cover def n o ≡ true → values_cover def m o ≡ true
values_third law def m n o e h g =
    let fold = ignores_case def m.level in
    all_from (some_covers fold (patterns_at def m)) (patterns_at def o) (λ r within.
    let p = pattern_covered def n o g r within in
    let q = pattern_covered def m n h p.0 p.1 in
    any_from (λ q. covers fold q r) (patterns_at def m) q.0 q.1 (third_covered law fold q.0 p.0 r q.2 (ap (λ l. covers (ignores_case def l) p.0 r) e ∙ p.2)))

-- ---- what covers is as open as what it covers

starred : (a b : Bool) → (not a || b) ≡ true → a ≡ true → b ≡ true
starred true b h e = h
starred false b h e = absurd (false≢true e)

pub stays_open : (def : ServiceDef) (m n : PolicyResource) → m.level ≡ n.level → writes_star def m ≡ true → resource_covers def m n ≡ true → is_open n ≡ true → is_open m ≡ true
stays_open def m n e starry h g = at (way_of def m n h) where
  listed : Contains n.values.items star
  listed = among_holds star n.values.items (and_parts (not n.excludes) (is_among star n.values.items) g).1

  at : Way def m n → is_open m ≡ true
  at (by_equal s f) = clash n.excludes (sym s.excludes ∙ f) (open_includes n g)
  at (by_star k f) = k
  at (by_values f k v) =
      let q = pattern_covered def m n v (atoms_of (has_wildcards def n.level) star) (value_pattern def n star listed) in
      let covered = any_from (λ q. covers (ignores_case def m.level) q (atoms_of (has_wildcards def m.level) star)) (patterns_at def m) q.0 q.1
      (ap (λ l. covers (ignores_case def m.level) q.0 (atoms_of (has_wildcards def l) star)) e ∙ q.2) in
      and_from (not m.excludes) (is_among star m.values.items) (not_from_false m.excludes f)
      (starred (some_covers (ignores_case def m.level) (patterns_at def m) (atoms_of (has_wildcards def m.level) star)) (is_among star m.values.items) starry covered)

-- ---- a third resource

pub resource_third : CoversLaw → (def : ServiceDef) (m n o : PolicyResource) → m.level ≡ n.level → writes_star def m ≡ true
    → resource_covers def m n ≡ true → resource_covers def n o ≡ true → resource_covers def m o ≡ true
resource_third law def m n o e starry h g = at (way_of def m n h) (way_of def n o g) where
  at : Way def m n → Way def n o → resource_covers def m o ≡ true
  at (by_equal s f) (by_equal t k) = from_equal def m o (same_third m n o s t) f
  at (by_equal s f) (by_star wide k) = clash n.excludes (sym s.excludes ∙ f) (open_includes n wide)
  at (by_equal s f) (by_values k l v) = clash n.excludes (sym s.excludes ∙ f) k
  at (by_star wide f) (by_equal t k) = from_star def m o wide (sym t.excludes ∙ f)
  at (by_star wide f) (by_star other k) = clash n.excludes f (open_includes n other)
  at (by_star wide f) (by_values k l v) = clash n.excludes f k
  at (by_values f k v) (by_equal t l) = clash n.excludes l k
  at (by_values f k v) (by_star wide l) = from_star def m o (stays_open def m n e starry h wide) l
  at (by_values f k v) (by_values l j w) = from_values def m o f j (values_third law def m n o e v w)
