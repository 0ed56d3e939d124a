-- Reading a written value atom by atom.
use Rattle.std.proofs.Common.{◌≡◌, ◌||◌, ◌<◌, ◌≤◌, ℕ, zero, suc, List, [], ◌∷◌, ◌++◌, Bool, true, false, ◌&&◌, Option, Some, None, cond, length, nat_eq, refl, sym, ap, ◌∙◌, arith}
use Rattle.std.proofs.lemmas.Bool.{and_parts, and_from, eqb-true}
use Rattle.std.specs.Option.{is_some}
use Rattle.std.specs.Str.{all_scalars, chars}
use lib.Utf8.{scalar}
use Rattle.rg_pattern.specs.declared.atoms.Atom.{Atom}
use Rattle.rg_pattern.specs.declared.atoms.Atom.TheVariants.{Character, One, Any, User}
use Rattle.rg_pattern.specs.Atoms.{are_scalars, has_user, is_user, twin, ends_in_slash}
use Rattle.rg_pattern.specs.Tests.{same_char, strip_prefix}
use Rattle.rg_pattern.specs.Reading.{user_mark, atom_of, atoms_past, atoms_of}
use Rattle.rg_pattern.proofs.Walks.{chosen, strip_prefix_le}

pub mark_chars : chars user_mark ≡ user_mark
unfolding chars
mark_chars = refl

past_mark : (wild : Bool) (u s r : List ℕ) → strip_prefix false u s ≡ Some r → atoms_past wild (length u) s ≡ atoms_past wild 0 r
past_mark wild [] s r e = ap (atoms_past wild 0) (let h : s ≡ r = cc in h)
past_mark wild (c ∷ u) [] r e = absurd (cc)
past_mark wild (c ∷ u) (x ∷ s) r e = past_mark wild u s r (chosen (same_char false c x) _ r e).1

pub read_user : (wild : Bool) (t r : List ℕ) → strip_prefix false user_mark t ≡ Some r → atoms_of wild t ≡ User ∷ atoms_of wild r
read_user wild [] r e = absurd (cc)
read_user wild (x ∷ t) r e =
    ap (λ o. cond (is_some o) (User ∷ atoms_past wild 5 t) (atom_of wild x ∷ atoms_past wild 0 t)) e
    ∙ ap (λ (p : List Atom). User ∷ p) (past_mark wild (85 ∷ 83 ∷ 69 ∷ 82 ∷ 125 ∷ []) t r (chosen (same_char false 123 x) _ r e).1)

pub user_shorter : (t r : List ℕ) → strip_prefix false user_mark t ≡ Some r → length r < length t
user_shorter [] r e = absurd (cc)
user_shorter (x ∷ t) r e = let h : length r ≤ length t = strip_prefix_le false (85 ∷ 83 ∷ 69 ∷ 82 ∷ 125 ∷ []) t r (chosen (same_char false 123 x) _ r e).1 in omega arith

pub read_other : (wild : Bool) (t : List ℕ) (x : ℕ) (s : List ℕ) → strip_prefix false user_mark t ≡ None → t ≡ x ∷ s → atoms_of wild t ≡ atom_of wild x ∷ atoms_of wild s
read_other wild t x s e h =
    ap (atoms_of wild) h
    ∙ ap (λ o. cond (is_some o) (User ∷ atoms_past wild 5 s) (atom_of wild x ∷ atoms_past wild 0 s)) (sym (ap (strip_prefix false user_mark) h) ∙ e)

-- what is stripped without folding is the prefix itself
stripped_same : (u t r : List ℕ) → strip_prefix false u t ≡ Some r → t ≡ u ++ r
stripped_same [] t r e = let h : t ≡ r = cc in h
stripped_same (c ∷ u) [] r e = absurd (cc)
stripped_same (c ∷ u) (x ∷ t) r e =
    let k = chosen (same_char false c x) _ r e in
    ap (λ y. y ∷ t) (sym (eqb-true c x k.0)) ∙ ap (λ z. c ∷ z) (stripped_same u t r k.1)

none_or : (o : Option (List ℕ)) → ((r : List ℕ) → o ≡ Some r → ⊥) → o ≡ None
none_or None n = refl
none_or (Some r) n = absurd (n r refl)

pub no_mark : (x : ℕ) (t : List ℕ) → ((rest : List ℕ) → x ∷ t ≡ user_mark ++ rest → ⊥) → strip_prefix false user_mark (x ∷ t) ≡ None
no_mark x t none = none_or (strip_prefix false user_mark (x ∷ t)) (λ r e. none r (stripped_same user_mark (x ∷ t) r e))

-- each atom comes from a character of its own
one_more : (mark : Bool) (a b : Atom) (p q : List Atom) (c : ℕ) (t : List ℕ) → length p ≤ length t → length q ≤ length t → length (cond mark (a ∷ p) (b ∷ q)) ≤ length (c ∷ t)
one_more true a b p q c t h k = omega arith
one_more false a b p q c t h k = omega arith

pub past_le : (wild : Bool) (skip : ℕ) (t : List ℕ) → length (atoms_past wild skip t) ≤ length t
past_le wild skip [] = omega arith
past_le wild (suc skip) (c ∷ t) = let h = past_le wild skip t in omega arith
past_le wild zero (c ∷ t) =
    one_more (is_some (strip_prefix false user_mark (c ∷ t))) User (atom_of wild c) (atoms_past wild 5 t) (atoms_past wild 0 t) c t (past_le wild 5 t) (past_le wild 0 t)

-- the characters of a pattern are those of the text that it was read from
of_atom : (any one : Bool) (c : ℕ) (p : List Atom) → scalar c ≡ true → are_scalars p ≡ true → are_scalars (cond any Any (cond one One (Character c)) ∷ p) ≡ true
of_atom true one c p s e = e
of_atom false true c p s e = e
of_atom false false c p s e = and_from _ _ s e

of_choice : (mark : Bool) (p q : List Atom) → are_scalars p ≡ true → are_scalars q ≡ true → are_scalars (cond mark p q) ≡ true
of_choice true p q e h = e
of_choice false p q e h = h

pub scalars_read : (wild : Bool) (skip : ℕ) (t : List ℕ) → all_scalars t ≡ true → are_scalars (atoms_past wild skip t) ≡ true
scalars_read wild skip [] s = refl
scalars_read wild (suc skip) (c ∷ t) s = scalars_read wild skip t (and_parts (scalar c) (all_scalars t) s).1
scalars_read wild zero (c ∷ t) s =
    let k = and_parts (scalar c) (all_scalars t) s in
    of_choice (is_some (strip_prefix false user_mark (c ∷ t))) (User ∷ atoms_past wild 5 t) (atom_of wild c ∷ atoms_past wild 0 t) (scalars_read wild 5 t k.1)
    (of_atom (wild && nat_eq c 42) (wild && nat_eq c 63) c (atoms_past wild 0 t) k.0 (scalars_read wild 0 t k.1))

scalars-append : (p q : List Atom) → are_scalars p ≡ true → are_scalars q ≡ true → are_scalars (p ++ q) ≡ true
scalars-append [] q e h = h
scalars-append (Character c ∷ p) q e h = let k = and_parts (scalar c) (are_scalars p) e in and_from _ _ k.0 (scalars-append p q k.1 h)
scalars-append (One ∷ p) q e h = scalars-append p q e h
scalars-append (Any ∷ p) q e h = scalars-append p q e h
scalars-append (User ∷ p) q e h = scalars-append p q e h

-- so are those of its twin
pub scalars-twin : (p : List Atom) → are_scalars p ≡ true → are_scalars (twin p) ≡ true
scalars-twin p e = scalars-append p (cond (ends_in_slash p) (Any ∷ []) (Character 47 ∷ Any ∷ [])) e (of_tail (ends_in_slash p)) where
  of_tail : (b : Bool) → are_scalars (cond b (Any ∷ []) (Character 47 ∷ Any ∷ [])) ≡ true
  of_tail true = refl
  of_tail false = refl

-- a character of its own is no user, and so it plays no part whether wildcards are on
no_user : (any one : Bool) (c : ℕ) → is_user (cond any Any (cond one One (Character c))) ≡ false
no_user true one c = refl
no_user false true c = refl
no_user false false c = refl

pub user_past : (wild : Bool) (skip : ℕ) (t : List ℕ) → has_user (atoms_past wild skip t) ≡ has_user (atoms_past false skip t)
user_past wild skip [] = refl
user_past wild (suc skip) (c ∷ t) = user_past wild skip t
user_past wild zero (c ∷ t) = at (is_some (strip_prefix false user_mark (c ∷ t))) (user_past wild 0 t) where
  at : (b : Bool) → has_user (atoms_past wild 0 t) ≡ has_user (atoms_past false 0 t)
      → has_user (cond b (User ∷ atoms_past wild 5 t) (atom_of wild c ∷ atoms_past wild 0 t)) ≡ has_user (cond b (User ∷ atoms_past false 5 t) (atom_of false c ∷ atoms_past false 0 t))
  at true later = refl
  at false later = ap (λ b. b || has_user (atoms_past wild 0 t)) (no_user (wild && nat_eq c 42) (wild && nat_eq c 63) c) ∙ later
