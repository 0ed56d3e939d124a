-- The steps of a walk over the prefixes of a text.
use Rattle.std.proofs.Common.{◌≡◌, ℕ, ◌+◌, ◌<◌, ◌≤◌, ◌^◌, true, false, List, [], ◌∷◌, ◌++◌, length, Option, Some, None, MatchOption, unwrap_or, sym, ap, ◌∙◌, subst, arith}
use Rattle.std.proofs.lemmas.Bool.{both_ways}
use Rattle.std.proofs.lemmas.List.{length-append}
use Rattle.std.proofs.lemmas.List.Elements.{All-head, All-nil, All-tail}
use Rattle.std.specs.Cmp.Lexicographic.{slice_cmp}
use Rattle.std.specs.List.{All}
use Rattle.std.specs.Ordering.{nat_cmp, is_lt, is_eq}
use Rattle.rg_tree.specs.declared.tree.Tree.{Tree}
use Rattle.rg_tree.specs.Hashes.{hash_of}
use Rattle.rg_tree.specs.Trees.{at}
use Rattle.rg_trie.specs.declared.order.Mark.TheVariants.{Start}
use Rattle.rg_trie.specs.declared.pair.Filed.{Filed}
use Rattle.rg_trie.specs.declared.pair.Held.{Held}
use Rattle.rg_trie.specs.declared.pair.Pair.{Pair}
use Rattle.rg_trie.specs.Blocks.{IsSized, pairs_of}
use Rattle.rg_trie.specs.Hashed.{IsFrom, entries_at, entries_beyond, entries_from}
use Rattle.rg_trie.specs.Keyed.{entries_of_key}
use Rattle.rg_trie.specs.Pairs.{Below}
use Rattle.rg_trie.specs.Sought.{IsWalking, before, is_past}
use Rattle.rg_trie.proofs.Keys.{first_gives, first_other}
use Rattle.rg_trie.proofs.Orders.{before_early, equal_from_eq, from_not}
use Rattle.rg_trie.proofs.Rise.{all_fail}

-- ---- what was found for one prefix

pub from_nothing : (key : List ℕ) (back : List Pair) (after : List Held) → back ≡ [] → after ≡ [] → IsFrom key back after
from_nothing key back after b a = subst (λ ps. IsFrom key ps after) (sym b) (subst (λ hs. IsFrom key [] hs) (sym a)
    (record { walking = record { rising = tt; sized = All-nil IsSized; counted = tt }; from = All-nil (λ (p : Pair). is_lt (slice_cmp nat_cmp p.key key) ≡ false) }))

pub nothing_found : (key : List ℕ) (back : List Pair) (after : List Held) → back ≡ [] → after ≡ [] → entries_of_key key (back ++ pairs_of after) ≡ []
nothing_found key back after b a = λ i. entries_of_key key (b i ++ pairs_of (a i))

pub nothing_fits : (back : List Pair) (after : List Held) → back ≡ [] → after ≡ [] → length (back ++ pairs_of after) < 2 ^ 64
nothing_fits back after b a = let none : length (back ++ pairs_of after) ≡ 0 = (λ i. length (b i ++ pairs_of (a i))) in omega (arith, none)

pub found_none : (tree : Tree (List Pair)) (key : List ℕ) (hash : ℕ) → hash ≡ hash_of false key → None ≡ at hash tree → entries_at tree key ≡ []
found_none tree key hash h e = ap (λ o. entries_of_key key (unwrap_or o [])) (sym (e ∙ ap (λ n. at n tree) h))

pub found_some : (tree : Tree (List Pair)) (key : List ℕ) (hash : ℕ) (pairs : List Pair) → hash ≡ hash_of false key → Some pairs ≡ at hash tree → entries_of_key key pairs ≡ entries_at tree key
found_some tree key hash pairs h e = ap (λ o. entries_of_key key (unwrap_or o [])) (e ∙ ap (λ n. at n tree) h)

-- the pairs from the first on that doesn't come before a key
pub from_start : (text key : List ℕ) (back : List Pair) (after : List Held) → text ≡ key → IsWalking back after → All (λ p. before text Start p ≡ false) (back ++ pairs_of after) → IsFrom key back after
from_start text key back after e w a = subst (λ k. IsFrom k back after) e (record { walking = w; from = a })

-- where the first pair doesn't come before a key, none does
pub from_first : (key : List ℕ) (back : List Pair) (after : List Held) → IsWalking back after → is_past key back ≡ true → IsFrom key back after
from_first key [] after w t = cc
from_first key (p ∷ ps) after w t = record {
  walking = w;
  from = all_fail Below (before key Start) (before_early key Start) ((p ∷ ps) ++ pairs_of after) w.rising 0 (λ d l. from_not (before key Start p) t);
}

pub rest_fits : (whole passed rest : List Pair) (total : ℕ) → whole ≡ passed ++ rest → total ≡ length whole → total < 2 ^ 64 → length rest < 2 ^ 64
rest_fits whole passed rest total e t l = omega (arith, ap length e, length-append passed rest, t, l)

-- ---- the first of them

pub from_opened : (key : List ℕ) (back more : List Pair) (after others : List Held) → IsFrom key back after → more ++ pairs_of others ≡ back ++ pairs_of after → IsWalking more others → IsFrom key more others
from_opened key back more after others f e w = record { walking = w; from = subst (All (λ (p : Pair). is_lt (slice_cmp nat_cmp p.key key) ≡ false)) (sym e) f.from }

module _ (key : List ℕ) (back others : List Pair) (after : List Held) (p : Pair) (first : back ≡ p ∷ others) (f : IsFrom key back after) where
  here : IsFrom key (p ∷ others) after
  here = subst (λ ps. IsFrom key ps after) first f

  pub from_rest : IsFrom key others after
  from_rest = record {
    walking = record { rising = here.walking.rising.1; sized = here.walking.sized; counted = here.walking.counted };
    from = All-tail (λ (q : Pair). is_lt (slice_cmp nat_cmp q.key key) ≡ false) p (others ++ pairs_of after) here.from;
  }

  pub gives_first : is_eq (slice_cmp nat_cmp p.key key) ≡ true → entries_of_key key (back ++ pairs_of after) ≡ p.entry ∷ entries_of_key key (others ++ pairs_of after)
  gives_first t = ap (λ ps. entries_of_key key (ps ++ pairs_of after)) first ∙ first_gives key p (others ++ pairs_of after) (equal_from_eq _ t)

  pub gives_none : is_eq (slice_cmp nat_cmp p.key key) ≡ false → entries_of_key key (back ++ pairs_of after) ≡ []
  gives_none t = ap (λ ps. entries_of_key key (ps ++ pairs_of after)) first
      ∙ first_other key p (others ++ pairs_of after) here.walking.rising (All-head (λ (q : Pair). is_lt (slice_cmp nat_cmp q.key key) ≡ false) p (others ++ pairs_of after) here.from) (λ e. both_ways _ t (ap is_eq e))

-- where nothing was found, what holds then
pub none_found : {X : Type 0} (P : Type 0) (Q : X → Type 0) (o : Option X) → o ≡ None → MatchOption o P Q → P
none_found P Q None e h = h
none_found P Q (Some x) e h = cc

-- ---- from one prefix to the next

module _ (tree : Tree (List Pair)) (seen rest : List ℕ) where
  pub passes : (later others : List ℕ) (c : ℕ) → entries_at tree seen ≡ [] → rest ≡ c ∷ others → later ≡ seen ++ c ∷ [] → entries_from tree later others ≡ entries_from tree seen rest
  passes later others c n e g = sym ((λ i. n i ++ entries_beyond tree seen (e i)) ∙ ap (λ k. entries_from tree k others) (sym g))

  pub ends : entries_at tree seen ≡ [] → rest ≡ [] → entries_from tree seen rest ≡ []
  ends n e = λ i. n i ++ entries_beyond tree seen (e i)

  pub goes_on : (entries : List Filed) (later others : List ℕ) (c : ℕ) → entries ≡ [] → rest ≡ c ∷ others → later ≡ seen ++ c ∷ [] → entries ++ entries_beyond tree seen rest ≡ entries_from tree later others
  goes_on entries later others c n e g = (λ i. n i ++ entries_beyond tree seen (e i)) ∙ ap (λ k. entries_from tree k others) (sym g)

  pub stops : (entries : List Filed) → entries ≡ [] → rest ≡ [] → entries ++ entries_beyond tree seen rest ≡ []
  stops entries n e = λ i. n i ++ entries_beyond tree seen (e i)

  -- what was counted, and what is still to be counted
  pub counts_on : (later others : List ℕ) (c : ℕ) → rest ≡ c ∷ others → later ≡ seen ++ c ∷ [] → length (entries_from tree seen rest) ≡ length (entries_at tree seen) + length (entries_from tree later others)
  counts_on later others c e g = ap (λ r. length (entries_from tree seen r)) e ∙ length-append (entries_at tree seen) (entries_from tree (seen ++ c ∷ []) others)
      ∙ ap (λ k. length (entries_at tree seen) + length (entries_from tree k others)) (sym g)

  pub counts_end : rest ≡ [] → length (entries_from tree seen rest) ≡ length (entries_at tree seen)
  counts_end e = ap (λ r. length (entries_from tree seen r)) e ∙ length-append (entries_at tree seen) [] ∙ omega arith

  pub counts_part : length (entries_at tree seen) ≤ length (entries_from tree seen rest)
  counts_part = omega (arith, length-append (entries_at tree seen) (entries_beyond tree seen rest))
