-- A list of pairs that a tree holds under the hashes of their keys, and its edits.
use Rattle.std.proofs.Common.{◌≡◌, ℕ, ◌+◌, ◌≤◌, ◌==◌, Bool, true, false, not, List, [], ◌∷◌, ◌++◌, length, filter, cond, Option, None, unwrap_or, refl, sym, ap, ◌∙◌, arith}
use Rattle.std.proofs.lemmas.Bool.{both_ways, false_from_ne_true}
use Rattle.std.proofs.lemmas.List.{append-nil, length-append}
use Rattle.std.proofs.lemmas.List.Elements.{All-cons, All-weaker, filter_passes}
use Rattle.std.specs.List.{All}
use Rattle.std.specs.Ordering.{is_lt, is_eq, is_gt, ordering_reverse}
use Rattle.std.specs.declared.cmp.Ordering.{Ordering}
use Rattle.std.specs.declared.cmp.Ordering.TheVariants.{Less, Equal, Greater}
use Rattle.rg_tree.specs.declared.tree.Tree.{Tree}
use Rattle.rg_tree.specs.Hashes.{hash_of}
use Rattle.rg_tree.specs.Trees.{at}
use Rattle.rg_trie.specs.declared.pair.Filed.{Filed}
use Rattle.rg_trie.specs.declared.pair.Pair.{Pair}
use Rattle.rg_trie.specs.Blocks.{IsRising}
use Rattle.rg_trie.specs.Edited.{with_pair, without_pair}
use Rattle.rg_trie.specs.Hashed.{IsFiled, entries_at, entries_from, may_occur, pairs_at}
use Rattle.rg_trie.specs.Keyed.{entries_of_key, has_key, prefix_entries, with_entry, without_entry}
use Rattle.rg_trie.specs.Pairs.{Below, pair_order}
use Rattle.rg_trie.specs.Walked.{entries_under}
use Rattle.rg_trie.proofs.ByPrefix.{prefixes_are_under}
use Rattle.rg_trie.proofs.Orders.{less_from_lt, pair_total}
use Rattle.rg_trie.proofs.Pointwise.{has_its_key, keyed_with_same, keyed_with_other, keyed_without_same, keyed_without_other}
use Rattle.rg_trie.proofs.Prefixes.{rising_filter}
use Rattle.rg_trie.proofs.Rise.{rising-append}
use Rattle.rg_trie.proofs.Walks.{entries_fewer}

-- ---- the order stays

greater : (o : Ordering) → is_gt o ≡ true → o ≡ Greater
greater Less e = cc
greater Equal e = cc
greater Greater e = refl

pub rising_with : (p : Pair) (t : List Pair) → IsRising Below t → IsRising Below (with_pair p t)
rising_with p t h =
    let lower : Pair → Bool = λ q. is_lt (pair_order q p) in
    let higher : Pair → Bool = λ q. is_gt (pair_order q p) in
    let after : All (Below p) (filter higher t) = All-weaker (λ q. higher q ≡ true) (Below p) (λ q e. pair_total.antisymm p q ∙ ap ordering_reverse (greater (pair_order q p) e)) (filter higher t) (filter_passes higher t) in
    let across : All (λ x. All (Below x) (p ∷ filter higher t)) (filter lower t) =
    All-weaker (λ q. lower q ≡ true) (λ x. All (Below x) (p ∷ filter higher t))
    (λ x e. let l : Below x p = less_from_lt (pair_order x p) e in All-cons (Below x) p (filter higher t) l (All-weaker (Below p) (Below x) (λ q b. pair_total.trans x p q l b) (filter higher t) after))
    (filter lower t) (filter_passes lower t) in
    rising-append Below (filter lower t) (p ∷ filter higher t) (rising_filter Below lower t h) (after, rising_filter Below higher t h) across

-- ---- how many there are

fewer : {X : Type 0} (test : X → Bool) (xs : List X) → length (filter test xs) ≤ length xs
fewer test [] = omega arith
fewer test (x ∷ xs) = by_case (test x) refl (fewer test xs) where
  by_case : (b : Bool) → test x ≡ b → length (filter test xs) ≤ length xs → length (filter test (x ∷ xs)) ≤ length (x ∷ xs)
  by_case true e h = omega (arith, h, ap (λ b. length (cond b (x ∷ filter test xs) (filter test xs))) e)
  by_case false e h = omega (arith, h, ap (λ b. length (cond b (x ∷ filter test xs) (filter test xs))) e)

both_fewer : (p : Pair) (ps : List Pair) → length (filter (λ q. is_lt (pair_order q p)) ps) + length (filter (λ q. is_gt (pair_order q p)) ps) ≤ length ps
both_fewer p [] = omega arith
both_fewer p (q ∷ qs) = by_case (pair_order q p) refl (both_fewer p qs) where
  low : List Pair
  low = filter (λ q. is_lt (pair_order q p)) qs

  high : List Pair
  high = filter (λ q. is_gt (pair_order q p)) qs

  by_case : (o : Ordering) → pair_order q p ≡ o → length low + length high ≤ length qs
      → length (filter (λ q. is_lt (pair_order q p)) (q ∷ qs)) + length (filter (λ q. is_gt (pair_order q p)) (q ∷ qs)) ≤ length (q ∷ qs)
  by_case Less e h = omega (arith, h, ap (λ o. length (cond (is_lt o) (q ∷ low) low)) e, ap (λ o. length (cond (is_gt o) (q ∷ high) high)) e)
  by_case Equal e h = omega (arith, h, ap (λ o. length (cond (is_lt o) (q ∷ low) low)) e, ap (λ o. length (cond (is_gt o) (q ∷ high) high)) e)
  by_case Greater e h = omega (arith, h, ap (λ o. length (cond (is_lt o) (q ∷ low) low)) e, ap (λ o. length (cond (is_gt o) (q ∷ high) high)) e)

-- ---- what stands under each key after an edit of one bucket

module _ (p : Pair) (edit : List Pair → List Pair) (edit_entries : List Filed → List Filed)
    (same : (key : List ℕ) → p.key ≡ key → (ps : List Pair) → entries_of_key key (edit ps) ≡ edit_entries (entries_of_key key ps))
    (other : (key : List ℕ) → has_key key p ≡ false → (ps : List Pair) → entries_of_key key (edit ps) ≡ entries_of_key key ps) where
  -- one bucket is edited, and all others stay
  abbrev Edited : Tree (List Pair) → Tree (List Pair) → Type 0
  Edited old new = (hash : ℕ) → pairs_at new hash ≡ cond (hash == hash_of false p.key) (edit (pairs_at old (hash_of false p.key))) (pairs_at old hash)

  equal : (a b : ℕ) → (a == b) ≡ true → a ≡ b
  equal a b e = grind (arith, e)

  equal_from : (a b : ℕ) → a ≡ b → (a == b) ≡ true
  equal_from a b e = grind (arith, e)

  edited_held : (old new : Tree (List Pair)) (pairs : List Pair) → Edited old new → ((key : List ℕ) → entries_at old key ≡ entries_of_key key pairs) → (key : List ℕ) → entries_at new key ≡ entries_of_key key (edit pairs)
  edited_held old new pairs edited held key = by_case (hash_of false key == hash_of false p.key) (has_key key p) refl refl where
    here : (hash_of false key == hash_of false p.key) ≡ true → entries_at new key ≡ entries_of_key key (edit (pairs_at old (hash_of false key)))
    here e = ap (entries_of_key key) (edited (hash_of false key) ∙ ap (λ b. cond b (edit (pairs_at old (hash_of false p.key))) (pairs_at old (hash_of false key))) e
        ∙ ap (λ n. edit (pairs_at old n)) (sym (equal _ _ e)))

    by_case : (b h : Bool) → (hash_of false key == hash_of false p.key) ≡ b → has_key key p ≡ h → entries_at new key ≡ entries_of_key key (edit pairs)
    by_case true true e h = here e ∙ same key (has_its_key key p h) (pairs_at old (hash_of false key)) ∙ ap edit_entries (held key) ∙ sym (same key (has_its_key key p h) pairs)
    by_case true false e h = here e ∙ other key h (pairs_at old (hash_of false key)) ∙ held key ∙ sym (other key h pairs)
    by_case false true e h = absurd (both_ways _ e (equal_from _ _ (ap (hash_of false) (sym (has_its_key key p h)))))
    by_case false false e h = ap (entries_of_key key) (edited (hash_of false key) ∙ ap (λ b. cond b (edit (pairs_at old (hash_of false p.key))) (pairs_at old (hash_of false key))) e)
        ∙ held key ∙ sym (other key h pairs)

-- a bucket that is put in its place
put_in : (old new : Tree (List Pair)) (place : ℕ) (bucket : Option (List Pair)) (pairs : List Pair) → ((hash : ℕ) → at hash new ≡ cond (hash == place) bucket (at hash old)) → unwrap_or bucket [] ≡ pairs
    → (hash : ℕ) → pairs_at new hash ≡ cond (hash == place) pairs (pairs_at old hash)
put_in old new place bucket pairs s e hash = by_case (hash == place) refl where
  by_case : (b : Bool) → (hash == place) ≡ b → pairs_at new hash ≡ cond (hash == place) pairs (pairs_at old hash)
  by_case true t = ap (λ o. unwrap_or o []) (s hash ∙ ap (λ b. cond b bucket (at hash old)) t) ∙ e ∙ ap (λ b. cond b pairs (pairs_at old hash)) (sym t)
  by_case false t = ap (λ o. unwrap_or o []) (s hash ∙ ap (λ b. cond b bucket (at hash old)) t) ∙ ap (λ b. cond b pairs (pairs_at old hash)) (sym t)

module _ (p : Pair) (old new : Tree (List Pair)) (bucket : Option (List Pair)) (set : (hash : ℕ) → at hash new ≡ cond (hash == hash_of false p.key) bucket (at hash old)) where
  pub filed_with : (occurs more : List Bool) (total : ℕ) (pairs : List Pair) → IsFiled old occurs total pairs → unwrap_or bucket [] ≡ with_pair p (pairs_at old (hash_of false p.key))
      → ((n : ℕ) → may_occur more n ≡ false → (may_occur occurs n ≡ false) × (n ≡ length p.key → ⊥)) → IsFiled new more (total + 1) (with_pair p pairs)
  filed_with occurs more total pairs f b marked = record {
    rising = rising_with p pairs f.rising;
    held = held;
    covered = λ key none.
        let kept = marked (length key) none in
        held key ∙ keyed_with_other key p (false_from_ne_true _ (λ h. kept.1 (ap length (sym (has_its_key key p h))))) pairs ∙ sym (f.held key) ∙ f.covered key kept.0;
    bounded = omega (arith, f.bounded, both_fewer p pairs, length-append (filter (λ q. is_lt (pair_order q p)) pairs) (p ∷ filter (λ q. is_gt (pair_order q p)) pairs));
  } where
    held : (key : List ℕ) → entries_at new key ≡ entries_of_key key (with_pair p pairs)
    held = edited_held p (with_pair p) (with_entry p.entry) (λ key e ps. keyed_with_same key p e ps) (λ key d ps. keyed_with_other key p d ps) old new pairs (put_in old new (hash_of false p.key) bucket _ set b) f.held

  pub filed_without : (occurs : List Bool) (total : ℕ) (pairs : List Pair) → IsFiled old occurs total pairs → unwrap_or bucket [] ≡ without_pair p (pairs_at old (hash_of false p.key)) → IsFiled new occurs total (without_pair p pairs)
  filed_without occurs total pairs f b = record {
    rising = rising_filter Below _ pairs f.rising;
    held = held;
    covered = λ key none. held key ∙ nothing key (sym (f.held key) ∙ f.covered key none);
    bounded = omega (arith, f.bounded, fewer (λ q. not (is_eq (pair_order q p))) pairs);
  } where
    held : (key : List ℕ) → entries_at new key ≡ entries_of_key key (without_pair p pairs)
    held = edited_held p (without_pair p) (without_entry p.entry) (λ key e ps. keyed_without_same key p e ps) (λ key d ps. keyed_without_other key p d ps) old new pairs (put_in old new (hash_of false p.key) bucket _ set b) f.held

    nothing : (key : List ℕ) → entries_of_key key pairs ≡ [] → entries_of_key key (without_pair p pairs) ≡ []
    nothing key e = by_case (has_key key p) refl where
      by_case : (h : Bool) → has_key key p ≡ h → entries_of_key key (without_pair p pairs) ≡ []
      by_case true h = keyed_without_same key p (has_its_key key p h) pairs ∙ ap (without_entry p.entry) e
      by_case false h = keyed_without_other key p h pairs ∙ e

-- a tree without values holds no pairs
pub filed_none : (tree : Tree (List Pair)) (occurs : List Bool) → ((hash : ℕ) → at hash tree ≡ None) → IsFiled tree occurs 0 []
filed_none tree occurs n = record {
  rising = tt;
  held = λ key. ap (λ o. entries_of_key key (unwrap_or o [])) (n (hash_of false key));
  covered = λ key none. ap (λ o. entries_of_key key (unwrap_or o [])) (n (hash_of false key));
  bounded = omega arith;
}

-- ---- prefix by prefix

module _ (tree : Tree (List Pair)) (occurs : List Bool) (total : ℕ) (pairs : List Pair) (f : IsFiled tree occurs total pairs) where
  from_prefix : (seen rest : List ℕ) → entries_from tree seen rest ≡ prefix_entries seen rest pairs
  from_prefix seen [] = append-nil (entries_at tree seen) ∙ f.held seen
  from_prefix seen (c ∷ rest) = λ i. f.held seen i ++ from_prefix (seen ++ c ∷ []) rest i

  pub walked : (text : List ℕ) → entries_from tree [] text ≡ entries_under text pairs
  walked text = from_prefix [] text ∙ prefixes_are_under text pairs f.rising

  pub walked_fits : (text : List ℕ) → length (entries_from tree [] text) ≤ length pairs
  walked_fits text = omega (arith, ap length (walked text), entries_fewer text pairs)
