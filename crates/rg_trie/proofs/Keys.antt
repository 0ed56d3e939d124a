-- The pairs of one key among pairs that rise.
use Rattle.std.proofs.Common.{◌≡◌, ℕ, ◌+◌, true, false, not, List, [], ◌∷◌, ◌++◌, length, get_or, map, filter, cond, refl, sym, ap, ◌∙◌, subst, arith}
use Rattle.std.proofs.lemmas.Bool.{both_ways, false_from_ne_true}
use Rattle.std.proofs.lemmas.Cmp.{nat_list_cmp_total, tied_itself}
use Rattle.std.proofs.lemmas.List.{length-append, length-map}
use Rattle.std.proofs.lemmas.List.Elements.{All-cons, All-weaker}
use Rattle.std.proofs.lemmas.Slice.Eq.{bytes_eq-Decides}
use Rattle.std.specs.Cmp.Lexicographic.{slice_cmp}
use Rattle.std.specs.List.{All}
use Rattle.std.specs.Ordering.{nat_cmp, is_lt, is_gt}
use Rattle.std.specs.declared.cmp.Ordering.{Ordering}
use Rattle.std.specs.declared.cmp.Ordering.TheVariants.{Less, Equal, Greater}
use Rattle.rg_trie.specs.declared.order.Mark.TheVariants.{Start, End}
use Rattle.rg_trie.specs.declared.pair.Pair.{Pair}
use Rattle.rg_trie.specs.Blocks.{IsRising}
use Rattle.rg_trie.specs.Keyed.{entries_of_key, has_key}
use Rattle.rg_trie.specs.Pairs.{Below}
use Rattle.rg_trie.specs.Sought.{before}
use Rattle.rg_trie.proofs.Edits.{filter_all, filter_none}
use Rattle.rg_trie.proofs.Orders.{before_early, same_key}
use Rattle.rg_trie.proofs.Pointwise.{keyed_append}
use Rattle.rg_trie.proofs.Rise.{all_left}

abbrev keys : List ℕ → List ℕ → Ordering
keys = slice_cmp nat_cmp

-- a key that doesn't tie is another
pub other_key : (key : List ℕ) (p : Pair) (o : Ordering) → keys p.key key ≡ o → (o ≡ Equal → ⊥) → has_key key p ≡ false
other_key key p o e n = false_from_ne_true _ (λ h. n (sym e ∙ ap (λ k. keys k key) ((bytes_eq-Decides p.key key).0 h) ∙ tied_itself nat_list_cmp_total key))

pub tied_key : (key : List ℕ) (p : Pair) → keys p.key key ≡ Equal → has_key key p ≡ true
tied_key key p e = (bytes_eq-Decides p.key key).1 (same_key p.key key e)

lower_key : (key : List ℕ) (p : Pair) → is_lt (keys p.key key) ≡ true → has_key key p ≡ false
lower_key key p t = other_key key p _ refl (λ e. both_ways _ (ap is_lt e) t)

higher_key : (key : List ℕ) (p : Pair) → before key End p ≡ false → has_key key p ≡ false
higher_key key p t = other_key key p _ refl (λ e. both_ways _ t (ap (λ o. not (is_gt o)) e))

between_key : (key : List ℕ) (p : Pair) → is_lt (keys p.key key) ≡ false → before key End p ≡ true → has_key key p ≡ true
between_key key p a b = tied_key key p (by_case (keys p.key key) refl) where
  by_case : (o : Ordering) → keys p.key key ≡ o → keys p.key key ≡ Equal
  by_case Less e = absurd (both_ways _ a (ap is_lt e))
  by_case Equal e = e
  by_case Greater e = absurd (both_ways _ (ap (λ o. not (is_gt o)) e) b)

-- what comes before a key has none of its pairs
pub passed_none : (key : List ℕ) (whole passed rest : List Pair) → whole ≡ passed ++ rest → All (λ p. before key Start p ≡ true) passed → entries_of_key key rest ≡ entries_of_key key whole
passed_none key whole passed rest e a = sym (ap (entries_of_key key) e ∙ keyed_append key passed rest
    ∙ ap (λ ps. map (λ (p : Pair). p.entry) ps ++ entries_of_key key rest) (filter_none (has_key key) passed (All-weaker (λ p. before key Start p ≡ true) (λ p. has_key key p ≡ false) (λ p. lower_key key p) passed a)))

-- where the first pair that doesn't come before a key has another one, none has the key
pub first_other : (key : List ℕ) (p : Pair) (ps : List Pair) → IsRising Below (p ∷ ps) → is_lt (keys p.key key) ≡ false → (keys p.key key ≡ Equal → ⊥) → entries_of_key key (p ∷ ps) ≡ []
first_other key p ps r a n = ap (map (λ (p : Pair). p.entry)) (filter_none (has_key key) (p ∷ ps) (All-cons (λ q. has_key key q ≡ false) p ps (other_key key p _ refl n) (λ k d l. higher_key key (get_or ps k d) (later (get_or ps k d) (r.0 k d l))))) where
  above : before key End p ≡ false
  above = by_case (keys p.key key) refl where
    by_case : (o : Ordering) → keys p.key key ≡ o → before key End p ≡ false
    by_case Less e = absurd (both_ways _ a (ap is_lt e))
    by_case Equal e = absurd (n e)
    by_case Greater e = ap (λ o. not (is_gt o)) e

  later : (q : Pair) → Below p q → before key End q ≡ false
  later q b = false_from_ne_true _ (λ t. both_ways _ above (before_early key End p q b t))

-- the first pair has the key
pub first_gives : (key : List ℕ) (p : Pair) (ps : List Pair) → keys p.key key ≡ Equal → entries_of_key key (p ∷ ps) ≡ p.entry ∷ entries_of_key key ps
first_gives key p ps e = ap (λ b. map (λ (q : Pair). q.entry) (cond b (p ∷ filter (has_key key) ps) (filter (has_key key) ps))) (tied_key key p e)

-- the pairs of a key are counted by what lies behind them
pub run_counts : (key : List ℕ) (whole run rest : List Pair) (n : ℕ) → n + length rest ≡ length whole → whole ≡ run ++ rest → All (λ (p : Pair). is_lt (keys p.key key) ≡ false) whole → All (λ p. before key End p ≡ true) run → All (λ p. before key End p ≡ false) rest
    → n ≡ length (entries_of_key key whole)
run_counts key whole run rest n counted e from a b =
    let early : All (λ (p : Pair). is_lt (keys p.key key) ≡ false) run = all_left Below (λ (p : Pair). is_lt (keys p.key key) ≡ false) run rest (subst (All (λ (p : Pair). is_lt (keys p.key key) ≡ false)) e from) in
    let these : filter (has_key key) run ≡ run = filter_all (has_key key) run (λ k d l. between_key key (get_or run k d) (early k d l) (a k d l)) in
    let none : filter (has_key key) rest ≡ [] = filter_none (has_key key) rest (λ k d l. higher_key key (get_or rest k d) (b k d l)) in
    let split : entries_of_key key whole ≡ map (λ (p : Pair). p.entry) run ++ [] =
    ap (entries_of_key key) e ∙ keyed_append key run rest ∙ (λ i. map (λ (p : Pair). p.entry) (these i) ++ map (λ (p : Pair). p.entry) (none i)) in
    omega (arith, counted, ap length e, length-append run rest, ap length split, length-append (map (λ (p : Pair). p.entry) run) [], length-map run (λ (p : Pair). p.entry))
