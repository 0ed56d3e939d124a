-- A list of blocks that grows.
use Rattle.std.proofs.Common.{◌≡◌, ℕ, ◌+◌, ◌<◌, ◌≤◌, zero, suc, List, [], ◌∷◌, ◌++◌, length, get_or, take, drop, sym, ap, ◌∙◌, subst, arith}
use Rattle.std.proofs.lemmas.List.{append_assoc, append-nil, length-append, take-append-drop, take_more}
use Rattle.std.proofs.lemmas.List.Concat.{flat_map-append}
use Rattle.std.proofs.lemmas.List.Elements.{All-nil, All-push}
use Rattle.std.specs.List.{All}
use Rattle.rg_trie.specs.declared.blocks.Growing.{Growing}
use Rattle.rg_trie.specs.declared.pair.Held.{Held}
use Rattle.rg_trie.specs.declared.pair.Pair.{Pair}
use Rattle.rg_trie.specs.Pairs.{Below}
use Rattle.rg_trie.specs.Blocks.{AreCounted, AreInOrder, Grows, HasSize, IsRising, IsSized, block_pairs, pairs_of}

-- blocks are counted from any of them on
pub counted_drop : (n : ℕ) (hs : List Held) (k : ℕ) → AreCounted n hs → AreCounted n (drop k hs)
counted_drop n hs zero c = c
counted_drop n [] (suc k) c = tt
counted_drop n (h ∷ hs) (suc k) c = counted_drop n hs k c.1

-- one more block takes its pairs from those that are to come
pub counted_more : (m n : ℕ) (hs : List Held) (h : Held) → m ≡ length (block_pairs h) + n → h.left ≡ m → AreCounted m hs → AreCounted n (hs ++ h ∷ [])
counted_more m n [] h e l c = (omega (arith, length-append (block_pairs h) []), tt)
counted_more m n (g ∷ hs) h e l c =
    let pairs : pairs_of (hs ++ h ∷ []) ≡ pairs_of hs ++ block_pairs h = flat_map-append block_pairs hs (h ∷ []) ∙ ap (λ xs. pairs_of hs ++ xs) (append-nil (block_pairs h)) in
    (omega (arith, c.0, length-append (block_pairs g) (pairs_of (hs ++ h ∷ [])), length-append (block_pairs g) (pairs_of hs), ap length pairs, length-append (pairs_of hs) (block_pairs h)), counted_more m n hs h e l c.1)

pub grows_none : (g : Growing) → Grows [] g g
grows_none g = record { more = sym (append-nil (pairs_of g.blocks.items)); fewer = omega arith; sized = λ s. s; counted = λ c. c }

pub grows_on : (xs ys : List Pair) (f g h : Growing) → Grows xs f g → Grows ys g h → Grows (xs ++ ys) f h
grows_on xs ys f g h a b = record {
  more = b.more ∙ ap (λ zs. zs ++ ys) a.more ∙ append_assoc (pairs_of f.blocks.items) xs ys;
  fewer = omega (arith, a.fewer, b.fewer, length-append xs ys);
  sized = λ s. b.sized (a.sized s);
  counted = λ c. b.counted (a.counted c);
}

-- one block more
pub grows_by : (old new : Growing) (h : Held) → new.blocks.items ≡ old.blocks.items ++ h ∷ [] → h.left ≡ old.lacking → old.lacking ≡ length (block_pairs h) + new.lacking → HasSize (block_pairs h) → Grows (block_pairs h) old new
grows_by old new h e l f s = record {
  more = ap pairs_of e ∙ flat_map-append block_pairs old.blocks.items (h ∷ []) ∙ ap (λ xs. pairs_of old.blocks.items ++ xs) (append-nil (block_pairs h));
  fewer = f;
  sized = λ a. subst (All IsSized) (sym e) (All-push IsSized old.blocks.items h a s);
  counted = λ c. subst (AreCounted new.lacking) (sym e) (counted_more old.lacking new.lacking old.blocks.items h f l c);
}

-- the pairs of one block more
pub pairs_more : (hs : List Held) (i : ℕ) (d : Held) → i < length hs → pairs_of (take (i + 1) hs) ≡ pairs_of (take i hs) ++ block_pairs (get_or hs i d)
pairs_more hs i d l = ap pairs_of (take_more hs i d l) ∙ flat_map-append block_pairs (take i hs) (get_or hs i d ∷ []) ∙ ap (λ xs. pairs_of (take i hs) ++ xs) (append-nil (block_pairs (get_or hs i d)))

pub pairs_within : (hs : List Held) (i : ℕ) → length (pairs_of (take i hs)) ≤ length (pairs_of hs)
pairs_within hs i = omega (arith, length-append (pairs_of (take i hs)) (pairs_of (drop i hs)), ap length (sym (flat_map-append block_pairs (take i hs) (drop i hs)) ∙ ap pairs_of (take-append-drop i hs)))

-- what a trie is made of
pub grown_pairs : (pairs : List Pair) (old new : Growing) → old.blocks.items ≡ [] → Grows pairs old new → pairs_of new.blocks.items ≡ pairs
grown_pairs pairs old new e g = g.more ∙ ap (λ hs. pairs_of hs ++ pairs) e

pub grown_in_order : (pairs : List Pair) (old new : Growing) → old.blocks.items ≡ [] → old.lacking ≡ length pairs → Grows pairs old new → IsRising Below pairs → AreInOrder new.blocks.items
grown_in_order pairs old new e l g r = record {
  ordered = subst (IsRising Below) (sym (grown_pairs pairs old new e g)) r;
  sized = g.sized (subst (All IsSized) (sym e) (All-nil IsSized));
  counted = subst (λ n. AreCounted n new.blocks.items) none (g.counted (subst (AreCounted old.lacking) (sym e) tt));
} where
  none : new.lacking ≡ 0
  none = omega (arith, l, g.fewer)
