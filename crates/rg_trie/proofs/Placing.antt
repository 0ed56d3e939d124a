-- A bucket that an edit puts in its place.
use Rattle.std.proofs.Common.{◌≡◌, ℕ, ◌+◌, ◌==◌, Bool, false, List, [], length, cond, Option, unwrap_or, sym, ap, ◌∙◌, subst}
use Rattle.rg_tree.specs.declared.tree.Tree.{Tree}
use Rattle.rg_tree.specs.Hashes.{hash_of}
use Rattle.rg_tree.specs.Trees.{at}
use Rattle.rg_trie.specs.declared.pair.Pair.{Pair}
use Rattle.rg_trie.specs.Edited.{with_pair, without_pair}
use Rattle.rg_trie.specs.Hashed.{IsFiled, may_occur}
use Rattle.rg_trie.proofs.Holding.{filed_with, filed_without}

module _ (p : Pair) (old new : Tree (List Pair)) (hash : ℕ) (hashed : hash ≡ hash_of false p.key) (got bucket : Option (List Pair)) (got_is : got ≡ at hash old)
    (put : (k : ℕ) → at k new ≡ cond (k == hash) bucket (at k old)) (occurs : List Bool) (total : ℕ) (pairs shown : List Pair) (held : IsFiled old occurs total pairs) where
  put_there : (k : ℕ) → at k new ≡ cond (k == hash_of false p.key) bucket (at k old)
  put_there k = put k ∙ ap (λ n. cond (k == n) bucket (at k old)) hashed

  got_there : got ≡ at (hash_of false p.key) old
  got_there = got_is ∙ ap (λ n. at n old) hashed

  pub inserted : (more : List Bool) (next count : ℕ) → unwrap_or bucket [] ≡ with_pair p (unwrap_or got []) → next ≡ total + 1 → count ≡ length p.key
      → ((n : ℕ) → may_occur more n ≡ false → (may_occur occurs n ≡ false) × (n ≡ count → ⊥)) → shown ≡ with_pair p pairs → IsFiled new more next shown
  inserted more next count b n c marked s =
      let made = filed_with p old new bucket put_there occurs more total pairs held (b ∙ ap (λ o. with_pair p (unwrap_or o [])) got_there) (λ k f. let m = marked k f in (m.0, λ e. m.1 (e ∙ sym c))) in
      subst (λ (ps : List Pair). IsFiled new more next ps) (sym s) (subst (λ k. IsFiled new more k (with_pair p pairs)) (sym n) made)

  pub removed : unwrap_or bucket [] ≡ without_pair p (unwrap_or got []) → shown ≡ without_pair p pairs → IsFiled new occurs total shown
  removed b s =
      let made = filed_without p old new bucket put_there occurs total pairs held (b ∙ ap (λ o. without_pair p (unwrap_or o [])) got_there) in
      subst (λ (ps : List Pair). IsFiled new occurs total ps) (sym s) made
