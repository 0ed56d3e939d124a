-- The prefixes of a text, their lengths and their states.
use Rattle.std.proofs.Common.{◌≡◌, ℕ, ◌+◌, Bool, false, List, [], ◌∷◌, ◌++◌, length, refl, sym, ap, ◌∙◌, subst, append_assoc}
use Rattle.std.proofs.lemmas.List.{length-append, map-append}
use Rattle.rg_base.specs.Folding.{folded_char}
use Rattle.rg_tree.specs.Hashes.{state_after, step}
use Rattle.rg_tree.proofs.Steps.{one_more}
use Rattle.rg_trie.specs.Hashed.{IsParted, capped}
use Rattle.rg_trie.specs.Pairs.{fold_character, folded}

-- ---- the empty prefix

pub parted_first : (fold : Bool) (value seen : List ℕ) → seen ≡ [] → IsParted fold value seen value 0 0
parted_first fold value seen e = subst (λ (s : List ℕ). IsParted fold value s value 0 0) (sym e) (record { whole = refl; counted = refl; hashed = refl })

-- ---- one character more

pub whole_more : (value seen rest others : List ℕ) (c : ℕ) → value ≡ seen ++ rest → rest ≡ c ∷ others → value ≡ (seen ++ c ∷ []) ++ others
whole_more value seen rest others c w e = w ∙ ap (λ xs. seen ++ xs) e ∙ sym (append_assoc seen (c ∷ []) others)

module _ (fold : Bool) (seen rest others later : List ℕ) (c : ℕ) (split : rest ≡ c ∷ others) (grown : later ≡ seen ++ c ∷ []) where
  pub parted_next : (value : List ℕ) (count more state : ℕ) → IsParted fold value seen rest count state → ((n : ℕ) → count ≡ capped n → more ≡ capped (n + 1)) → IsParted fold value later others more (step state (folded_char fold c))
  parted_next value count more state p m = record {
    whole = p.whole ∙ ap (λ xs. seen ++ xs) split ∙ sym (append_assoc seen (c ∷ []) others) ∙ ap (λ xs. xs ++ others) (sym grown);
    counted = m (length seen) p.counted ∙ ap capped (sym (length-append seen (c ∷ [])) ∙ ap length (sym grown));
    hashed = ap (λ n. step n (folded_char fold c)) p.hashed ∙ sym (one_more false 0 (folded fold seen) (folded_char fold c))
        ∙ ap (state_after false 0) (sym (map-append (fold_character fold) seen (c ∷ [])) ∙ ap (folded fold) (sym grown));
  }

  pub shown_next : (x : ℕ) × (folded fold rest ≡ x ∷ folded fold others) × (folded fold later ≡ folded fold seen ++ x ∷ [])
  shown_next = (fold_character fold c, ap (folded fold) split, ap (folded fold) grown ∙ map-append (fold_character fold) seen (c ∷ []))
