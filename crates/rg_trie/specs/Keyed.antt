-- What stands under one key, and under the prefixes of a text one after the other.
use Rattle.std.specs.Prelude.{ℕ, Bool, not, List, [], ◌∷◌, ◌++◌, map, filter}
use Rattle.std.specs.Ordering.{is_lt, is_eq, is_gt}
use Rattle.std.specs.Str.{bytes_eq}
use Rattle.rg_trie.specs.declared.pair.Filed.{Filed}
use Rattle.rg_trie.specs.declared.pair.Pair.{Pair}
use Rattle.rg_trie.specs.Pairs.{entry_order}

abbrev pub has_key : List ℕ → Pair → Bool
has_key key p = bytes_eq p.key key

-- the entries under this key
abbrev pub entries_of_key : List ℕ → List Pair → List Filed
entries_of_key key pairs = map (λ (p : Pair). p.entry) (filter (has_key key) pairs)

-- the entries under a prefix, then those under each that is one character longer
abbrev pub prefix_entries : List ℕ → List ℕ → List Pair → List Filed
prefix_entries seen [] pairs = entries_of_key seen pairs
prefix_entries seen (c ∷ rest) pairs = entries_of_key seen pairs ++ prefix_entries (seen ++ c ∷ []) rest pairs

-- entries with this one in its place, and without it
abbrev pub with_entry : Filed → List Filed → List Filed
with_entry e entries = filter (λ x. is_lt (entry_order x e)) entries ++ e ∷ filter (λ x. is_gt (entry_order x e)) entries

abbrev pub without_entry : Filed → List Filed → List Filed
without_entry e entries = filter (λ x. not (is_eq (entry_order x e))) entries
