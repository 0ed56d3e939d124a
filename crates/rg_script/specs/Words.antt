-- The words of a line.
use Rattle.std.specs.Prelude.{ℕ, ◌+◌, nat_lt, List, [], ◌∷◌, length, take, drop, codes, find, Option, Some, None, if◌then◌else◌}
use Rattle.std.specs.Str.{bytes_eq}
use Rattle.rg_script.specs.declared.word.Word.{Word}
use Rattle.rg_script.specs.declared.word.Word.TheVariants.{Facts, Config, Admin, Refresh, Decide}
use Rattle.rg_script.specs.Ends.{len_before}

-- how a word is spelled
unfoldable pub word_text : Word → List ℕ
word_text Facts = codes "facts"
word_text Config = codes "config"
word_text Admin = codes "admin"
word_text Refresh = codes "refresh"
word_text Decide = codes "decide"

-- the word that is spelled so
unfoldable pub word_of : List ℕ → Option Word
word_of text = find (λ word. bytes_eq (word_text word) text) (Facts ∷ Config ∷ Admin ∷ Refresh ∷ Decide ∷ [])

-- what stands before the first space
unfoldable pub front_word : List ℕ → List ℕ
front_word line = take (len_before 32 line) line

-- what follows the first space, where there is one
unfoldable pub behind_space : List ℕ → Option (List ℕ)
behind_space line = if nat_lt (len_before 32 line) (length line) then Some (drop (len_before 32 line + 1) line) else None
