-- The words of the command line.
use Rattle.std.specs.Prelude.{ℕ, ◌&&◌, nat_le, Bool, List, [], ◌∷◌, length, Option, Some, None, if◌then◌else◌, option_map}
use Rattle.std.specs.Char.{is_ascii_digit}
use Rattle.std.specs.List.{list_all}
use Rattle.std.specs.Str.Parse.{digits_value}
use Rattle.rg_client.specs.Plain.{is_plain}

-- where the administration listens, the plugin's service, the file of its cache, where it listens, the seconds between two rounds, and the
-- file of audit lines, if there is one
pub record Wanted : Type 0 where
  pub administration : List ℕ
  pub service : List ℕ
  pub cache : List ℕ
  pub address : List ℕ
  pub seconds : ℕ
  pub audit : Option (List ℕ)

-- 1 to 5 digits
abbrev pub is_numeral : List ℕ → Bool
is_numeral word = nat_le 1 (length word) && (nat_le (length word) 5 && list_all is_ascii_digit word)

-- from a second to a day
abbrev pub within_a_day : ℕ → Option ℕ
within_a_day n = if nat_le 1 n && nat_le n 86400 then Some n else None

unfoldable pub seconds_of : List ℕ → Option ℕ
seconds_of word = if is_numeral word then within_a_day (digits_value 10 word) else None

abbrev pub wanted : List ℕ → List ℕ → List ℕ → List ℕ → List ℕ → Option (List ℕ) → Option Wanted
wanted administration service cache address seconds audit =
    if is_plain administration && is_plain service
    then option_map (λ n. record { administration = administration; service = service; cache = cache; address = address; seconds = n; audit = audit }) (seconds_of seconds)
    else None

-- five words, or a sixth one that names a file of audit lines; of others None
abbrev pub wanted_of : List (List ℕ) → Option Wanted
wanted_of (administration ∷ service ∷ cache ∷ address ∷ seconds ∷ []) = wanted administration service cache address seconds None
wanted_of (administration ∷ service ∷ cache ∷ address ∷ seconds ∷ audit ∷ []) = wanted administration service cache address seconds (Some audit)
wanted_of _ = None
