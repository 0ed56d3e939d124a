-- The words of the command line.
use Rattle.std.specs.Prelude.{ℕ, ◌&&◌, List, [], ◌∷◌, Option, Some, None, if◌then◌else◌, codes}
use Rattle.rg_client.specs.Plain.{is_plain}

-- where an administration listens, the service whose plugin is asked for, and who asks
pub record Wanted : Type 0 where
  pub address : List ℕ
  pub service : List ℕ
  pub user : List ℕ

abbrev pub wanted : List ℕ → List ℕ → List ℕ → Option Wanted
wanted address service user =
    if is_plain address && (is_plain service && is_plain user)
    then Some (record { address = address; service = service; user = user })
    else None

unfoldable pub own_name : List ℕ
own_name = codes "rangerd-view"

-- two words, or a third one that says who asks; of others None
abbrev pub wanted_of : List (List ℕ) → Option Wanted
wanted_of [] = None
wanted_of (address ∷ []) = None
wanted_of (address ∷ service ∷ []) = wanted address service own_name
wanted_of (address ∷ service ∷ user ∷ []) = wanted address service user
wanted_of (address ∷ service ∷ user ∷ more ∷ words) = None
