-- The words of the command line.
use Rattle.std.specs.Prelude.{ℕ, Bool, List, [], ◌∷◌, Option, Some, None, codes, if◌then◌else◌}
use Rattle.std.specs.Str.{bytes_eq}

-- the file in which commands are kept, where it listens, the file of audit lines, if there is one, and where pages are served, if anywhere
pub record Wanted : Type 0 where
  pub file : List ℕ
  pub address : List ℕ
  pub audit : Option (List ℕ)
  pub metrics : Option (List ℕ)

-- the word before the address of the pages
unfoldable pub is_metrics : List ℕ → Bool
is_metrics word = bytes_eq word (codes "--metrics")

abbrev pub with_audit : List ℕ → List ℕ → List ℕ → Option Wanted
with_audit file address audit = if is_metrics audit then None else Some (record { file = file; address = address; audit = Some audit; metrics = None })

abbrev pub with_metrics : List ℕ → List ℕ → Option (List ℕ) → List ℕ → List ℕ → Option Wanted
with_metrics file address audit word metrics = if is_metrics word then Some (record { file = file; address = address; audit = audit; metrics = Some metrics }) else None

-- a file and an address, a file of audit lines or none, and then the address of the pages behind its word or none; of others None
abbrev pub wanted_of : List (List ℕ) → Option Wanted
wanted_of (file ∷ address ∷ []) = Some (record { file = file; address = address; audit = None; metrics = None })
wanted_of (file ∷ address ∷ audit ∷ []) = with_audit file address audit
wanted_of (file ∷ address ∷ word ∷ metrics ∷ []) = with_metrics file address None word metrics
wanted_of (file ∷ address ∷ audit ∷ word ∷ metrics ∷ []) = with_metrics file address (Some audit) word metrics
wanted_of _ = None
