-- What can be expected of a decision.
use Rattle.std.proofs.Common.{◌≡◌, ◌∷◌, ℕ, Bool, true, false, List, Option, ap, sym}
use Rattle.std.specs.List.{list_any}
use Rattle.serde_json.specs.Written.{has_float}
use Rattle.rg_json.specs.Printing.{option_data, text_data}
use Rattle.rg_json.proofs.Plain.{option_plain, text_plain}

pub filter_has_no_float : (filter : Option (List ℕ)) → has_float (option_data text_data filter) ≡ false
filter_has_no_float filter = (option_plain 0 text_data filter (text_plain 0)).0

pub ruleset filters = (filter_has_no_float)
