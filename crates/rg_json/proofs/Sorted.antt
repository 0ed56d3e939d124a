-- The members of a map are in byte order of their keys, and their keys are text.
use Rattle.std.proofs.Common.{List, [], ◌∷◌, map, String, Global, string_bytes, string_cmp}
use Rattle.std.specs.List.Sorted.{IsStrictlySortedBy}
use Rattle.std.specs.Map.{keys_of}
use Rattle.std.proofs.lemmas.Str.{IsUtf8-string_bytes}
use Rattle.serde_json.specs.View.{view}
use Rattle.serde_json.specs.declared.value.Value.{Value}
use Rattle.rg_json.specs.Own.{IsSorted}

pub sorted : (es : List (String Global × Value)) → IsStrictlySortedBy string_cmp (keys_of es) → IsSorted (map (λ m. (string_bytes m.0, view m.1)) es)
unfolding IsStrictlySortedBy
sorted [] h = tt
sorted (e ∷ []) h = (IsUtf8-string_bytes e.0, tt, tt)
sorted (e ∷ f ∷ es) h = (IsUtf8-string_bytes e.0, h.0.0, sorted (f ∷ es) h.1)
