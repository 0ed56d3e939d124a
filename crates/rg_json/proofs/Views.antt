-- The parts of a JSON value as lists.
use Rattle.std.proofs.Common.{◌≡◌, List, [], ◌∷◌, map, refl, ap, String}
use Rattle.std.specs.Prelude.{string_bytes}
use Rattle.std.specs.declared.alloc.Global.{Global}
use Rattle.serde_json.specs.Data.{Data}
use Rattle.serde_json.specs.View.{view, items_of, items_view, members_view}
use Rattle.serde_json.specs.declared.value.Value.{Value}
use Rattle.rg_json.specs.Fields.{data_list, pairs_list}

pub data_list-of : (ds : List Data) → data_list (items_of ds) ≡ ds
data_list-of [] = refl
data_list-of (d ∷ ds) = ap (λ (rest : List Data). d ∷ rest) (data_list-of ds)

pub data_list-view : (values : List Value) → data_list (items_view values) ≡ map view values
data_list-view values = data_list-of (map view values)

pub pairs_list-view : (members : List (String Global × Value)) → pairs_list (members_view members) ≡ map (λ m. (string_bytes m.0, view m.1)) members
pairs_list-view [] = refl
pairs_list-view (m ∷ members) = ap (λ rest. (string_bytes m.0, view m.1) ∷ rest) (pairs_list-view members)

pub ruleset views = (data_list-view, pairs_list-view)
