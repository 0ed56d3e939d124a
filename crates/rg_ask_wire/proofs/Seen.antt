-- Parts of a value that were looked at, one after the other.
use Rattle.std.proofs.Common.{◌≡◌, ℕ, ◌+◌, ◌<◌, List, [], ◌∷◌, ◌++◌, take, get_or, length, string_cmp, sym, subst}
use Rattle.std.specs.List.Sorted.{IsStrictlySortedBy}
use Rattle.std.specs.Map.{keys_of}
use Rattle.std.proofs.lemmas.List.{take_more}
use Rattle.std.proofs.lemmas.Str.{IsUtf8-string_bytes}
use Rattle.serde_json.specs.View.{items_view, members_view, view}
use Rattle.serde_json.specs.declared.value.Value.{Value}
use Rattle.serde_json.proofs.Views.{Entry}
use Rattle.rg_ask_wire.specs.Orderly.{AreKeyed, AreOrderly, IsOrderly}

-- ---- lists

one_more : (vs : List Value) (v : Value) → AreOrderly (items_view vs) → IsOrderly (view v) → AreOrderly (items_view (vs ++ v ∷ []))
one_more [] v all here = (here, tt)
one_more (w ∷ vs) v all here = (all.0, one_more vs v all.1 here)

pub items_more : (vs : List Value) (i : ℕ) (v : Value) → i < length vs → v ≡ get_or vs i v → AreOrderly (items_view (take i vs)) → IsOrderly (view v) → AreOrderly (items_view (take (i + 1) vs))
items_more vs i v low is all here =
    subst (λ (ws : List Value). AreOrderly (items_view ws)) (sym (take_more vs i v low)) (one_more (take i vs) (get_or vs i v) all (subst (λ (w : Value). IsOrderly (view w)) is here))

-- ---- maps

-- the value of each member is in order
abbrev pub AllOrderly : List Entry → Type 0
AllOrderly [] = Unit {0}
AllOrderly (e ∷ es) = IsOrderly (view e.1) × AllOrderly es

pub members_more : (all rest next : List Entry) (e : Entry) → (AllOrderly rest → AllOrderly all) → rest ≡ e ∷ next → IsOrderly (view e.1) → AllOrderly next → AllOrderly all
members_more all rest next e whole is here left = whole (subst AllOrderly (sym is) (here, left))

pub keyed : (es : List Entry) → IsStrictlySortedBy string_cmp (keys_of es) → AllOrderly es → AreKeyed (members_view es)
unfolding IsStrictlySortedBy
keyed [] sorted all = tt
keyed (e ∷ []) sorted all = (IsUtf8-string_bytes e.0, tt, all.0, tt)
keyed (e ∷ f ∷ es) sorted all = (IsUtf8-string_bytes e.0, sorted.0.0, all.0, keyed (f ∷ es) sorted.1 all.1)
