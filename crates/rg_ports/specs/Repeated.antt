-- Lists whose last item repeats.
use Rattle.std.specs.Prelude.{ℕ, ◌-◌, min, List, length, slice_index_or}

-- the item at this place, counted from 0; past the end the last item; of no items, what is usual
abbrev pub repeated : {T : Type 0} → T → List T → ℕ → T
repeated usual items place = slice_index_or items (min place (length items - 1)) usual
