-- The order in which levels are asked: whether they are levels, then whether they are distinct.
use Rattle.std.proofs.Common.{◌≡◌, ◌&&◌, Bool, true, false, refl}

pub levels_first : (known distinct rest : Bool) → (known && (distinct && rest)) ≡ (distinct && (known && rest))
levels_first true true rest = refl
levels_first true false rest = refl
levels_first false true rest = refl
levels_first false false rest = refl
