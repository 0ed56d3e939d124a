use Rattle.rg_defs.proofs.Above.{above_from, above_holds}
use Rattle.rg_defs.proofs.Few.{levels_hold}
use Rattle.rg_defs.proofs.laws.above_is_decided.Goals as goal

pub returns : goal.returns
returns c = λ def h upper lower.
    let k = levels_hold def h in
    (above_holds def.levels.items (record { named = k.0; rooted = k.1 }) upper lower, above_from def.levels.items (record { named = k.0; rooted = k.1 }) upper lower)
