use Rattle.rg_defs.proofs.Few.{levels_hold}
use Rattle.rg_defs.proofs.Whole.{lies_on_path}
use Rattle.rg_defs.proofs.laws.levels_lie_on_paths.Goals as goal

pub returns : goal.returns
returns c = λ def h place within.
    let k = levels_hold def h in
    lies_on_path def.levels.items (record { named = k.0; rooted = k.1 }) place within
