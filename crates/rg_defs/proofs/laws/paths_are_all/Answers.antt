use Rattle.rg_defs.proofs.Few.{levels_hold}
use Rattle.rg_defs.proofs.Whole.{member_is_path, path_is_member}
use Rattle.rg_defs.proofs.laws.paths_are_all.Goals as goal

pub returns : goal.returns
returns c = λ def h path.
    let k = levels_hold def h in
    (member_is_path def.levels.items (record { named = k.0; rooted = k.1 }) path, path_is_member def.levels.items (record { named = k.0; rooted = k.1 }) path)
