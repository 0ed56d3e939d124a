use Rattle.rg_pattern.proofs.Table.{overlap_holds, overlap_from}
use Rattle.rg_pattern.proofs.laws.overlap_is_decided.Goals as goal

pub returns-clause-shown : goal.returns-clause-shown
returns-clause-shown c = overlap_from

pub returns-clause-found : goal.returns-clause-found
returns-clause-found c = λ fold p q m n s z. overlap_holds fold p q (m, s) (n, z)
