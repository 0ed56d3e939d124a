use Rattle.rg_test_script.proofs.Alike.{tested_alike}
use Rattle.rg_test_script.proofs.laws.tested_as_replayed.Goals as goal

pub returns : goal.returns
returns c = λ form lines moments tests is done. tested_alike form lines moments tests is done
