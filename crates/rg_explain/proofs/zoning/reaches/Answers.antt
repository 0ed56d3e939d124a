use Rattle.std.proofs.lemmas.Str.{chars-nil}
use Rattle.rg_explain.proofs.zoning.reaches.Goals as goal

pub returns : goal.returns
returns c = rw (c.as_slice-levels.ensures, chars-nil) at c.resources_lie.ensures
