use Rattle.std.proofs.lemmas.Str.{chars-nil}
use Rattle.rg_explain.proofs.parts.row_lies.Goals as goal

pub returns : goal.returns
returns c = rw (c.as_slice-resources.ensures, c.as_slice-elements.ensures, chars-nil) at c.resources_lie.ensures
