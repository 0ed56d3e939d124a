use Rattle.std.proofs.Common.{sym, ◌∙◌}
use Rattle.rg_pattern.specs.Tests.{covers}
use Rattle.rg_pattern.proofs.Suffixes.{some_suffix_whole}
use Rattle.rg_pattern.proofs.covering.covers_suffix.Goals as goal

pub returns-in-Whole : goal.returns-in-Whole
returns-in-Whole c = sym (c.retry.invariant ∙ some_suffix_whole (covers c.args.fold c.retry.pattern.now) c.retry.other.now c.in-Whole.ensures)
