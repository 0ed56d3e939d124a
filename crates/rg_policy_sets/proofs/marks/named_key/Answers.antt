use Rattle.std.specs.Str.{chars}
use Rattle.rg_policy_sets.proofs.Marking.{found_written}
use Rattle.rg_policy_sets.proofs.marks.named_key.Goals as goal

pub resource_key-requires : goal.resource_key-requires
resource_key-requires c = found_written (chars c.as_str.result.now) c.args.resources.now c.in-Some.resource.now c.requires c.in-Some.ensures
