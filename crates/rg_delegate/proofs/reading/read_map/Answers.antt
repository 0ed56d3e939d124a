use Rattle.rg_delegate.proofs.Fitting.{values_written}
use Rattle.rg_delegate.proofs.reading.read_map.Goals as goal

pub read_levels-requires : goal.read_levels-requires
read_levels-requires c = values_written c.args.def.now c.args.resources.now c.requires
