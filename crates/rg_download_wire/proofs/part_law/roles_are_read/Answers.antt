use Rattle.rg_download_wire.proofs.PartsItself.{roles_printed_again}
use Rattle.rg_download_wire.proofs.part_law.roles_are_read.Goals as goal

pub returns : goal.returns
returns c = roles_printed_again c.args.part.now _ c.in_ok-value.ensures c.in_ok-_text.ensures.back
