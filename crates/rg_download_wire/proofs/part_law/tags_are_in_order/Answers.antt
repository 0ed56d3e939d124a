use Rattle.std.proofs.lemmas.Result.{on_ok_weaker}
use Rattle.rg_json.specs.Texts.{data_of}
use Rattle.rg_download_wire.proofs.PartsOwned.{tags_in_order}
use Rattle.rg_download_wire.proofs.part_law.tags_are_in_order.Goals as goal

pub returns : goal.returns
returns c = on_ok_weaker c.json_is_orderly.result (tags_in_order (data_of c.args.text.now)) c.json_is_orderly.ensures
