use Rattle.std.proofs.lemmas.Str.{IsUtf8-string_bytes}
use Rattle.rg_ask_wire.proofs.orderly.see_text.Goals as goal

pub returns : goal.returns
returns c = IsUtf8-string_bytes c.args.text.now
