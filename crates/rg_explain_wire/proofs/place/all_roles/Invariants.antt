use Rattle.std.proofs.Common.{◌≡◌, string_bytes, take}
use Rattle.std.specs.Prelude.{flat_map}
use Rattle.rg_explain_wire.specs.Words.{role_words}
use Rattle.rg_explain_wire.proofs.place.all_roles.Given as goal

abbrev pub invariant-loop-held : goal.invariant-loop-held
invariant-loop-held l = string_bytes l.text ≡ flat_map role_words (take l.held-index l.roles)
