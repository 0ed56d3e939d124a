use Rattle.std.proofs.Common.{◌≡◌, filter, string_bytes, take}
use Rattle.std.specs.Prelude.{flat_map}
use Rattle.rg_explain_wire.specs.Listing.{is_listed}
use Rattle.rg_explain_wire.specs.Words.{line_words}
use Rattle.rg_explain_wire.proofs.words.listed_words.Given as goal

abbrev pub invariant-loop-told : goal.invariant-loop-told
invariant-loop-told l = string_bytes l.text ≡ flat_map line_words (filter (is_listed l.all) (take l.told-index l.explanation.policies.items))
