use Rattle.std.proofs.Common.{◌∙◌}
use Rattle.std.proofs.lemmas.Str.{chars-nil}
use Rattle.rg_plain_engine.proofs.Listing.{matcher_is}
use Rattle.rg_plain_engine.proofs.plain.row_lies.Goals as goal

pub returns : goal.returns
returns c = λ facts is. c.matches.ensures.answer ∙ matcher_is facts c.args.request.now c.args.row.now c.args.matcher.now _ is chars-nil
