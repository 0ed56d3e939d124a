use Rattle.std.proofs.Common.{rules}
use Rattle.std.proofs.lemmas.Str.{encodes-chars}
use Rattle.rg_client.specs.Questions.{question_text}
use Rattle.rg_client.proofs.question.question_text.Goals as goal

pub returns : goal.returns
unfolding question_text
returns c =
    rw (encodes-chars c.args.target.now c.utf8.target, encodes-chars c.args.host.now c.utf8.host, encodes-chars c.args.user.now c.utf8.user) (search rules)
