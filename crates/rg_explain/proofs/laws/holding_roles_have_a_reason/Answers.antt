use Rattle.std.proofs.Common.{◌∙◌}
use Rattle.rg_explain.proofs.Reasons.{members, row_names}
use Rattle.rg_explain.proofs.laws.holding_roles_have_a_reason.Goals as goal

pub returns : goal.returns
returns c = λ rows q row own within. c.member_is_told_where_named.ensures rows q (members row) ∙ row_names rows own q.user q.groups.items row within
