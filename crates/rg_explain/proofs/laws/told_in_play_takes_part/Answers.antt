use Rattle.std.proofs.Common.{◌&&◌, ap}
use Rattle.rg_facts.specs.Candidates.{is_chosen}
use Rattle.rg_explain.specs.Explaining.{asked_of}
use Rattle.rg_explain.proofs.laws.told_in_play_takes_part.Goals as goal

pub returns : goal.returns
returns c = λ s d. ap (λ b. is_chosen s d && b) (c.told_in_play_where_it_is.ensures (asked_of s d) d.source.policy)
