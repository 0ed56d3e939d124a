use Rattle.std.proofs.Common.{ap, ◌∙◌}
use Rattle.std.specs.Str.{chars}
use Rattle.rg_trie.proofs.Texts.{cut_at_rest, rest_within, seen_before}
use Rattle.rg_trie.proofs.order.up_to.Goals as goal

pub overflow_sub-text : goal.overflow_sub-text
overflow_sub-text c = rest_within _ _ c.requires.0 c.utf8.text c.utf8.rest c.requires.1

pub split_at-requires : goal.split_at-requires
split_at-requires c = cut_at_rest _ _ c.requires.0 c.utf8.text c.utf8.rest c.requires.1

pub returns : goal.returns
returns c seen e = ap chars c.split_at.ensures.front ∙ seen_before _ _ seen c.utf8.text c.utf8.rest e
