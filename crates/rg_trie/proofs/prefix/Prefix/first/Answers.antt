use Rattle.std.proofs.lemmas.Str.{chars-nil}
use Rattle.std.specs.Str.{chars}
use Rattle.rg_trie.specs.Pairs.{folded}
use Rattle.rg_trie.proofs.Parting.{parted_first}
use Rattle.rg_trie.proofs.prefix.Prefix.first.Goals as goal

pub invariant_of-result : goal.invariant_of-result
invariant_of-result c = parted_first c.args.fold (chars c.args.value.now) _ chars-nil

pub returns : goal.returns
returns c = λ i. record { seen = folded c.args.fold (chars-nil i); rest = folded c.args.fold (chars c.args.value.now) }
