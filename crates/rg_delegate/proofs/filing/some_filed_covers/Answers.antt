use Rattle.std.proofs.Common.{ap, ◌∙◌}
use Rattle.std.specs.List.{list_any}
use Rattle.rg_trie.specs.Walked.{entries_under}
use Rattle.rg_delegate.specs.Filing.{covers_at}
use Rattle.rg_delegate.proofs.Filed.{filed_suffice}
use Rattle.rg_delegate.proofs.filing.some_filed_covers.Goals as goal

pub returns : goal.returns
returns c =
    let fold = c.args.fold in
    let patterns = c.args.patterns.now in
    let filed = c.args.filed.now in
    let other = c.args.other.now in
    c.some_found_covers.ensures
    ∙ ap (λ prefix. list_any (covers_at fold patterns other) (entries_under prefix filed)) c.in_ok-prefix.ensures
    ∙ filed_suffice fold patterns filed other c.requires
