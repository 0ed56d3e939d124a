use Rattle.std.proofs.Common.{ℕ, List, ap, ◌∙◌}
use Rattle.std.specs.List.{list_any}
use Rattle.std.specs.Str.{chars}
use Rattle.rg_trie.specs.Walked.{entries_under}
use Rattle.rg_trie.proofs.Orders.{folded_off}
use Rattle.rg_delegate.specs.Filing.{covers_at}
use Rattle.rg_delegate.proofs.filing.some_found_covers.Goals as goal

pub loop-found-init : goal.loop-found-init
loop-found-init c =
    ap (list_any (covers_at c.args.fold c.args.patterns.now c.args.other.now)) (
    c.walk-walk.ensures.given
    ∙ ap (λ (t : List ℕ). entries_under t c.args.filed.now) (folded_off (chars c.as_str.result.now) ∙ c.as_str.ensures.read)
    )
