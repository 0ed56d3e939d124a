use Rattle.std.proofs.Common.{◌≡◌, ℕ, List, ap, ◌∙◌}
use Rattle.std.specs.List.{fold}
use Rattle.std.specs.Str.{chars}
use Rattle.rg_trie.specs.Walked.{entries_under}
use Rattle.rg_zones.specs.Candidates.{beside, meet_at}
use Rattle.rg_trie.proofs.Orders.{folded_off}
use Rattle.rg_zones.proofs.overlap.beside_found.Goals as goal

pub loop-found-init : goal.loop-found-init
loop-found-init c =
    let test = meet_at c.args.paths.now c.args.zones.now in
    let found : c.walk-walk.result ≡ entries_under c.args.key.now c.args.trie.now =
    c.walk-walk.ensures.given ∙ ap (λ (t : List ℕ). entries_under t c.args.trie.now) (folded_off (chars c.as_str.result.now) ∙ c.as_str.ensures.read) in
    ap (fold (beside test c.args.place) c.args.best) found
