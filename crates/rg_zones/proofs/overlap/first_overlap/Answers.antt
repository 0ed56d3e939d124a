use Rattle.std.proofs.Common.{◌≡◌, ℕ, List, Option, None, length, ap, subst, ◌∙◌}
use Rattle.std.specs.List.{fold, range_with_len}
use Rattle.std.specs.Str.{chars}
use Rattle.rg_defs.specs.declared.service_def.Level.{Level}
use Rattle.rg_zones.specs.Candidates.{AreFiled, Filing, HoldsFirst, across, beside_all, meet_at}
use Rattle.rg_zone_rules.specs.Overlap.{place_pairs}
use Rattle.rg_zones.proofs.Searching.{found_first}
use Rattle.rg_zones.proofs.overlap.first_overlap.Goals as goal

pub returns-clause-test : goal.returns-clause-test
returns-clause-test c =
    let service = chars c.args.service.now in
    let def = c.args.def.now in
    let zones = c.args.zones.now in
    let filed = c.in_ok-filed.filed.items in
    let trie = c.in_ok-trie.trie in
    let levels : c.in_ok-paths.paths ≡ def.levels.items = c.in_ok-paths.ensures in
    let placed : AreFiled def.levels.items filed = subst (λ (ls : List Level). AreFiled ls filed) levels c.in_ok-filed.ensures.filed in
    let holds : HoldsFirst trie filed (length filed) = subst (λ (fs : List Filing). HoldsFirst trie fs (length fs)) c.deref.ensures.value c.in_ok-trie.ensures in
    let first : c.in_ok-across.across ≡ fold (across (meet_at def.levels.items filed) filed) None (place_pairs (length filed)) =
    c.in_ok-across.ensures
    ∙ ap (λ (fs : List Filing). fold (across (meet_at c.in_ok-paths.paths fs) fs) None (place_pairs (length fs))) c.deref-2.ensures.value
    ∙ ap (λ (ls : List Level). fold (across (meet_at ls filed) filed) None (place_pairs (length filed))) levels in
    c.in_ok-words.ensures
    ∙ c.in_ok-pair.ensures
    ∙ ap (λ (fs : List Filing). fold (beside_all (meet_at c.in_ok-paths.paths fs) trie fs) c.in_ok-across.across (range_with_len 0 (length fs))) c.deref-3.ensures.value
    ∙ ap (λ (ls : List Level). fold (beside_all (meet_at ls filed) trie filed) c.in_ok-across.across (range_with_len 0 (length filed))) levels
    ∙ ap (λ (best : Option (ℕ × ℕ)). fold (beside_all (meet_at def.levels.items filed) trie filed) best (range_with_len 0 (length filed))) first
    ∙ found_first service def zones trie filed c.in_ok-filed.ensures.exact placed holds
