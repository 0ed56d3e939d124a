use Rattle.std.proofs.Common.{rules, ap, ◌∙◌, Bool, List, int_lt, option_map, slice_get}
use Rattle.std.proofs.lemmas.List.Sorted.{IsPartitionPoint-from_clause}
use Rattle.rg_policy_sets.specs.Kept.{Placed, held_at, last_ordinal}
use Rattle.rg_policy_sets.proofs.Paged.{found_in_page, one_or_none, pages_parted}
use Rattle.rg_policy_sets.proofs.pages.page_of.Goals as goal

pub returns : goal.returns
returns g c =
    let test : List (Placed _) → Bool = λ p. int_lt (last_ordinal p) c.args.ordinal in
    let parted = pages_parted c.args.ordinal c.args.pages.now c.requires.rising c.requires.filled in
    let point = IsPartitionPoint-from_clause test _ _ c.partition_point.ensures.partitioned parted (λ a r q k. search rules) in
    ap (option_map (λ (s : Placed _). s.held)) (found_in_page c.args.ordinal c.args.pages.now c.partition_point.result c.requires.rising c.requires.filled c.partition_point.ensures.bound point.0 point.1)
    ∙ ap (λ l. held_at l c.args.ordinal) (one_or_none (slice_get c.args.pages.now c.partition_point.result))
