use Rattle.std.proofs.Common.{◌≡◌, length}
use Rattle.std.specs.Ordering.{int_eq}
use Rattle.rg_base.specs.Texts.{all_distinct}
use Rattle.rg_tags.specs.declared.row.TagRow.{TagRow}
use Rattle.rg_validate.proofs.valid.tag_row_ids_distinct.Given as goal

-- the rest decides
abbrev pub invariant-loop-row : goal.invariant-loop-row
invariant-loop-row l = all_distinct (λ (a b : TagRow). int_eq a.id b.id) l.rest ≡ all_distinct (λ (a b : TagRow). int_eq a.id b.id) l.rows

abbrev pub decreases-loop-row : goal.decreases-loop-row
decreases-loop-row l = length l.rest
