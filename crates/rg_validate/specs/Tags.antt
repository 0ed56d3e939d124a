-- The rules of tag rows.
use Rattle.std.specs.Prelude.{ℤ, pos, int_lt, ◌&&◌, not, Bool, true, Option, Some, None}
use Rattle.std.specs.Str.{bytes_eq}
use Rattle.rg_resmatch.specs.Rules.{tagged_fit}
use Rattle.rg_tags.specs.declared.row.TagRow.{TagRow}
use Rattle.rg_cmd.specs.Lookups.{def_of, is_tag_service, tag_row_at}
use Rattle.rg_cmd.specs.declared.state.State.{State}
use Rattle.rg_validate.specs.Definitions.{under}

-- G1: the service isn't of definition `tag`
abbrev pub tagged_service_fits : State → TagRow → Bool
tagged_service_fits s row = not (is_tag_service s row.service)

-- G2: the resources meet V5 without mandatory levels and V6, and no value has `{USER}`
abbrev pub tagged_resources_fit : State → TagRow → Bool
tagged_resources_fit s row = under (def_of s row.service) (λ def. tagged_fit def row.resources.items)

-- the row that is replaced, if there is one, is of the same service
abbrev pub row_stays_in : Option TagRow → TagRow → Bool
row_stays_in None row = true
row_stays_in (Some old) row = bytes_eq old.service row.service

-- G4: the id is at least 1, and a row that has it is of the same service
abbrev pub row_id_fits : State → ℤ → TagRow → Bool
row_id_fits s id row = int_lt (pos 0) id && row_stays_in (tag_row_at s id) row
