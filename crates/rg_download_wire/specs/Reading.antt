-- The reading of a part of a download: the part, or the first fault.
use Rattle.std.specs.Prelude.{ℕ, List, [], codes, Option, Some, None, is_some, unwrap_or, Result, Err, if◌then◌else◌}
use Rattle.serde_json.specs.Data.{Data, null}
use Rattle.serde_json.specs.Find.{as_object}
use Rattle.rg_cmd.specs.declared.download.PolicyPart.{PolicyPart}
use Rattle.rg_cmd.specs.declared.download.PolicyPart.TheVariants as policies
use Rattle.rg_cmd.specs.declared.download.RolePart.{RolePart}
use Rattle.rg_cmd.specs.declared.download.RolePart.TheVariants as roles
use Rattle.rg_cmd.specs.declared.download.TagPart.{TagPart}
use Rattle.rg_cmd.specs.declared.download.TagPart.TheVariants as tags
use Rattle.rg_json.specs.declared.fault.Fault.{Fault}
use Rattle.rg_json.specs.declared.fault.WireKind.TheVariants.{Missing, Mistyped, Syntax}
use Rattle.rg_json.specs.Fields.{field}
use Rattle.rg_json.specs.Reading.{reading_of}
use Rattle.rg_json.specs.Shape.{Shape}
use Rattle.rg_json.specs.Texts.{data_of}
use Rattle.rg_wire.specs.declared.key.Key.TheVariants as key
use Rattle.rg_wire.specs.Names.{name_of}
use Rattle.rg_wire.specs.Shapes.{policy_delta_shape, policy_whole_shape, role_whole_shape, tag_delta_shape, tag_whole_shape}
use Rattle.rg_download_wire.specs.Parts.{policy_delta_of, policy_whole_of, role_whole_of, tag_delta_of, tag_whole_of}

-- the fault where a map says neither what changed nor what there is
abbrev pub no_whole : Fault
no_whole = record { path = codes "/whole"; kind = Missing }

-- the part that `whole` makes. The path of a fault is within what `whole` has
abbrev pub by_whole : {P : Type 0} → Shape → (Data → P) → Option Data → Result P Fault
by_whole shape made None = Err no_whole
by_whole shape made (Some d) = reading_of shape made (Some d)

-- the part that `delta` makes, or else the other. The path of a fault is within what `delta` has
abbrev pub by_delta : {P : Type 0} → Shape → (Data → P) → Option Data → Result P Fault → Result P Fault
by_delta shape made None other = other
by_delta shape made (Some d) other = reading_of shape made (Some d)

-- the first fault, or else what is read without one
abbrev pub after : {P : Type 0} → Option Fault → Result P Fault → Result P Fault
after None read = read
after (Some fault) read = Err fault

-- the fault of a text that is no map
abbrev pub no_map : Option Data → Option Fault
no_map None = Some (record { path = []; kind = Syntax })
no_map (Some d) = if is_some (as_object d) then None else Some (record { path = []; kind = Mistyped })

-- what a map makes
abbrev pub in_map : {P : Type 0} → (Data → Result P Fault) → Option Data → Result P Fault
in_map taken json = after (no_map json) (taken (unwrap_or json null))

-- ---- policies

abbrev pub policies_by_delta : Data → PolicyPart
policies_by_delta d = policies.Delta (policy_delta_of d)

abbrev pub policies_by_whole : Data → PolicyPart
policies_by_whole d = policies.Whole (policy_whole_of d)

abbrev pub policy_part_in : Data → Result PolicyPart Fault
policy_part_in d = by_delta policy_delta_shape policies_by_delta (field (name_of key.Delta) d)
    (by_whole policy_whole_shape policies_by_whole (field (name_of key.Whole) d))

-- the policies part of a text, or else the text's first fault
abbrev pub policy_part_reading : List ℕ → Result PolicyPart Fault
policy_part_reading bytes = in_map policy_part_in (data_of bytes)

-- ---- tag rows

abbrev pub tags_by_delta : Data → TagPart
tags_by_delta d = tags.Delta (tag_delta_of d)

abbrev pub tags_by_whole : Data → TagPart
tags_by_whole d = tags.Whole (tag_whole_of d)

abbrev pub tag_part_in : Data → Result TagPart Fault
tag_part_in d = by_delta tag_delta_shape tags_by_delta (field (name_of key.Delta) d)
    (by_whole tag_whole_shape tags_by_whole (field (name_of key.Whole) d))

-- the tags part of a text, or else the text's first fault
abbrev pub tag_part_reading : List ℕ → Result TagPart Fault
tag_part_reading bytes = in_map tag_part_in (data_of bytes)

-- ---- roles, of which there is no delta

abbrev pub roles_by_whole : Data → RolePart
roles_by_whole d = roles.Whole (role_whole_of d)

abbrev pub role_part_in : Data → Result RolePart Fault
role_part_in d = by_whole role_whole_shape roles_by_whole (field (name_of key.Whole) d)

-- the roles part of a text, or else the text's first fault
abbrev pub role_part_reading : List ℕ → Result RolePart Fault
role_part_reading bytes = in_map role_part_in (data_of bytes)
