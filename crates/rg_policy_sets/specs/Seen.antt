-- What sets of policies and of tag rows are seen as. To be read first, then Bounds. Kept serves proofs.
use Rattle.std.specs.Prelude.{List}
use Rattle.rg_policy.specs.declared.policy.Policy.{Policy}
use Rattle.rg_defs.specs.declared.service_def.ServiceDef.{ServiceDef}
use Rattle.rg_tags.specs.declared.row.TagRow.{TagRow}
use Rattle.rg_evalr.specs.Sources.{Source}
use Rattle.rg_evalr.specs.declared.frame.Frame.{Frame}
use Rattle.rg_evalr.specs.declared.frame.Side.{Side}

-- the policies of one side, and what they are read under
pub record Policies : Type 0 where
  pub frame : Frame
  pub side : Side
  pub policies : List Policy

-- what a policy of them is compiled from
abbrev pub source : Frame → Side → Policy → Source
source frame side p = record { frame = frame; policy = p; side = side }

-- the tag rows, and the definition by which they are matched
pub record Rows : Type 0 where
  pub def : ServiceDef
  pub rows : List TagRow

-- what the matcher of a row is compiled from
pub record RowSource : Type 0 where
  pub def : ServiceDef
  pub row : TagRow

abbrev pub row_source : ServiceDef → TagRow → RowSource
row_source def row = record { def = def; row = row }
