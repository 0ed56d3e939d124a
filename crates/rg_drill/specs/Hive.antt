-- The service definition of the drill, and the configuration that its administration starts from.
use Rattle.std.specs.Prelude.{ℤ, pos, ℕ, true, false, List, [], ◌∷◌, map, Option, Some, None}
use Rattle.rg_base.specs.Listed.{Listed, listed}
use Rattle.rg_cmd.specs.declared.config.Config.{Config}
use Rattle.rg_cmd.specs.declared.state.ServiceRow.{ServiceRow}
use Rattle.rg_defs.specs.declared.service_def.AccessType.{AccessType}
use Rattle.rg_defs.specs.declared.service_def.ConditionDef.{ConditionDef}
use Rattle.rg_defs.specs.declared.service_def.Level.{Level}
use Rattle.rg_defs.specs.declared.service_def.MaskType.{MaskType}
use Rattle.rg_defs.specs.declared.service_def.ServiceDef.{ServiceDef}
use Rattle.rg_drill.specs.declared.word.Word.{Word}
use Rattle.rg_drill.specs.declared.word.Word.TheVariants as word
use Rattle.rg_drill.specs.Words.{text_of}

abbrev pub texts_of : List Word → Listed (List ℕ)
texts_of words = listed (map text_of words)

abbrev pub text_or_empty : Option Word → List ℕ
text_or_empty None = []
text_or_empty (Some w) = text_of w

-- a level whose policies may exclude
abbrev pub level_of : Word → ℤ → Option Word → Level
level_of name number parent = record { name = text_of name; level = number; parent = text_or_empty parent; mandatory = false; recursive = false; excludes = true; wild = true; fold = true }

-- the level of paths: policies may be recursive there, and the case of letters counts
abbrev pub url_level : Level
url_level = record { name = text_of word.Url; level = pos 10; parent = []; mandatory = false; recursive = true; excludes = false; wild = true; fold = false }

unfoldable pub hive_levels : List Level
hive_levels = level_of word.Database (pos 10) None ∷ url_level ∷ level_of word.Table (pos 20) (Some word.Database) ∷ level_of word.Udf (pos 20) (Some word.Database) ∷ level_of word.Column (pos 30) (Some word.Table) ∷ []

abbrev pub access_of : Word → List Word → AccessType
access_of name implied = record { name = text_of name; implied = texts_of implied }

-- `all` implies the others
unfoldable pub hive_accesses : List AccessType
hive_accesses = access_of word.Select [] ∷ access_of word.Update [] ∷ access_of word.Create [] ∷ access_of word.Drop [] ∷ access_of word.Alter [] ∷ access_of word.All (word.Select ∷ word.Update ∷ word.Create ∷ word.Drop ∷ word.Alter ∷ []) ∷ []

abbrev pub condition_of : Word → Word → ConditionDef
condition_of name evaluator = record { name = text_of name; evaluator = text_of evaluator; options = listed [] }

unfoldable pub hive_conditions : List ConditionDef
hive_conditions = condition_of word.AccessedTogether word.AccessedTogetherCondition ∷ condition_of word.IpRange word.IpRange ∷ []

abbrev pub mask_of : Word → Option Word → MaskType
mask_of name transformer = record { name = text_of name; transformer = text_or_empty transformer }

unfoldable pub hive_masks : List MaskType
hive_masks = mask_of word.Mask (Some word.MaskColumn) ∷ mask_of word.MaskShowLast4 (Some word.MaskLastColumn) ∷ mask_of word.MaskNone None ∷ mask_of word.Custom None ∷ []

-- the definition named hive
unfoldable pub hive : ServiceDef
hive = record {
  name = text_of word.Hive;
  levels = listed hive_levels;
  access_types = listed hive_accesses;
  conditions = listed hive_conditions;
  masks = listed hive_masks;
  mask_access = texts_of (word.Select ∷ []);
  mask_levels = texts_of (word.Database ∷ word.Table ∷ word.Column ∷ []);
  filter_access = texts_of (word.Select ∷ []);
  filter_levels = texts_of (word.Database ∷ word.Table ∷ []);
}

-- the service hive1 of that definition
unfoldable pub hive_service : ServiceRow
hive_service = record { name = text_of word.Hive1; def = text_of word.Hive; tag_service = []; fallback = false }

-- the administrator root, the definition, and the service, whose plugin this is
unfoldable pub drill_config : Config
drill_config = record {
  admins = texts_of (word.Root ∷ []);
  users = listed [];
  time_zones = listed [];
  defs = listed (hive ∷ []);
  services = listed (hive_service ∷ []);
  plugin = text_of word.Hive1;
}
