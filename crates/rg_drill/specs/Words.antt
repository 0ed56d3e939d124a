-- The texts of the workload, and how they are spelled.
use Rattle.std.specs.Prelude.{ℕ, List, ◌++◌, codes, decimal}
use Rattle.std.specs.Str.{chars}
use Rattle.rg_drill.specs.declared.word.Word.{Word}
use Rattle.rg_drill.specs.declared.word.Word.TheVariants as word

unfoldable pub spelled : Word → List ℕ
spelled word.Hive = codes "hive"
spelled word.Hive1 = codes "hive1"
spelled word.Root = codes "root"
spelled word.Database = codes "database"
spelled word.Url = codes "url"
spelled word.Table = codes "table"
spelled word.Udf = codes "udf"
spelled word.Column = codes "column"
spelled word.Select = codes "select"
spelled word.Update = codes "update"
spelled word.Create = codes "create"
spelled word.Drop = codes "drop"
spelled word.Alter = codes "alter"
spelled word.All = codes "all"
spelled word.AccessedTogether = codes "resources-accessed-together"
spelled word.AccessedTogetherCondition = codes "RangerHiveResourcesAccessedTogetherCondition"
spelled word.IpRange = codes "ip-range"
spelled word.Mask = codes "MASK"
spelled word.MaskColumn = codes "mask({col})"
spelled word.MaskShowLast4 = codes "MASK_SHOW_LAST_4"
spelled word.MaskLastColumn = codes "mask_show_last_n({col}, 4, 'x', 'x', 'x', -1, '1')"
spelled word.MaskNone = codes "MASK_NONE"
spelled word.Custom = codes "CUSTOM"
spelled word.PolicyPrefix = codes "p"
spelled word.UserPrefix = codes "u"
spelled word.DatabasePrefix = codes "db"
spelled word.TablePrefix = codes "t"
spelled word.AColumn = codes "c"
spelled word.Star = codes "*"

-- the word as a text
unfoldable pub text_of : Word → List ℕ
text_of w = chars (spelled w)

-- the word and, right behind it, a number in decimal digits
unfoldable pub numbered : Word → ℕ → List ℕ
numbered w n = chars (spelled w ++ decimal n)
