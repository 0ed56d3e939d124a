-- The rule of tags.
use Rattle.std.specs.Prelude.{◌&&◌, nat_le, Bool, List, length}
use Rattle.std.specs.List.{list_all}
use Rattle.rg_base.specs.Texts.{is_name}
use Rattle.rg_policy.specs.declared.tags.Tag.{Tag}

-- G3: there are at most 64 tags, and each kind has 1 to 256 characters
abbrev pub tags_fit : List Tag → Bool
tags_fit tags = nat_le (length tags) 64 && list_all (λ (t : Tag). is_name t.kind) tags
