-- The stranger, whom nothing names, and the strangers that are members of one role each.
use Rattle.std.specs.Prelude.{ℕ, suc, ◌==◌, max, List, [], ◌∷◌, ◌++◌, decimal, fold, replicate, if◌then◌else◌}
use Rattle.std.specs.Str.{chars}
use Rattle.rg_base.specs.Listed.{added, listed}
use Rattle.rg_roles.specs.declared.row.RoleRow.{RoleRow}
use Rattle.rg_facts.specs.declared.facts.Facts.{Facts}
use Rattle.rg_acl.specs.Named.{named}
use Rattle.rg_acl.specs.declared.named.Listing.TheVariants.{Users}

-- how many `#` begin the text
abbrev pub marks : List ℕ → ℕ
marks [] = 0
marks (c ∷ t) = if c == 35 then suc (marks t) else 0

-- the most that begin one of the texts
abbrev pub most_marks : List (List ℕ) → ℕ
most_marks texts = fold (λ most t. max most (marks t)) 0 texts

-- one `#` more than begin any of the texts
abbrev pub stranger_to : List (List ℕ) → List ℕ
stranger_to texts = replicate (suc (most_marks texts)) 35

-- the least number of `#`, at least one, that begins no named user, nor the owner
abbrev pub stranger : Facts → List ℕ → List ℕ
stranger facts owner = stranger_to (owner ∷ named Users facts)

-- the stranger's member of the role at this place
abbrev pub member : List ℕ → ℕ → List ℕ
member stranger place = stranger ++ chars (decimal place)

abbrev pub with_member : List ℕ → ℕ → RoleRow → RoleRow
with_member stranger place row = record row { users = added row.users (member stranger place) }

-- each row, the first at this place, names its member besides
abbrev pub members_from : List ℕ → ℕ → List RoleRow → List RoleRow
members_from stranger place [] = []
members_from stranger place (row ∷ rows) = with_member stranger place row ∷ members_from stranger (suc place) rows

-- the facts in which each role row names its stranger's member besides
abbrev pub with_members : List ℕ → Facts → Facts
with_members stranger facts = record facts { roles = listed (members_from stranger 0 facts.roles.items) }
