-- Which delta doesn't fit the facts that it is to be applied to.
use Rattle.std.specs.Prelude.{◌≡◌, ◌==◌, not, List, [], ◌∷◌, Option, Some}
use Rattle.std.specs.List.{find}
use Rattle.rg_base.specs.declared.numbers.Version.{Version}
use Rattle.rg_cmd.specs.declared.download.Part.{Part}
use Rattle.rg_cmd.specs.declared.download.Part.TheVariants.{Policies, Tags, Roles}
use Rattle.rg_cmd.specs.declared.download.PolicyDelta.{PolicyDelta}
use Rattle.rg_cmd.specs.declared.download.RoleDelta.{RoleDelta}
use Rattle.rg_cmd.specs.declared.download.TagDelta.{TagDelta}
use Rattle.rg_facts.specs.declared.facts.Facts.{Facts}
use Rattle.rg_engine.specs.declared.fault.ApplyFault.{ApplyFault}
use Rattle.rg_engine.specs.declared.fault.ApplyFault.TheVariants.{WrongBase, NoMemory}

-- the version that facts have of a part, and the one from which a delta leads
pub record Base : Type 0 where
  pub part : Part
  pub have : Version
  pub from : Version

abbrev pub bases : Facts → PolicyDelta → TagDelta → RoleDelta → List Base
bases facts policies tags roles =
    record { part = Policies; have = facts.policy_version; from = policies.from }
    ∷ record { part = Tags; have = facts.tag_version; from = tags.from }
    ∷ record { part = Roles; have = facts.role_version; from = roles.from }
    ∷ []

-- the first part of which the facts' version isn't the delta's base
abbrev pub wrong_base : Facts → PolicyDelta → TagDelta → RoleDelta → Option Base
wrong_base facts policies tags roles = find (λ b. not (b.have.0 == b.from.0)) (bases facts policies tags roles)

-- the fault tells of this base; want of memory may come whatever it is
abbrev pub Tells : ApplyFault → Option Base → Type 0
Tells (WrongBase part have from) base = base ≡ Some (record { part = part; have = have; from = from })
Tells NoMemory base = Unit {0}
