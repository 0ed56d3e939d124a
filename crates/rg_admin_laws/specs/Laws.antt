-- What the laws say of an administration's history.
use Rattle.std.specs.Prelude.{◌≡◌, ℕ, ◌≤◌, ◌<◌, ◌&&◌, Bool, true, false, List, Option, Some, None, slice_get}
use Rattle.rg_base.specs.Listed.{listed}
use Rattle.rg_base.specs.declared.numbers.PolicyId.{PolicyId}
use Rattle.rg_policy.specs.declared.policy.Policy.{Policy}
use Rattle.rg_tags.specs.declared.row.TagRow.{TagRow}
use Rattle.rg_turn.specs.declared.rule.Entry.{Entry}
use Rattle.rg_cmd.specs.declared.ask.AdminCommand.{AdminCommand}
use Rattle.rg_cmd.specs.declared.ask.AdminCommand.TheVariants.{CreatePolicy}
use Rattle.rg_cmd.specs.declared.ask.AdminReply.{AdminReply}
use Rattle.rg_cmd.specs.declared.ask.AdminReply.TheVariants.{Done, Kept, Refused}
use Rattle.rg_cmd.specs.declared.ask.Ask.{Ask}
use Rattle.rg_facts.specs.declared.facts.Facts.{Facts}
use Rattle.rg_admin_laws.specs.Downloads.{From}
use Rattle.rg_admin_laws.specs.Logs.{Administration}
use Rattle.rg_admin_laws.specs.Steps.{deletes}

abbrev pub is_done : AdminReply → Bool
is_done Done = true
is_done reply = false

-- the entry deleted the service: it was asked, and is done
abbrev pub is_deletion : List ℕ → Entry Ask AdminReply → Bool
is_deletion service e = deletes e.ask.command service && is_done e.reply

-- no entry between the j-th state and the k-th deletes the service
abbrev pub IsNotDeleted : List (Entry Ask AdminReply) → ℕ → ℕ → List ℕ → Type 0
IsNotDeleted h j k service = (n : ℕ) (e : Entry Ask AdminReply) → j ≤ n → n < k → slice_get h n ≡ Some e → is_deletion service e ≡ false

-- from the versions of these facts
abbrev pub from_of : Facts → From
from_of facts = record { policies = Some facts.policy_version; tags = Some facts.tag_version; roles = Some facts.role_version }

-- no version of the later facts is less
pub record AreNoLess (before after : Facts) : Type 0 where
  pub policies : before.policy_version.0 ≤ after.policy_version.0
  pub tags : before.tag_version.0 ≤ after.tag_version.0
  pub roles : before.role_version.0 ≤ after.role_version.0

-- the reply refuses the ask
abbrev pub is_refused : AdminReply → Bool
is_refused (Refused rule) = true
is_refused reply = false

-- the id that a created policy was given
abbrev pub gave_id : AdminCommand → AdminReply → Option PolicyId
gave_id (CreatePolicy p) (Kept id version) = Some id
gave_id (CreatePolicy p) reply = None
gave_id command reply = None

-- the administration with these policies, and with these tag rows
abbrev pub with_policies : Administration → List Policy → Administration
with_policies a policies = record a { state = record a.state { policies = listed policies } }

abbrev pub with_tag_rows : Administration → List TagRow → Administration
with_tag_rows a rows = record a { state = record a.state { tag_rows = listed rows } }
