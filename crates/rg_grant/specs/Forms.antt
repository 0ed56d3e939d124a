-- What a grant and a revoke make of a policy.
use Rattle.std.specs.Prelude.{ℕ, ℤ, pos, ◌++◌, true, false, List, [], ◌∷◌, map, codes, None}
use Rattle.std.specs.Fmt.{signed_decimal}
use Rattle.std.specs.Str.{chars}
use Rattle.rg_base.specs.Listed.{added, listed}
use Rattle.rg_policy.specs.Kinds.{access_policy, normal}
use Rattle.rg_policy.specs.declared.policy.AccessEntry.{AccessEntry}
use Rattle.rg_policy.specs.declared.policy.Item.{Item}
use Rattle.rg_policy.specs.declared.policy.Policy.{Policy}
use Rattle.rg_grant.specs.Taking.{items_left}
use Rattle.rg_grant.specs.declared.row.GrantRow.{GrantRow}

-- an allowed entry
abbrev pub entry_of : List ℕ → AccessEntry
entry_of access_type = record { access = access_type; allowed = true }

-- the allow item of a grant
unfoldable pub granting_item : GrantRow → Item
granting_item g = record {
  accesses = listed (map entry_of g.accesses.items);
  users = g.users;
  groups = g.groups;
  roles = g.roles;
  conditions = listed [];
  delegate = g.delegate;
  mask = None;
  filter = None;
}

-- one more allow item; the row is taken from the deny items and the allow exceptions
unfoldable pub granted_form : GrantRow → Policy → Policy
granted_form g p = record p {
  items = added p.items (granting_item g);
  deny_items = listed (items_left g p.deny_items.items);
  allow_exceptions = listed (items_left g p.allow_exceptions.items);
}

-- `grant-` and the next id
unfoldable pub grant_name : ℤ → List ℕ
grant_name next_id = chars (codes "grant-" ++ signed_decimal next_id)

-- a new policy of the row's service, zone and map, with that one allow item, and as usual in all else
unfoldable pub new_policy : ℤ → GrantRow → Policy
new_policy next_id g = record {
  id = record { 0 = pos 0 };
  guid = [];
  version = record { 0 = 1 };
  service = g.service;
  name = grant_name next_id;
  policy_type = access_policy;
  priority = normal;
  resources = g.resources;
  additional = listed [];
  conditions = listed [];
  items = listed (granting_item g ∷ []);
  deny_items = listed [];
  allow_exceptions = listed [];
  deny_exceptions = listed [];
  mask_items = listed [];
  filter_items = listed [];
  schedules = listed [];
  zone = g.zone;
  deny_all_else = false;
  enabled = true;
  audited = true;
}

-- the row is taken from the allow items
unfoldable pub revoked_form : GrantRow → Policy → Policy
revoked_form g p = record p { items = listed (items_left g p.items.items) }
