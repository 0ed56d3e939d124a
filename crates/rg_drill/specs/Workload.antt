-- The policies and requests of the drill.
use Rattle.std.specs.Prelude.{ℕ, zero, suc, ◌+◌, pos, Bool, true, false, List, [], ◌∷◌, ◌++◌, None, if◌then◌else◌}
use Rattle.rg_base.specs.Listed.{listed}
use Rattle.rg_policy.specs.Kinds.{access_policy, normal, overriding}
use Rattle.rg_policy.specs.declared.policy.AccessEntry.{AccessEntry}
use Rattle.rg_policy.specs.declared.policy.Item.{Item}
use Rattle.rg_policy.specs.declared.policy.Policy.{Policy}
use Rattle.rg_policy.specs.declared.policy.PolicyResource.{PolicyResource}
use Rattle.rg_policy.specs.declared.request.AccessRequest.{AccessRequest}
use Rattle.rg_policy.specs.declared.request.Element.{Element}
use Rattle.rg_drill.specs.declared.draws.PolicyDraws.{PolicyDraws}
use Rattle.rg_drill.specs.declared.draws.RequestDraws.{RequestDraws}
use Rattle.rg_drill.specs.declared.word.Word.{Word}
use Rattle.rg_drill.specs.declared.word.Word.TheVariants as word
use Rattle.rg_drill.specs.Draws.{Drawn, policy_draws, request_draws}
use Rattle.rg_drill.specs.Words.{numbered, text_of}

-- ---- one policy

-- `t` and the policy's number, followed by `*` where the table is a prefix
abbrev pub table_name : ℕ → Bool → List ℕ
table_name n is_prefix = if is_prefix then numbered word.TablePrefix n ++ text_of word.Star else numbered word.TablePrefix n

abbrev pub level_of : Word → List ℕ → PolicyResource
level_of level value = record { level = text_of level; values = listed (value ∷ []); excludes = false; recursive = false }

unfoldable pub resources_from : ℕ → PolicyDraws → List PolicyResource
resources_from n d = level_of word.Database (numbered word.DatabasePrefix d.database) ∷ level_of word.Table (table_name n d.is_prefix) ∷ level_of word.Column (text_of word.Star) ∷ []

abbrev pub entry_from : PolicyDraws → AccessEntry
entry_from d = record { access = text_of (if d.is_for_all then word.All else word.Select); allowed = true }

unfoldable pub item_from : PolicyDraws → Item
item_from d = record {
  accesses = listed (entry_from d ∷ []);
  users = listed (numbered word.UserPrefix d.user ∷ []);
  groups = listed [];
  roles = listed [];
  conditions = listed [];
  delegate = false;
  mask = None;
  filter = None;
}

-- policy n of what was drawn
unfoldable pub policy_from : ℕ → PolicyDraws → Policy
policy_from n d = record {
  id = record { 0 = pos 0 };
  guid = [];
  version = record { 0 = 1 };
  service = text_of word.Hive1;
  name = numbered word.PolicyPrefix n;
  policy_type = access_policy;
  priority = (if d.overrides then overriding else normal);
  resources = listed (resources_from n d);
  additional = listed [];
  conditions = listed [];
  items = listed (if d.denies then [] else item_from d ∷ []);
  deny_items = listed (if d.denies then item_from d ∷ [] else []);
  allow_exceptions = listed [];
  deny_exceptions = listed [];
  mask_items = listed [];
  filter_items = listed [];
  schedules = listed [];
  zone = [];
  deny_all_else = false;
  enabled = true;
  audited = true;
}

-- policy n, drawn from this number on
unfoldable pub policy_of : ℕ → ℕ → Drawn Policy
policy_of n x = record { value = policy_from n (policy_draws x).value; next = (policy_draws x).next }

-- ---- one request

abbrev pub element_of : Word → List ℕ → Element
element_of level value = record { level = text_of level; value = value }

unfoldable pub elements_from : RequestDraws → List Element
elements_from d = element_of word.Database (numbered word.DatabasePrefix d.database) ∷ element_of word.Table (numbered word.TablePrefix d.table) ∷ element_of word.Column (text_of word.AColumn) ∷ []

-- the request of what was drawn
unfoldable pub request_from : RequestDraws → AccessRequest
request_from d = record {
  user = numbered word.UserPrefix d.user;
  groups = listed [];
  resource = record { elements = listed (elements_from d); owner = [] };
  access = text_of word.Select;
  moment = record { 0 = pos 0 };
  address = [];
  context = listed [];
}

-- a request about one of so many policies' tables, drawn from this number on
unfoldable pub request_of : ℕ → ℕ → Drawn AccessRequest
request_of policies x = record { value = request_from (request_draws policies x).value; next = (request_draws policies x).next }

-- ---- many

-- policies 1 to n, one after the other
abbrev pub policies_of : ℕ → ℕ → Drawn (List Policy)
policies_of zero x = record { value = []; next = x }
policies_of (suc n) x =
    let before = policies_of n x in
    let policy = policy_of (n + 1) before.next in
    record { value = before.value ++ policy.value ∷ []; next = policy.next }

-- so many requests, one after the other
abbrev pub requests_of : ℕ → ℕ → ℕ → Drawn (List AccessRequest)
requests_of policies zero x = record { value = []; next = x }
requests_of policies (suc m) x =
    let before = requests_of policies m x in
    let request = request_of policies before.next in
    record { value = before.value ++ request.value ∷ []; next = request.next }
