-- An administration that is another one but for the count of entries keeps the same commands.
use Rattle.std.proofs.Common.{◌≡◌, ◌⊎◌, ◌&&◌, ℕ, ◌+◌, ◌≤◌, ◌^◌, min, nat_lt, Bool, true, false, not, cond, true≢false, inl, inr, List, [], ◌∷◌, ◌++◌, Option, Some, None, refl, sym, ap, ap₂, ◌∙◌, subst, arith}
use Rattle.std.specs.Option.{option_or}
use Rattle.std.proofs.lemmas.Bool.{and_parts}
use Rattle.std.proofs.lemmas.Option.{none-some}
use Rattle.rg_cmd.specs.declared.ask.AdminCommand.{AdminCommand}
use Rattle.rg_cmd.specs.declared.ask.AdminCommand.TheVariants.{PutDef, CreateService, UpdateService, DeleteService, CreatePolicy, UpdatePolicy, DeletePolicy, GetPolicy, ListPolicies, PutRole, DeleteRole, PutZone, DeleteZone, PutTags, DeleteTags, PutUser, DeleteUser, Download}
use Rattle.rg_cmd.specs.declared.ask.AdminReply.{AdminReply}
use Rattle.rg_cmd.specs.declared.ask.Ask.{Ask}
use Rattle.rg_cmd.specs.declared.changes.Log.{Log}
use Rattle.rg_cmd.specs.declared.rule.Rule.{Rule}
use Rattle.rg_cmd.specs.declared.rule.Rule.TheVariants.{L1}
use Rattle.rg_cmd.specs.declared.state.State.{State}
use Rattle.rg_validate.specs.Definitions.{definition_suits}
use Rattle.rg_validate.specs.Failing.{Tested, first_failing}
use Rattle.rg_validate.specs.Policies.{has_no_twin}
use Rattle.rg_validate.specs.Roles.{goes_in_no_circle}
use Rattle.rg_validate.specs.Rules.{command_rules, first_fault, limit_rules, only_reads}
use Rattle.rg_validate.specs.Zones.{are_apart, are_apart_for}
use Rattle.rg_delegate.specs.Rules.{authority_fault, authority_rules}
use Rattle.rg_admin_laws.specs.Changes.{after_command}
use Rattle.rg_admin_laws.specs.Laws.{is_refused}
use Rattle.rg_admin_laws.specs.Logs.{Administration, logs_after}
use Rattle.rg_admin_laws.specs.Steps.{accepted, counted, fault, refused, reply_to, step_by}
use Rattle.rg_ask_wire.specs.Keeping.{is_keeping}
use Rattle.rg_keep.specs.Keeping.{Agree, with_count}
use Rattle.rg_keep.specs.Replay.{is_kept, stepped}

-- ---- nothing but L1 looks at the count

abbrev pub count_is : ℕ → State → State
count_is n s = record s { count = n }

rules_alike : (n : ℕ) (s : State) (c : AdminCommand) → command_rules (count_is n s) c ≡ command_rules s c
unfolding definition_suits has_no_twin goes_in_no_circle are_apart are_apart_for
rules_alike n s (PutDef def) = refl
rules_alike n s (CreateService service) = refl
rules_alike n s (UpdateService service) = refl
rules_alike n s (DeleteService name) = refl
rules_alike n s (CreatePolicy policy) = refl
rules_alike n s (UpdatePolicy policy) = refl
rules_alike n s (DeletePolicy id) = refl
rules_alike n s (GetPolicy id) = refl
rules_alike n s (ListPolicies service) = refl
rules_alike n s (PutRole role) = refl
rules_alike n s (DeleteRole name) = refl
rules_alike n s (PutZone zone) = refl
rules_alike n s (DeleteZone name) = refl
rules_alike n s (PutTags id row) = refl
rules_alike n s (DeleteTags id) = refl
rules_alike n s (PutUser user) = refl
rules_alike n s (DeleteUser name) = refl
rules_alike n s (Download service policies_from tags_from roles_from) = refl

authority_alike : (n : ℕ) (s : State) (actor : List ℕ) (c : AdminCommand) → authority_rules (count_is n s) actor c ≡ authority_rules s actor c
authority_alike n s actor (PutDef def) = refl
authority_alike n s actor (CreateService service) = refl
authority_alike n s actor (UpdateService service) = refl
authority_alike n s actor (DeleteService name) = refl
authority_alike n s actor (CreatePolicy policy) = refl
authority_alike n s actor (UpdatePolicy policy) = refl
authority_alike n s actor (DeletePolicy id) = refl
authority_alike n s actor (GetPolicy id) = refl
authority_alike n s actor (ListPolicies service) = refl
authority_alike n s actor (PutRole role) = refl
authority_alike n s actor (DeleteRole name) = refl
authority_alike n s actor (PutZone zone) = refl
authority_alike n s actor (DeleteZone name) = refl
authority_alike n s actor (PutTags id row) = refl
authority_alike n s actor (DeleteTags id) = refl
authority_alike n s actor (PutUser user) = refl
authority_alike n s actor (DeleteUser name) = refl
authority_alike n s actor (Download service policies_from tags_from roles_from) = refl

state_alike : (n : ℕ) (s : State) (c : AdminCommand) → after_command (count_is n s) c ≡ count_is n (after_command s c)
state_alike n s (PutDef def) = refl
state_alike n s (CreateService service) = refl
state_alike n s (UpdateService service) = refl
state_alike n s (DeleteService name) = refl
state_alike n s (CreatePolicy policy) = refl
state_alike n s (UpdatePolicy policy) = refl
state_alike n s (DeletePolicy id) = refl
state_alike n s (GetPolicy id) = refl
state_alike n s (ListPolicies service) = refl
state_alike n s (PutRole role) = refl
state_alike n s (DeleteRole name) = refl
state_alike n s (PutZone zone) = refl
state_alike n s (DeleteZone name) = refl
state_alike n s (PutTags id row) = refl
state_alike n s (DeleteTags id) = refl
state_alike n s (PutUser user) = refl
state_alike n s (DeleteUser name) = refl
state_alike n s (Download service policies_from tags_from roles_from) = refl

logs_alike : (n : ℕ) (s : State) (c : AdminCommand) (logs : List Log) → logs_after (count_is n s) c logs ≡ logs_after s c logs
logs_alike n s (PutDef def) logs = refl
logs_alike n s (CreateService service) logs = refl
logs_alike n s (UpdateService service) logs = refl
logs_alike n s (DeleteService name) logs = refl
logs_alike n s (CreatePolicy policy) logs = refl
logs_alike n s (UpdatePolicy policy) logs = refl
logs_alike n s (DeletePolicy id) logs = refl
logs_alike n s (GetPolicy id) logs = refl
logs_alike n s (ListPolicies service) logs = refl
logs_alike n s (PutRole role) logs = refl
logs_alike n s (DeleteRole name) logs = refl
logs_alike n s (PutZone zone) logs = refl
logs_alike n s (DeleteZone name) logs = refl
logs_alike n s (PutTags id row) logs = refl
logs_alike n s (DeleteTags id) logs = refl
logs_alike n s (PutUser user) logs = refl
logs_alike n s (DeleteUser name) logs = refl
logs_alike n s (Download service policies_from tags_from roles_from) logs = refl

-- no command changes the count by itself
pub count_stays : (s : State) (c : AdminCommand) → (after_command s c).count ≡ s.count
count_stays s c = ap (λ (t : State). t.count) (state_alike s.count s c)

-- ---- faults

or_none : (x y : Option Rule) → option_or x y ≡ None → (x ≡ None) × (y ≡ None)
or_none None y h = (refl, h)
or_none (Some x) y h = absurd (none-some x (sym h))

limited : (b : Bool) (rules : List Tested) → first_failing ((L1, b) ∷ rules) ≡ None → first_failing rules ≡ None
limited true rules h = h
limited false rules h = absurd (none-some L1 (sym h))

within_limit : (b : Bool) (rules : List Tested) → b ≡ true → first_failing rules ≡ None → first_failing ((L1, b) ∷ rules) ≡ None
within_limit true rules is h = h
within_limit false rules is h = absurd (true≢false (sym is))

keeps_not_reads : (c : AdminCommand) → is_keeping c ≡ true → only_reads c ≡ false
keeps_not_reads (PutDef def) h = refl
keeps_not_reads (CreateService service) h = refl
keeps_not_reads (UpdateService service) h = refl
keeps_not_reads (DeleteService name) h = refl
keeps_not_reads (CreatePolicy policy) h = refl
keeps_not_reads (UpdatePolicy policy) h = refl
keeps_not_reads (DeletePolicy id) h = refl
keeps_not_reads (GetPolicy id) h = absurd (true≢false (sym h))
keeps_not_reads (ListPolicies service) h = absurd (true≢false (sym h))
keeps_not_reads (PutRole role) h = refl
keeps_not_reads (DeleteRole name) h = refl
keeps_not_reads (PutZone zone) h = refl
keeps_not_reads (DeleteZone name) h = refl
keeps_not_reads (PutTags id row) h = refl
keeps_not_reads (DeleteTags id) h = refl
keeps_not_reads (PutUser user) h = refl
keeps_not_reads (DeleteUser name) h = refl
keeps_not_reads (Download service policies_from tags_from roles_from) h = absurd (true≢false (sym h))

limit_of : (s : State) (c : AdminCommand) → is_keeping c ≡ true → limit_rules s c ≡ (L1, nat_lt s.count (2 ^ 62)) ∷ []
limit_of s c keeps = ap (λ b. cond b [] ((L1, nat_lt s.count (2 ^ 62)) ∷ [])) (keeps_not_reads c keeps)

-- no rule but L1 tells the one from the other
pub fault_alike : (n : ℕ) (s : State) (ask : Ask) → is_keeping ask.command ≡ true → nat_lt s.count (2 ^ 62) ≡ true → fault (count_is n s) ask ≡ None → fault s ask ≡ None
fault_alike n s ask keeps low none =
    let c = ask.command in
    let parts = or_none (first_fault (count_is n s) ask) (authority_fault (count_is n s) ask) none in
    let rules = λ (limits : List Tested). first_failing (limits ++ command_rules (count_is n s) c) ≡ None in
    let rest = limited (nat_lt n (2 ^ 62)) (command_rules (count_is n s) c) (subst rules (limit_of (count_is n s) c keeps) parts.0) in
    let same = subst (λ (r : List Tested). first_failing r ≡ None) (rules_alike n s c) rest in
    let first = subst (λ (limits : List Tested). first_failing (limits ++ command_rules s c) ≡ None) (sym (limit_of s c keeps)) (within_limit (nat_lt s.count (2 ^ 62)) (command_rules s c) low same) in
    let authority = subst (λ (r : List Tested). first_failing r ≡ None) (authority_alike n s ask.actor c) parts.1 in
    ap (λ o. option_or o (authority_fault s ask)) first ∙ authority

-- ---- steps

reply_accepts : (a : Administration) (actor : List ℕ) (c : AdminCommand) → is_keeping c ≡ true → is_refused (reply_to a actor c) ≡ false
reply_accepts a actor (PutDef def) h = refl
reply_accepts a actor (CreateService service) h = refl
reply_accepts a actor (UpdateService service) h = refl
reply_accepts a actor (DeleteService name) h = refl
reply_accepts a actor (CreatePolicy policy) h = refl
reply_accepts a actor (UpdatePolicy policy) h = refl
reply_accepts a actor (DeletePolicy id) h = refl
reply_accepts a actor (GetPolicy id) h = absurd (true≢false (sym h))
reply_accepts a actor (ListPolicies service) h = absurd (true≢false (sym h))
reply_accepts a actor (PutRole role) h = refl
reply_accepts a actor (DeleteRole name) h = refl
reply_accepts a actor (PutZone zone) h = refl
reply_accepts a actor (DeleteZone name) h = refl
reply_accepts a actor (PutTags id row) h = refl
reply_accepts a actor (DeleteTags id) h = refl
reply_accepts a actor (PutUser user) h = refl
reply_accepts a actor (DeleteUser name) h = refl
reply_accepts a actor (Download service policies_from tags_from roles_from) h = absurd (true≢false (sym h))

-- the step where no rule fails
accepted_so : (a : Administration) (ask : Ask) → fault a.state ask ≡ None → stepped a ask ≡ (accepted a ask.command, reply_to a ask.actor ask.command)
unfolding stepped
accepted_so a ask none = ap (λ o. step_by o a ask) none

refused_so : (a : Administration) (ask : Ask) (rule : Rule) → fault a.state ask ≡ Some rule → (stepped a ask).0 ≡ refused a
unfolding stepped
refused_so a ask rule is = ap (λ o. (step_by o a ask).0) is

-- an ask that is kept breaks no rule
pub record IsAccepted (a : Administration) (ask : Ask) : Type 0 where
  pub keeps : is_keeping ask.command ≡ true
  pub none : fault a.state ask ≡ None

pub kept_passes : (a : Administration) (ask : Ask) → is_kept a ask ≡ true → IsAccepted a ask
unfolding is_kept stepped
kept_passes a ask kept =
    let parts = and_parts (is_keeping ask.command) (not (is_refused (stepped a ask).1)) kept in
    record { keeps = parts.0; none = go (fault a.state ask) refl parts.1 }
  where
    go : (o : Option Rule) → fault a.state ask ≡ o → not (is_refused (step_by o a ask).1) ≡ true → fault a.state ask ≡ None
    go None is accepts = is
    go (Some rule) is accepts = absurd (true≢false (sym accepts))

pub passes_kept : (a : Administration) (ask : Ask) → is_keeping ask.command ≡ true → fault a.state ask ≡ None → is_kept a ask ≡ true
unfolding is_kept
passes_kept a ask keeps none =
    let accepts = ap (λ (p : Administration × AdminReply). is_refused p.1) (accepted_so a ask none) ∙ reply_accepts a ask.actor ask.command keeps in
    ap₂ (λ b refuses. b && not refuses) keeps accepts

-- what an ask that isn't kept does
pub unkept_cases : (a : Administration) (ask : Ask) → is_kept a ask ≡ false → ((stepped a ask).0 ≡ refused a) ⊎ ((is_keeping ask.command ≡ false) × ((stepped a ask).0 ≡ accepted a ask.command))
unkept_cases a ask unkept = go (fault a.state ask) refl
  where
    keeping : (b : Bool) → is_keeping ask.command ≡ b → fault a.state ask ≡ None → ((stepped a ask).0 ≡ refused a) ⊎ ((is_keeping ask.command ≡ false) × ((stepped a ask).0 ≡ accepted a ask.command))
    keeping true keeps none = absurd (true≢false (sym (passes_kept a ask keeps none) ∙ unkept))
    keeping false keeps none = inr (keeps, ap (λ (p : Administration × AdminReply). p.0) (accepted_so a ask none))

    go : (o : Option Rule) → fault a.state ask ≡ o → ((stepped a ask).0 ≡ refused a) ⊎ ((is_keeping ask.command ≡ false) × ((stepped a ask).0 ≡ accepted a ask.command))
    go None none = keeping (is_keeping ask.command) refl none
    go (Some rule) is = inl (refused_so a ask rule is)

-- ---- agreement

pub agree_from : (n : ℕ) (a b : Administration) → b ≡ with_count n a → Agree a b
unfolding Agree
agree_from n a b is = is ∙ ap (λ k. with_count k a) (sym (ap (λ (x : Administration). x.state.count) is))

accepted_alike : (n : ℕ) (a : Administration) (c : AdminCommand) → accepted (with_count n a) c ≡ with_count (min (n + 1) (2 ^ 62)) (accepted a c)
accepted_alike n a c = ap₂ (λ (s : State) (logs : List Log). record { state = counted s; logs = logs }) (state_alike n a.state c) (logs_alike n a.state c a.logs)

pub refused_alike : (a b : Administration) → Agree a b → Agree a (refused b)
unfolding Agree
refused_alike a b alike = agree_from (min (b.state.count + 1) (2 ^ 62)) a (refused b) (ap refused alike)

-- an ask that the one keeps is kept by the other, and they go on agreeing
pub record GoesOn (a b : Administration) (ask : Ask) : Type 0 where
  pub kept : is_kept a ask ≡ true
  pub alike : Agree (stepped a ask).0 (stepped b ask).0

pub kept_alike : (a b : Administration) (ask : Ask) → Agree a b → nat_lt a.state.count (2 ^ 62) ≡ true → is_kept b ask ≡ true → GoesOn a b ask
unfolding Agree
kept_alike a b ask alike low kept =
    let is = kept_passes b ask kept in
    let n = b.state.count in
    let none = fault_alike n a.state ask is.keeps low (subst (λ (x : Administration). fault x.state ask ≡ None) alike is.none) in
    let first = λ (x : Administration) (h : fault x.state ask ≡ None). ap (λ (p : Administration × AdminReply). p.0) (accepted_so x ask h) in
    let after : (stepped b ask).0 ≡ with_count (min (n + 1) (2 ^ 62)) (stepped a ask).0 =
    first b is.none ∙ ap (λ (x : Administration). accepted x ask.command) alike ∙ accepted_alike n a ask.command
    ∙ ap (with_count (min (n + 1) (2 ^ 62))) (sym (first a none)) in
    record { kept = passes_kept a ask is.keeps none; alike = agree_from (min (n + 1) (2 ^ 62)) (stepped a ask).0 (stepped b ask).0 after }

-- ---- counts

pub counts_one : (a : Administration) (ask : Ask) → (stepped a ask).0.state.count ≤ a.state.count + 1
unfolding stepped
counts_one a ask = go (fault a.state ask)
  where
    go : (o : Option Rule) → (step_by o a ask).0.state.count ≤ a.state.count + 1
    go None = omega (arith, count_stays a.state ask.command)
    go (Some rule) = omega arith
