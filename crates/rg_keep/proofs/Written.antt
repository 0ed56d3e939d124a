-- Logs as each step leaves them: a command that only looks leaves them as they are.
use Rattle.std.proofs.Common.{◌≡◌, ℕ, ◌+◌, ◌^◌, min, Bool, true, false, not, cond, true≢false, List, [], ◌∷◌, ◌++◌, map, filter, Option, Some, None, refl, sym, ap, ap₂, subst}
use Rattle.rg_base.specs.declared.numbers.PolicyId.{PolicyId}
use Rattle.rg_base.specs.declared.numbers.Version.{Version}
use Rattle.rg_cmd.specs.declared.ask.AdminCommand.{AdminCommand}
use Rattle.rg_cmd.specs.declared.ask.AdminCommand.TheVariants.{PutDef, CreateService, UpdateService, DeleteService, CreatePolicy, UpdatePolicy, DeletePolicy, GetPolicy, ListPolicies, PutRole, DeleteRole, PutZone, DeleteZone, PutTags, DeleteTags, PutUser, DeleteUser, Download}
use Rattle.rg_cmd.specs.declared.ask.Ask.{Ask}
use Rattle.rg_cmd.specs.declared.changes.Log.{Log}
use Rattle.rg_cmd.specs.declared.rule.Rule.{Rule}
use Rattle.rg_cmd.specs.declared.state.ServiceRow.{ServiceRow}
use Rattle.rg_cmd.specs.declared.state.State.{State}
use Rattle.rg_admin_laws.specs.Logs.{Administration, is_log_of, logs_after, new_log, policy_book, tag_book, touched_log, written}
use Rattle.rg_admin_laws.specs.Starts.{IsStart, new_logs}
use Rattle.rg_admin_laws.specs.Steps.{accepted, counted, fault, step_by}
use Rattle.rg_ask_wire.specs.Keeping.{is_keeping}
use Rattle.rg_keep.specs.Keeping.{with_count}
use Rattle.rg_keep.specs.Replay.{stepped}

-- nothing but what its books say stands in a log
abbrev pub AreWritten : List Log → Type 0
AreWritten [] = Unit {0}
AreWritten (log ∷ logs) = (written log (policy_book log) (tag_book log) ≡ log) × AreWritten logs

new_written : (services : List ServiceRow) → AreWritten (new_logs services)
new_written [] = tt
new_written (row ∷ rows) = (refl, new_written rows)

pub start_written : (a : Administration) → IsStart a → AreWritten a.logs
start_written a start = subst AreWritten (sym start.logs) (new_written a.state.services.items)

touched_written : (s : State) (c : AdminCommand) (logs : List Log) → AreWritten (map (touched_log s c) logs)
touched_written s c [] = tt
touched_written s c (log ∷ logs) = (refl, touched_written s c logs)

more_written : (logs : List Log) (log : Log) → AreWritten logs → written log (policy_book log) (tag_book log) ≡ log → AreWritten (logs ++ log ∷ [])
more_written [] log all here = (here, tt)
more_written (l ∷ logs) log all here = (all.0, more_written logs log all.1 here)

chosen_written : (b : Bool) (log : Log) (rest : List Log) → written log (policy_book log) (tag_book log) ≡ log → AreWritten rest → AreWritten (cond b (log ∷ rest) rest)
chosen_written true log rest here all = (here, all)
chosen_written false log rest here all = all

left_written : (leaves : Log → Bool) (logs : List Log) → AreWritten logs → AreWritten (filter leaves logs)
left_written leaves [] all = tt
left_written leaves (log ∷ logs) all = chosen_written (leaves log) log (filter leaves logs) all.0 (left_written leaves logs all.1)

logs_written : (s : State) (c : AdminCommand) (logs : List Log) → AreWritten logs → AreWritten (logs_after s c logs)
logs_written s (PutDef def) logs all = touched_written s (PutDef def) logs
logs_written s (CreateService service) logs all = more_written logs (new_log service.name) all refl
logs_written s (UpdateService service) logs all = touched_written s (UpdateService service) logs
logs_written s (DeleteService name) logs all = left_written (λ log. not (is_log_of name log)) logs all
logs_written s (CreatePolicy policy) logs all = touched_written s (CreatePolicy policy) logs
logs_written s (UpdatePolicy policy) logs all = touched_written s (UpdatePolicy policy) logs
logs_written s (DeletePolicy id) logs all = touched_written s (DeletePolicy id) logs
logs_written s (GetPolicy id) logs all = touched_written s (GetPolicy id) logs
logs_written s (ListPolicies service) logs all = touched_written s (ListPolicies service) logs
logs_written s (PutRole role) logs all = touched_written s (PutRole role) logs
logs_written s (DeleteRole name) logs all = touched_written s (DeleteRole name) logs
logs_written s (PutZone zone) logs all = touched_written s (PutZone zone) logs
logs_written s (DeleteZone name) logs all = touched_written s (DeleteZone name) logs
logs_written s (PutTags id row) logs all = touched_written s (PutTags id row) logs
logs_written s (DeleteTags id) logs all = touched_written s (DeleteTags id) logs
logs_written s (PutUser user) logs all = touched_written s (PutUser user) logs
logs_written s (DeleteUser name) logs all = touched_written s (DeleteUser name) logs
logs_written s (Download service policies_from tags_from roles_from) logs all = touched_written s (Download service policies_from tags_from roles_from) logs

pub step_written : (a : Administration) (ask : Ask) → AreWritten a.logs → AreWritten (stepped a ask).0.logs
unfolding stepped
step_written a ask all = go (fault a.state ask)
  where
    go : (o : Option Rule) → AreWritten (step_by o a ask).0.logs
    go None = logs_written a.state ask.command a.logs all
    go (Some rule) = all

-- ---- what only looks

get_left : (s : State) (id : PolicyId) (logs : List Log) → AreWritten logs → map (touched_log s (GetPolicy id)) logs ≡ logs
get_left s id [] all = refl
get_left s id (log ∷ logs) all = ap₂ (λ l ls. l ∷ ls) all.0 (get_left s id logs all.1)

list_left : (s : State) (service : List ℕ) (logs : List Log) → AreWritten logs → map (touched_log s (ListPolicies service)) logs ≡ logs
list_left s service [] all = refl
list_left s service (log ∷ logs) all = ap₂ (λ l ls. l ∷ ls) all.0 (list_left s service logs all.1)

download_left : (s : State) (service : List ℕ) (policies tags roles : Option Version) (logs : List Log) → AreWritten logs → map (touched_log s (Download service policies tags roles)) logs ≡ logs
download_left s service policies tags roles [] all = refl
download_left s service policies tags roles (log ∷ logs) all = ap₂ (λ l ls. l ∷ ls) all.0 (download_left s service policies tags roles logs all.1)

-- it changes nothing but the count
pub looks_count : (a : Administration) (c : AdminCommand) → is_keeping c ≡ false → AreWritten a.logs → accepted a c ≡ with_count (min (a.state.count + 1) (2 ^ 62)) a
looks_count a (GetPolicy id) h all = ap (λ (logs : List Log). record { state = counted a.state; logs = logs }) (get_left a.state id a.logs all)
looks_count a (ListPolicies service) h all = ap (λ (logs : List Log). record { state = counted a.state; logs = logs }) (list_left a.state service a.logs all)
looks_count a (Download service policies tags roles) h all = ap (λ (logs : List Log). record { state = counted a.state; logs = logs }) (download_left a.state service policies tags roles a.logs all)
looks_count a (PutDef def) h all = absurd (true≢false h)
looks_count a (CreateService service) h all = absurd (true≢false h)
looks_count a (UpdateService service) h all = absurd (true≢false h)
looks_count a (DeleteService name) h all = absurd (true≢false h)
looks_count a (CreatePolicy policy) h all = absurd (true≢false h)
looks_count a (UpdatePolicy policy) h all = absurd (true≢false h)
looks_count a (DeletePolicy id) h all = absurd (true≢false h)
looks_count a (PutRole role) h all = absurd (true≢false h)
looks_count a (DeleteRole name) h all = absurd (true≢false h)
looks_count a (PutZone zone) h all = absurd (true≢false h)
looks_count a (DeleteZone name) h all = absurd (true≢false h)
looks_count a (PutTags id row) h all = absurd (true≢false h)
looks_count a (DeleteTags id) h all = absurd (true≢false h)
looks_count a (PutUser user) h all = absurd (true≢false h)
looks_count a (DeleteUser name) h all = absurd (true≢false h)
