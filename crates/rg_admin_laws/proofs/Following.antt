-- For proofs alone: one log for each service in every state, in their order, and how high versions rise.
use Rattle.std.proofs.Common.{arith, ◌≡◌, ◌≤◌, ◌+◌, leb, ℕ, not, cond, List, [], ◌∷◌, ◌++◌, map, take, length, Contains, Option, Some, None, refl, ap, sym, ◌∙◌}
use Rattle.std.specs.List.{filter}
use Rattle.std.specs.Str.{bytes_eq}
use Rattle.std.proofs.lemmas.Bool.{and_parts, leb-true}
use Rattle.std.proofs.lemmas.List.{map-append}
use Rattle.std.proofs.lemmas.Slice.Eq.{bytes_eq-Decides}
use Rattle.rg_base.proofs.Lists.{all_holds}
use Rattle.rg_turn.specs.History.{state_after, state_at}
use Rattle.rg_turn.specs.declared.rule.Entry.{Entry}
use Rattle.rg_cmd.specs.Lists.{without}
use Rattle.rg_cmd.specs.Lookups.{is_service}
use Rattle.rg_cmd.specs.declared.ask.AdminCommand.{AdminCommand}
use Rattle.rg_cmd.specs.declared.ask.AdminCommand.TheVariants.{CreateService, DeleteService, UpdateService}
use Rattle.rg_cmd.specs.declared.ask.AdminReply.{AdminReply}
use Rattle.rg_cmd.specs.declared.ask.Ask.{Ask}
use Rattle.rg_cmd.specs.declared.changes.Log.{Log}
use Rattle.rg_cmd.specs.declared.rule.Rule.{Rule}
use Rattle.rg_cmd.specs.declared.state.ServiceRow.{ServiceRow}
use Rattle.rg_cmd.specs.declared.state.State.{State}
use Rattle.rg_validate.specs.Failing.{first_failing}
use Rattle.rg_validate.specs.Rules.{command_rules}
use Rattle.rg_admin_laws.specs.Changes.{after_command}
use Rattle.rg_admin_laws.specs.Logs.{Administration, logs_after, new_log, touched_log}
use Rattle.rg_admin_laws.specs.Starts.{IsStart, new_logs}
use Rattle.rg_admin_laws.specs.Steps.{fault, step, step_by}
use Rattle.rg_admin_laws.proofs.Lawful.{at_orderly, count_at}
use Rattle.rg_admin_laws.proofs.Lists.{case, replaced}
use Rattle.rg_admin_laws.proofs.Orderly.{is_counted, is_update}
use Rattle.rg_admin_laws.proofs.Passing.{passed}

-- ---- the names of logs and of services

abbrev logged : List Log → List (List ℕ)
logged logs = map (λ (log : Log). log.service) logs

abbrev named : List ServiceRow → List (List ℕ)
named rows = map (λ (row : ServiceRow). row.name) rows

abbrev Follow : Administration → Type 0
Follow a = logged a.logs ≡ named a.state.services.items

-- what goes by its name goes from the names
names_without : {X : Type 0} (f : X → List ℕ) (name : List ℕ) (xs : List X) → map f (without (λ x. bytes_eq (f x) name) xs) ≡ filter (λ n. not (bytes_eq n name)) (map f xs)
names_without f name [] = refl
names_without f name (x ∷ xs) =
    let rest = names_without f name xs in
    case (λ b. map f (cond (not b) (x ∷ without (λ y. bytes_eq (f y) name) xs) (without (λ y. bytes_eq (f y) name) xs))
    ≡ cond (not b) (f x ∷ filter (λ n. not (bytes_eq n name)) (map f xs)) (filter (λ n. not (bytes_eq n name)) (map f xs))) (bytes_eq (f x) name)
    (λ _. rest) (λ _. ap (λ ns. f x ∷ ns) rest)

-- a row of the same name keeps the names
names_replaced : (row : ServiceRow) (rows : List ServiceRow) → named (replaced (is_service row.name) row rows) ≡ named rows
names_replaced row [] = refl
names_replaced row (y ∷ rows) =
    let rest = names_replaced row rows in
    case (λ b. is_service row.name y ≡ b → (cond b row y).name ∷ named (replaced (is_service row.name) row rows) ≡ y.name ∷ named rows) (is_service row.name y)
    (λ _ is. ap (λ n. n ∷ named (replaced (is_service row.name) row rows)) (sym ((bytes_eq-Decides y.name row.name).0 is)) ∙ ap (λ ns. y.name ∷ ns) rest)
    (λ _ _. ap (λ ns. y.name ∷ ns) rest)
    refl

logged_touched : (s : State) (c : AdminCommand) (logs : List Log) → logged (map (touched_log s c) logs) ≡ logged logs
logged_touched s c [] = refl
logged_touched s c (log ∷ logs) = ap (λ ns. log.service ∷ ns) (logged_touched s c logs)

-- ---- a step

follow_after : (s : State) (c : AdminCommand) (logs : List Log) → first_failing (command_rules s c) ≡ None → logged logs ≡ named s.services.items
    → logged (logs_after s c logs) ≡ named (after_command s c).services.items
follow_after s (CreateService row) logs rules follow =
    map-append (λ (log : Log). log.service) logs (new_log row.name ∷ []) ∙ ap (λ ns. ns ++ row.name ∷ []) follow ∙ sym (map-append (λ (r : ServiceRow). r.name) s.services.items (row ∷ []))
follow_after s (UpdateService row) logs rules follow =
    logged_touched s (UpdateService row) logs ∙ follow ∙ sym (names_replaced row s.services.items)
    ∙ sym (ap (λ b. named (cond b (replaced (is_service row.name) row s.services.items) (s.services.items ++ row ∷ []))) (is_update s row rules).there)
follow_after s (DeleteService name) logs rules follow =
    names_without (λ (log : Log). log.service) name logs ∙ ap (filter (λ n. not (bytes_eq n name))) follow ∙ sym (names_without (λ (r : ServiceRow). r.name) name s.services.items)
follow_after s c logs rules follow = logged_touched s c logs ∙ follow

follow_step : (a : Administration) (ask : Ask) → Follow a → Follow (step a ask).0
follow_step a ask follow = go (fault a.state ask) refl
  where
    go : (r : Option Rule) → fault a.state ask ≡ r → Follow (step_by r a ask).0
    go None none = follow_after a.state ask.command a.logs (passed a.state ask none).rules follow
    go (Some rule) is = follow

follow_on : (a : Administration) (h : List (Entry Ask AdminReply)) → Follow a → Follow (state_after step a h)
follow_on a [] follow = follow
follow_on a (e ∷ h) follow = follow_on (step a e.ask).0 h (follow_step a e.ask follow)

-- ---- a history

new_follow : (rows : List ServiceRow) → logged (new_logs rows) ≡ named rows
new_follow [] = refl
new_follow (row ∷ rows) = ap (λ ns. row.name ∷ ns) (new_follow rows)

module _ (start : Administration) (h : List (Entry Ask AdminReply)) (is : IsStart start) where
  pub logs_follow : (k : ℕ) → Follow (state_at step start h k)
  logs_follow k = follow_on start (take k h) (ap logged is.logs ∙ new_follow start.state.services.items)

  -- each entry is counted
  count_low : (k : ℕ) → k ≤ length h → (state_at step start h k).state.count ≤ k
  count_low k low = let count = count_at start.state.plugin start h (is, refl) k low in omega (arith, count)

  pub versions_few : (k : ℕ) → k ≤ length h → (log : Log) → Contains (state_at step start h k).logs log → (log.policy_version.0 ≤ k + 1) × (log.tag_version.0 ≤ k + 1)
  versions_few k low log there =
      let a = state_at step start h k in
      let both = and_parts (leb log.policy_version.0 (a.state.count + 1)) (leb log.tag_version.0 (a.state.count + 1)) (all_holds (is_counted a.state.count) a.logs (at_orderly start h is k).counted log there) in
      let policies = leb-true log.policy_version.0 (a.state.count + 1) both.0 in
      let tags = leb-true log.tag_version.0 (a.state.count + 1) both.1 in
      let count = count_low k low in
      (omega (arith, policies, count), omega (arith, tags, count))

  pub role_versions_few : (k : ℕ) → k ≤ length h → (state_at step start h k).state.role_version.0 ≤ k + 1
  role_versions_few k low = let roles = (at_orderly start h is k).state.roles in let count = count_low k low in omega (arith, roles, count)
