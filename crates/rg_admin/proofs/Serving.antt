-- For proofs alone: the view of a service whose log, row and definition are found.
use Rattle.std.proofs.Common.{◌≡◌, ◌∙◌, ℕ, cond, List, [], ◌∷◌, Option, Some, None, refl, ap}
use Rattle.std.specs.List.{filter, find}
use Rattle.std.specs.Option.{option_and_then, option_map}
use Rattle.std.specs.Str.{bytes_eq}
use Rattle.rg_policy.specs.declared.policy.Policy.{Policy}
use Rattle.rg_defs.specs.declared.service_def.ServiceDef.{ServiceDef}
use Rattle.rg_cmd.specs.Lookups.{def_at, is_of_tag, service_at}
use Rattle.rg_cmd.specs.declared.changes.Log.{Log}
use Rattle.rg_cmd.specs.declared.state.ServiceRow.{ServiceRow}
use Rattle.rg_cmd.specs.declared.state.State.{State}
use Rattle.rg_admin_laws.specs.Logs.{is_log_of, log_at}
use Rattle.rg_admin_laws.specs.Views.{facts_of, facts_with, view}
use Rattle.rg_admin_laws.proofs.Lists.{case}
use Rattle.rg_admin.specs.Held.{Planned, logs_of}

pub mapped_twice : {X Y Z : Type 0} (f : X → Y) (g : Y → Z) (o : Option X) → option_map (λ x. g (f x)) o ≡ option_map g (option_map f o)
mapped_twice f g None = refl
mapped_twice f g (Some x) = refl

pub log_found : (n : List ℕ) (ps : List Planned) → option_map (λ (p : Planned). p.log) (find (λ (p : Planned). bytes_eq p.log.service n) ps) ≡ find (is_log_of n) (logs_of ps)
log_found n [] = refl
log_found n (p ∷ ps) =
    case (λ b. option_map (λ (q : Planned). q.log) (cond b (Some p) (find (λ (q : Planned). bytes_eq q.log.service n) ps)) ≡ cond b (Some p.log) (find (is_log_of n) (logs_of ps))) (bytes_eq p.log.service n)
    (λ _. refl) (λ _. log_found n ps)

pub none_of_tag : (policies : List Policy) → filter (is_of_tag None) policies ≡ []
none_of_tag [] = refl
none_of_tag (p ∷ policies) = none_of_tag policies

module _ (s : State) (logs : List Log) (n : List ℕ) where
  pub no_log : None ≡ log_at logs n → None ≡ view (record { state = s; logs = logs }) n
  no_log l = λ i. facts_with n s (l i) (service_at s n) (option_and_then (λ (q : ServiceRow). def_at s q.def) (service_at s n))

  pub no_row : (log : Log) → Some log ≡ log_at logs n → None ≡ service_at s n → None ≡ view (record { state = s; logs = logs }) n
  no_row log l r = λ i. facts_with n s (l i) (r i) (option_and_then (λ (q : ServiceRow). def_at s q.def) (r i))

  pub no_def : (log : Log) (row : ServiceRow) → Some log ≡ log_at logs n → Some row ≡ service_at s n → None ≡ def_at s row.def → None ≡ view (record { state = s; logs = logs }) n
  no_def log row l r d = (λ i. facts_with n s (Some log) (Some row) (d i)) ∙ (λ i. facts_with n s (l i) (r i) (option_and_then (λ (q : ServiceRow). def_at s q.def) (r i)))

  pub view_found : (log : Log) (row : ServiceRow) (def : ServiceDef) → Some log ≡ log_at logs n → Some row ≡ service_at s n → Some def ≡ def_at s row.def
      → Some (facts_of n s log row def) ≡ view (record { state = s; logs = logs }) n
  view_found log row def l r d = (λ i. facts_with n s (Some log) (Some row) (d i)) ∙ (λ i. facts_with n s (l i) (r i) (option_and_then (λ (q : ServiceRow). def_at s q.def) (r i)))
