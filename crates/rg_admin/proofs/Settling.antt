-- For proofs alone: what becomes of the logs while a change is planned and settled.
use Rattle.std.proofs.Common.{arith, ◌≡◌, ℕ, zero, suc, Bool, true, false, not, cond, List, [], ◌∷◌, ◌++◌, length, map, filter, take, drop, set, get_or, refl, ap, ◌∙◌, sym}
use Rattle.std.proofs.lemmas.Bool.{false≢true}
use Rattle.std.proofs.lemmas.List.{append-nil, take_all}
use Rattle.std.proofs.Math.ListN.{drop_of_length-le}
use Rattle.rg_cmd.specs.Lists.{without}
use Rattle.rg_cmd.specs.declared.ask.AdminCommand.{AdminCommand}
use Rattle.rg_cmd.specs.declared.ask.AdminCommand.TheVariants.{CreateService, DeleteService}
use Rattle.rg_cmd.specs.declared.changes.Log.{Log}
use Rattle.rg_cmd.specs.declared.state.State.{State}
use Rattle.rg_admin_laws.specs.Logs.{is_log_of, logs_after, touched_log}
use Rattle.rg_admin_laws.proofs.Lists.{case}
use Rattle.rg_admin.specs.Held.{Planned, logs_of, plan_for, settled}

-- a plan changes no log
pub logs_set : (ps : List Planned) (i : ℕ) (p d : Planned) → p.log ≡ (get_or ps i d).log → logs_of (set ps i p) ≡ logs_of ps
logs_set [] i p d is = refl
logs_set (q ∷ ps) zero p d is = ap (λ l. l ∷ logs_of ps) is
logs_set (q ∷ ps) (suc i) p d is = ap (λ ls. q.log ∷ ls) (logs_set ps i p d is)

length_of : (ps : List Planned) → length (logs_of ps) ≡ length ps
length_of [] = refl
length_of (p ∷ ps) = ap suc (length_of ps)

-- what is written back is the whole list
pub logs_back : (ps olds : List Planned) (n : ℕ) → n ≡ length olds → logs_of ps ≡ logs_of olds → logs_of (take n (ps ++ drop (length ps) olds)) ≡ logs_of olds
logs_back ps olds n long is =
    let same : length ps ≡ length olds = sym (length_of ps) ∙ ap length is ∙ length_of olds in
    ap (λ rest. logs_of (take n (ps ++ rest))) (drop_of_length-le olds (omega (arith, same)))
    ∙ ap (λ qs. logs_of (take n qs)) (append-nil ps)
    ∙ ap logs_of (take_all n ps (omega (arith, same, long))) ∙ is

-- planned and settled, each log is touched
pub logs_touched : (s : State) (c : AdminCommand) (ps : List Planned) → logs_of (map settled (map (plan_for s c) ps)) ≡ map (touched_log s c) (logs_of ps)
logs_touched s c [] = refl
logs_touched s c (p ∷ ps) = ap (λ ls. touched_log s c p.log ∷ ls) (logs_touched s c ps)

-- the logs of those that are left
pub logs_left : (service : List ℕ) (ps : List Planned) → logs_of (filter (λ (p : Planned). not (is_log_of service p.log)) ps) ≡ without (is_log_of service) (logs_of ps)
logs_left service [] = refl
logs_left service (p ∷ ps) =
    case (λ b. logs_of (cond b (p ∷ left) left) ≡ cond b (p.log ∷ without (is_log_of service) (logs_of ps)) (without (is_log_of service) (logs_of ps))) (not (is_log_of service p.log))
    (λ _. ap (λ ls. p.log ∷ ls) (logs_left service ps)) (λ _. logs_left service ps)
  where
    left : List Planned
    left = filter (λ (q : Planned). not (is_log_of service q.log)) ps

-- the commands that add a log or take one away
abbrev pub changes_list : AdminCommand → Bool
changes_list (CreateService row) = true
changes_list (DeleteService name) = true
changes_list c = false

pub each_touched : (s : State) (c : AdminCommand) (logs : List Log) → changes_list c ≡ false → logs_after s c logs ≡ map (touched_log s c) logs
each_touched s (CreateService row) logs h = absurd (false≢true (sym h))
each_touched s (DeleteService name) logs h = absurd (false≢true (sym h))
each_touched s c logs h = refl
