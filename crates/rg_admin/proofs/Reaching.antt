-- For proofs alone: every step leads to an administration that is reached.
use Rattle.std.proofs.Common.{arith, ◌≡◌, ◌≤◌, ◌<◌, ◌^◌, ℕ, true, List, [], ◌∷◌, ◌++◌, length, take, Option, Some, None, Result, Ok, Err, IfOk, OnErr, refl, ap, sym, ◌∙◌, subst}
use Rattle.std.specs.List.{list_any}
use Rattle.std.proofs.lemmas.List.{take_all}
use Rattle.rg_base.specs.declared.numbers.NoMemory.{NoMemory}
use Rattle.rg_facts.specs.Sound.{sound}
use Rattle.rg_facts.specs.declared.facts.Facts.{Facts}
use Rattle.rg_turn.specs.History.{state_after, state_at}
use Rattle.rg_turn.specs.declared.rule.Entry.{Entry}
use Rattle.rg_turn.proofs.Histories.{state_after_snoc}
use Rattle.rg_cmd.specs.Lookups.{is_service}
use Rattle.rg_cmd.specs.declared.ask.AdminCommand.{AdminCommand}
use Rattle.rg_cmd.specs.declared.ask.AdminCommand.TheVariants.{PutDef, CreateService, UpdateService, DeleteService, CreatePolicy, UpdatePolicy, DeletePolicy, PutRole, DeleteRole, PutZone, DeleteZone, PutTags, DeleteTags, PutUser, DeleteUser}
use Rattle.rg_cmd.specs.declared.ask.AdminReply.{AdminReply}
use Rattle.rg_cmd.specs.declared.ask.Ask.{Ask}
use Rattle.rg_cmd.specs.declared.rule.Rule.{Rule}
use Rattle.rg_cmd.specs.declared.state.State.{State}
use Rattle.rg_validate.specs.Valid.{IsKept}
use Rattle.rg_admin_laws.specs.Changes.{after_command}
use Rattle.rg_admin_laws.specs.Logs.{Administration}
use Rattle.rg_admin_laws.specs.Starts.{IsStart}
use Rattle.rg_admin_laws.specs.Steps.{counted, fault, step, step_by}
use Rattle.rg_admin_laws.specs.Views.{view}
use Rattle.rg_admin_laws.proofs.Histories.{always_orderly}
use Rattle.rg_admin_laws.proofs.Lawful.{count_after, service_viewed, start_orderly}
use Rattle.rg_admin_laws.proofs.Orderly.{IsOrderly}
use Rattle.rg_admin.specs.Reached.{IsPacked, IsReached, Origin}
use Rattle.rg_admin.specs.Stepped.{IsStep}

-- ---- no spare room

counted_packed : (s : State) → IsPacked s → IsPacked (counted s)
counted_packed s p = record { users = p.users; defs = p.defs; services = p.services; policies = p.policies; zones = p.zones; roles = p.roles; tag_rows = p.tag_rows }

packed_after : (s : State) → IsPacked s → (c : AdminCommand) → IsPacked (after_command s c)
packed_after s p (PutDef def) = record { users = p.users; defs = refl; services = p.services; policies = p.policies; zones = p.zones; roles = p.roles; tag_rows = p.tag_rows }
packed_after s p (CreateService row) = record { users = p.users; defs = p.defs; services = refl; policies = p.policies; zones = p.zones; roles = p.roles; tag_rows = p.tag_rows }
packed_after s p (UpdateService row) = record { users = p.users; defs = p.defs; services = refl; policies = p.policies; zones = p.zones; roles = p.roles; tag_rows = p.tag_rows }
packed_after s p (DeleteService name) = record { users = p.users; defs = p.defs; services = refl; policies = p.policies; zones = p.zones; roles = p.roles; tag_rows = p.tag_rows }
packed_after s p (CreatePolicy policy) = record { users = p.users; defs = p.defs; services = p.services; policies = refl; zones = p.zones; roles = p.roles; tag_rows = p.tag_rows }
packed_after s p (UpdatePolicy policy) = record { users = p.users; defs = p.defs; services = p.services; policies = refl; zones = p.zones; roles = p.roles; tag_rows = p.tag_rows }
packed_after s p (DeletePolicy id) = record { users = p.users; defs = p.defs; services = p.services; policies = refl; zones = p.zones; roles = p.roles; tag_rows = p.tag_rows }
packed_after s p (PutRole row) = record { users = p.users; defs = p.defs; services = p.services; policies = p.policies; zones = p.zones; roles = refl; tag_rows = p.tag_rows }
packed_after s p (DeleteRole name) = record { users = p.users; defs = p.defs; services = p.services; policies = p.policies; zones = p.zones; roles = refl; tag_rows = p.tag_rows }
packed_after s p (PutZone row) = record { users = p.users; defs = p.defs; services = p.services; policies = p.policies; zones = refl; roles = p.roles; tag_rows = p.tag_rows }
packed_after s p (DeleteZone name) = record { users = p.users; defs = p.defs; services = p.services; policies = p.policies; zones = refl; roles = p.roles; tag_rows = p.tag_rows }
packed_after s p (PutTags id row) = record { users = p.users; defs = p.defs; services = p.services; policies = p.policies; zones = p.zones; roles = p.roles; tag_rows = refl }
packed_after s p (DeleteTags id) = record { users = p.users; defs = p.defs; services = p.services; policies = p.policies; zones = p.zones; roles = p.roles; tag_rows = refl }
packed_after s p (PutUser row) = record { users = refl; defs = p.defs; services = p.services; policies = p.policies; zones = p.zones; roles = p.roles; tag_rows = p.tag_rows }
packed_after s p (DeleteUser name) = record { users = refl; defs = p.defs; services = p.services; policies = p.policies; zones = p.zones; roles = p.roles; tag_rows = p.tag_rows }
packed_after s p c = p

step_packed : (a : Administration) (ask : Ask) → IsPacked a.state → IsPacked (step a ask).0.state
step_packed a ask p = go (fault a.state ask)
  where
    go : (r : Option Rule) → IsPacked (step_by r a ask).0.state
    go None = counted_packed (after_command a.state ask.command) (packed_after a.state p ask.command)
    go (Some rule) = counted_packed a.state p

-- ---- a step

step_origin : (a : Administration) (ask : Ask) → Origin a → Origin (step a ask).0
step_origin a ask r =
    let entry : Entry Ask AdminReply = record { ask = ask; reply = (step a ask).1 } in
    record {
      start = r.start;
      starts = r.starts;
      history = r.history ++ entry ∷ [];
      now = state_after_snoc step r.start r.history entry ∙ ap (λ (b : Administration). (step b ask).0) r.now;
      packed = step_packed a ask r.packed;
    }

step_reached : (a : Administration) (ask : Ask) → IsReached a → IsReached (step a ask).0
unfolding IsReached
step_reached a ask r = step_origin a ask r

-- after a step, and where memory was refused
pub reached_after : (a b : Administration) (ask : Ask) (result : Result AdminReply NoMemory) → IsReached a
    → IfOk result (IsStep a ask b) → OnErr result (b ≡ a) → IsReached b
unfolding IsStep
reached_after a b ask (Ok r) reached ok err = subst IsReached (sym (ap (λ (t : Administration × AdminReply). t.0) ok)) (step_reached a ask reached)
reached_after a b ask (Err refused) reached ok err = subst IsReached (sym err) reached

pub reached_start : (a : Administration) → IsStart a → IsPacked a.state → IsReached a
unfolding IsReached
reached_start a starts packed = record { start = a; starts = starts; history = []; now = refl; packed = packed }

-- ---- what is true of it

pub reached_packed : (a : Administration) → IsReached a → IsPacked a.state
unfolding IsReached
reached_packed a r = r.packed

-- every state of a history passes the rules
abbrev pub AreKept : Type 0
AreKept = (start : Administration) (h : List (Entry Ask AdminReply)) → IsStart start → (k : ℕ) → IsKept (state_at step start h k).state

pub reached_kept : AreKept → (a : Administration) → IsReached a → IsKept a.state
unfolding IsReached
reached_kept kept a r =
    subst (λ (b : Administration). IsKept b.state) (ap (state_after step r.start) (take_all (length r.history) r.history (omega arith)) ∙ r.now) (kept r.start r.history r.starts (length r.history))

-- each of its services has a view
pub reached_viewed : (a : Administration) → IsReached a → (service : List ℕ) → list_any (is_service service) a.state.services.items ≡ true → (f : Facts) × (view a service ≡ Some f)
unfolding IsReached
reached_viewed a r = service_viewed a (subst IsOrderly r.now (always_orderly r.start r.history (start_orderly r.start r.starts)))

-- the law of sound views
abbrev pub AreSound : Type 0
AreSound = (start : Administration) (h : List (Entry Ask AdminReply)) → IsStart start → (k : ℕ) → k ≤ length h → k < 2 ^ 62
    → (service : List ℕ) (facts : Facts) → view (state_at step start h k) service ≡ Some facts → sound facts ≡ true

-- as many entries came as are counted, while these are fewer than 2^62
pub reached_sound : AreSound → (a : Administration) → IsReached a → a.state.count < 2 ^ 62 → (service : List ℕ) (facts : Facts) → view a service ≡ Some facts → sound facts ≡ true
unfolding IsReached
reached_sound law a r few service facts seen =
    let none = r.starts.count in
    let count = count_after r.start r.history (omega (arith, none)) in
    let here : (state_after step r.start r.history).state.count ≡ a.state.count = ap (λ (b : Administration). b.state.count) r.now in
    let ends : state_at step r.start r.history (length r.history) ≡ a = ap (state_after step r.start) (take_all (length r.history) r.history (omega arith)) ∙ r.now in
    law r.start r.history r.starts (length r.history) (omega arith) (omega (arith, none, count, here, few)) service facts
    (subst (λ (b : Administration). view b service ≡ Some facts) (sym ends) seen)
