-- For proofs alone: what holds in every state of a history, and from one state to a later one.
use Rattle.std.proofs.Common.{arith, ◌≡◌, ◌+◌, ℕ, true, false, List, [], ◌∷◌, Option, Some, None, refl, subst}
use Rattle.std.specs.List.{list_any}
use Rattle.std.proofs.lemmas.Bool.{and_parts, leb-true}
use Rattle.rg_base.proofs.Lists.{all_holds, find_contained}
use Rattle.rg_turn.specs.History.{state_after}
use Rattle.rg_turn.specs.declared.rule.Entry.{Entry}
use Rattle.rg_cmd.specs.Lookups.{is_service}
use Rattle.rg_cmd.specs.declared.ask.AdminReply.{AdminReply}
use Rattle.rg_cmd.specs.declared.ask.Ask.{Ask}
use Rattle.rg_cmd.specs.declared.rule.Rule.{Rule}
use Rattle.rg_delta.proofs.Chains.{since_now}
use Rattle.rg_facts.specs.declared.facts.Facts.{Facts}
use Rattle.rg_admin_laws.specs.Logs.{Administration, is_log_of, policy_book, tag_book}
use Rattle.rg_admin_laws.specs.Sides.{IsNoted, IsRoleNoted, IsRowNoted, policy_side, role_book}
use Rattle.rg_admin_laws.specs.Steps.{deletes, fault, step, step_by}
use Rattle.rg_admin_laws.specs.Views.{tag_rows_of, view}
use Rattle.rg_admin_laws.proofs.Books.{AreSince, HasRoom, since_accepted, since_refused}
use Rattle.rg_admin_laws.proofs.Downloading.{viewed}
use Rattle.rg_admin_laws.proofs.Lists.{find_some, some_there}
use Rattle.rg_admin_laws.proofs.Orderly.{IsOrderly, is_counted, orderly_accepted, orderly_refuses, service_stays}
use Rattle.rg_admin_laws.proofs.Passing.{passed}
use Rattle.rg_admin_laws.proofs.Tidy.{passed_rules, tidy}

-- ---- every step

pub step_orderly : (a : Administration) (ask : Ask) → IsOrderly a → IsOrderly (step a ask).0
step_orderly a ask o = go (fault a.state ask) refl
  where
    go : (r : Option Rule) → fault a.state ask ≡ r → IsOrderly (step_by r a ask).0
    go None none = orderly_accepted a ask.command o (passed a.state ask none)
    go (Some rule) is = orderly_refuses a o

pub always_orderly : (a : Administration) (h : List (Entry Ask AdminReply)) → IsOrderly a → IsOrderly (state_after step a h)
always_orderly a [] o = o
always_orderly a (e ∷ h) o = always_orderly (step a e.ask).0 h (step_orderly a e.ask o)

-- the versions have room
pub has_room : (a : Administration) → IsOrderly a → (service : List ℕ) → HasRoom a service
has_room a o service = record {
  logs = λ log found.
      let both = and_parts _ _ (all_holds (is_counted a.state.count) a.logs o.counted log (find_contained (is_log_of service) a.logs log found).0) in
      let policies = leb-true log.policy_version.0 (a.state.count + 1) both.0 in let tags = leb-true log.tag_version.0 (a.state.count + 1) both.1 in let top = o.state.limit in
      (omega (arith, policies, top), omega (arith, tags, top));
  roles = let h = o.state.roles in let top = o.state.limit in omega (arith, h, top);
}

-- ---- one step and more

-- the entry deletes the service, if it is accepted
abbrev pub stays_at : Entry Ask AdminReply → Administration → List ℕ → Type 0
stays_at e a service = fault a.state e.ask ≡ None → deletes e.ask.command service ≡ false

-- no entry of these, from this state on, deletes it
abbrev pub Stays : Administration → List (Entry Ask AdminReply) → List ℕ → Type 0
Stays a [] service = Unit {0}
Stays a (e ∷ h) service = stays_at e a service × Stays (step a e.ask).0 h service

module _ (early : Administration) (policies tags roles : ℕ) (service : List ℕ) where
  -- a service that is there, with books that lead to what it is
  pub record IsLed (late : Administration) : Type 0 where
    pub there : list_any (is_service service) late.state.services.items ≡ true
    pub since : AreSince early policies tags roles service late

  pub led_step : (late : Administration) (e : Entry Ask AdminReply) → IsOrderly late → stays_at e late service → IsLed late → IsLed (step late e.ask).0
  led_step late e o stays led = go (fault late.state e.ask) refl
    where
      go : (r : Option Rule) → fault late.state e.ask ≡ r → IsLed (step_by r late e.ask).0
      go None none =
          let rules = passed late.state e.ask none in
          let row = find_some (is_service service) late.state.services.items led.there in
          record {
            there = service_stays late.state e.ask.command service (stays none) led.there;
            since = since_accepted early policies tags roles service late led.since e.ask.command (tidy late.state o.state) (passed_rules late.state o.state e.ask.command rules.rules) row.0 row.1 (stays none) (has_room late o service);
          }
      go (Some rule) is = record { there = led.there; since = since_refused early policies tags roles service late led.since }

  pub led_on : (late : Administration) (h : List (Entry Ask AdminReply)) → IsOrderly late → Stays late h service → IsLed late → IsLed (state_after step late h)
  led_on late [] o stays led = led
  led_on late (e ∷ h) o stays led = led_on (step late e.ask).0 h (step_orderly late e.ask o) stays.1 (led_step late e o stays.0 led)

-- at the view itself
pub led_now : (a : Administration) (service : List ℕ) (f : Facts) → view a service ≡ Some f → IsLed a f.policy_version.0 f.tag_version.0 f.role_version.0 service a
led_now a service f is =
    let v = viewed a service f is in
    subst (λ (g : Facts). IsLed a g.policy_version.0 g.tag_version.0 g.role_version.0 service a) v.facts_are (record {
      there = some_there (is_service service) a.state.services.items v.row v.row_is;
      since = record {
        log = v.log;
        found = v.log_is;
        policy_since = since_now IsNoted (policy_side a.state service) (policy_book v.log);
        tag_since = since_now IsRowNoted (tag_rows_of a.state service) (tag_book v.log);
        role_since = since_now IsRoleNoted a.state.roles (role_book a.state);
      };
    })
