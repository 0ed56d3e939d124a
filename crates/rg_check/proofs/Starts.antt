-- A configuration that breaks no rule starts an administration.
use Rattle.std.proofs.Common.{◌≡◌, ◌∙◌, ℕ, true, List, [], ◌∷◌, ◌++◌, map, Option, Some, None, is_none, refl}
use Rattle.std.specs.Option.{option_or}
use Rattle.rg_base.specs.Texts.{all_distinct}
use Rattle.rg_defs.specs.declared.service_def.ServiceDef.{ServiceDef}
use Rattle.rg_zone_rules.specs.Overlap.{first_overlap, zones_overlap}
use Rattle.rg_zone_rules.specs.declared.row.ZoneRow.{ZoneRow}
use Rattle.rg_cmd.specs.declared.ask.AdminCommand.{AdminCommand}
use Rattle.rg_cmd.specs.declared.ask.AdminCommand.TheVariants.{CreateService, PutDef, PutUser}
use Rattle.rg_cmd.specs.declared.config.Config.{Config}
use Rattle.rg_cmd.specs.declared.state.State.{State}
use Rattle.rg_validate.specs.Failing.{first_failing}
use Rattle.rg_admin_laws.specs.Changes.{after_command}
use Rattle.rg_admin_laws.specs.Starts.{IsStart}
use Rattle.rg_admin.specs.Puts.{IsStarting, is_put}
use Rattle.rg_admin.specs.Starting.{bare_state, last_rules, put_all, put_fault, puts, start_fault, start_rules, started, started_state, tag_services_first}
use Rattle.rg_admin.proofs.PutRows.{bare_starts, is_start, put_starts, same_rules}

-- each of the commands puts a row
abbrev ArePuts : List AdminCommand → Type 0
ArePuts [] = Unit {0}
ArePuts (c ∷ cs) = (is_put c ≡ true) × ArePuts cs

puts_mapped : {X : Type 0} (f : X → AdminCommand) → ((x : X) → is_put (f x) ≡ true) → (xs : List X) → ArePuts (map f xs)
puts_mapped f is [] = tt
puts_mapped f is (x ∷ xs) = (is x, puts_mapped f is xs)

puts_both : (xs ys : List AdminCommand) → ArePuts xs → ArePuts ys → ArePuts (xs ++ ys)
puts_both [] ys a b = b
puts_both (x ∷ xs) ys a b = (a.0, puts_both xs ys a.1 b)

puts_all : (c : Config) → ArePuts (puts c)
puts_all c =
    puts_both (map PutDef c.defs.items) _ (puts_mapped PutDef (λ x. refl) c.defs.items)
    (puts_both (map CreateService (tag_services_first c.services.items)) _ (puts_mapped CreateService (λ x. refl) (tag_services_first c.services.items))
    (puts_mapped PutUser (λ x. refl) c.users.items))

neither : {X : Type 0} (a b : Option X) → option_or a b ≡ None → (a ≡ None) × (b ≡ None)
neither None b e = (refl, e)
neither (Some x) b e = cc

module _ (by_pairs : (service : List ℕ) (def : ServiceDef) (zones : List ZoneRow) → is_none (first_overlap service def zones) ≡ all_distinct (zones_overlap service def) zones) where
  all_put : (s : State) → IsStarting s → (cs : List AdminCommand) → ArePuts cs → put_fault s cs ≡ None → IsStarting (put_all s cs)
  all_put s h [] are none = h
  all_put s h (c ∷ cs) are none =
      let passed = neither (first_failing (start_rules s c)) (put_fault (after_command s c) cs) none in
      all_put (after_command s c) (put_starts by_pairs s h c are.0 (same_rules s h c ∙ passed.0)) cs are.1 passed.1

  pub starts : (c : Config) → start_fault c ≡ None → IsStart (started c)
  unfolding start_fault started started_state
  starts c none =
      let passed = neither (put_fault (bare_state c) (puts c)) (first_failing (last_rules (started_state c))) none in
      is_start (put_all (bare_state c) (puts c)) (all_put (bare_state c) (bare_starts c) (puts c) (puts_all c) passed.0) c.time_zones passed.1
