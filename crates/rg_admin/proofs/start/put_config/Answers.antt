use Rattle.std.proofs.Common.{◌≡◌, List, None, map, refl, sym, ap, ◌∙◌, subst}
use Rattle.rg_base.specs.Places.{IsIndex}
use Rattle.rg_defs.specs.declared.service_def.ServiceDef.{ServiceDef}
use Rattle.rg_cmd.specs.declared.ask.AdminCommand.{AdminCommand}
use Rattle.rg_cmd.specs.declared.state.ServiceRow.{ServiceRow}
use Rattle.rg_cmd.specs.declared.state.State.{State}
use Rattle.rg_cmd.specs.declared.state.UserRow.{UserRow}
use Rattle.rg_admin.specs.Puts.{IsStarting, rows_put}
use Rattle.rg_admin.specs.Starting.{IsCause, bare_state, put_all, put_fault, puts, started_state}
use Rattle.rg_admin.proofs.PutRows.{bare_starts, puts_are}
use Rattle.rg_admin.proofs.start.put_config.Goals as goal

pub same-admins : goal.same-admins
same-admins c = refl

pub same-plugin : goal.same-plugin
same-plugin c = refl

pub same-defs : goal.same-defs
same-defs c = refl

pub same-users : goal.same-users
same-users c = refl

pub same-time_zones : goal.same-time_zones
same-time_zones c = refl

pub put_rows-requires : goal.put_rows-requires
put_rows-requires c =
    let putting = c.nothing_put-putting in
    let bare : putting.result.state ≡ bare_state c.args.config = putting.ensures.state ∙ c.bare_state.ensures c.args.config refl refl in record {
      starting = subst IsStarting (sym bare) (bare_starts c.args.config);
      defs = subst (λ (s : State). IsIndex putting.result.defs (map (λ (def : ServiceDef). def.name) s.defs.items)) (sym bare) putting.ensures.defs;
      services = subst (λ (s : State). IsIndex putting.result.services (map (λ (row : ServiceRow). row.name) s.services.items)) (sym bare) putting.ensures.services;
      users = subst (λ (s : State). IsIndex putting.result.users (map (λ (row : UserRow). row.name) s.users.items)) (sym bare) putting.ensures.users;
    }

pub returns-in-Err-put_rows : goal.returns-in-Err-put_rows
returns-in-Err-put_rows c =
    let config = c.args.config in
    let rows : List AdminCommand = rows_put c.into_vec.result.items c.in-Ok.lists.0.items c.in-Ok.lists.1.items c.into_vec-2.result.items in
    let same : rows ≡ puts config = puts_are config _ _ _ _ c.into_vec.ensures c.in-Ok.ensures.tags c.in-Ok.ensures.others c.into_vec-2.ensures in
    let bare : c.nothing_put-putting.result.state ≡ bare_state config = c.nothing_put-putting.ensures.state ∙ c.bare_state.ensures config refl refl in
    subst (λ (l : List AdminCommand). IsCause c.in-Err-put_rows.fault (put_fault (bare_state config) l)) same
    (subst (λ (s : State). IsCause c.in-Err-put_rows.fault (put_fault s rows)) bare c.in-Err-put_rows.ensures.err)

pub returns : goal.returns
unfolding started_state
returns c =
    let config = c.args.config in
    let rows : List AdminCommand = rows_put c.into_vec.result.items c.in-Ok.lists.0.items c.in-Ok.lists.1.items c.into_vec-2.result.items in
    let same : rows ≡ puts config = puts_are config _ _ _ _ c.into_vec.ensures c.in-Ok.ensures.tags c.in-Ok.ensures.others c.into_vec-2.ensures in
    let bare : c.nothing_put-putting.result.state ≡ bare_state config = c.nothing_put-putting.ensures.state ∙ c.bare_state.ensures config refl refl in
    let put = c.in_default.ensures in record {
      fault = subst (λ (l : List AdminCommand). put_fault (bare_state config) l ≡ None) same (subst (λ (s : State). put_fault s rows ≡ None) bare put.ok.fault);
      now = ap (λ (s : State). record s { time_zones = config.time_zones }) (c.state_of-state.ensures ∙ put.ok.led ∙ (ap (λ (s : State). put_all s rows) bare ∙ ap (put_all (bare_state config)) same));
      before = c.put_rows.new.putting.state;
      starting = put.putting.starting;
      zoned = ap (λ (s : State). record s { time_zones = config.time_zones }) c.state_of-state.ensures;
    }
