use Rattle.std.proofs.Common.{◌&&◌, ◌||◌, ◌*◌, ◌≡◌, ◌<◌, ◌^◌, false, length, sym, ap, subst, ◌∙◌}
use Rattle.std.specs.Str.{chars}
use Rattle.rg_roles.specs.Holding.{holds}
use Rattle.rg_roles.specs.Members.{names_asker, passes_at}
use Rattle.rg_roles.specs.Places.{any_below, has, place_in}
use Rattle.rg_roles.proofs.Asked.{asked_few, asked_nowhere, asked_there}
use Rattle.rg_roles.proofs.Decided.{leads-Decides}
use Rattle.rg_roles.proofs.membership.Roles.holds.Goals as goal

pub asker_reached-requires : goal.asker_reached-requires
asker_reached-requires c =
    let rows = c.self.inside.rows.items in
    let role = chars c.args.role.now in
    let at = ap (λ ns. place_in ns role) (sym c.self.invariant.0) ∙ sym c.place_of.ensures ∙ c.in-Some.is in
    subst (λ ws. length ws < 2 ^ 32) (sym c.at-words.ensures) (asked_few rows c.self.inside.reach c.self.invariant.1 role c.in-Some.place at)

pub returns-in-Some-clause-test : goal.returns-in-Some-clause-test
returns-in-Some-clause-test c =
    let rows = c.self.inside.rows.items in
    let reach = c.self.inside.reach in
    let role = chars c.args.role.now in
    let asker = names_asker (chars c.args.user.now) c.args.groups.now in
    let at = ap (λ ns. place_in ns role) (sym c.self.invariant.0) ∙ sym c.place_of.ensures ∙ c.in-Some.is in
    subst (λ rs. c.asker_reached.result ≡ holds rs role (chars c.args.user.now) c.args.groups.now) c.self.view_is
    (c.asker_reached.ensures
    ∙ (λ i. passes_at asker (c.as_slice.ensures.value i) c.in-Some.place
    || any_below (λ k. has (c.at-words.ensures i) k && passes_at asker (c.as_slice.ensures.value i) k) (64 * length (c.at-words.ensures i)))
    ∙ asked_there rows reach c.self.invariant.1 role c.in-Some.place at asker)

pub returns-in-Some-clause-exact : goal.returns-in-Some-clause-exact
returns-in-Some-clause-exact c =
    let same = returns-in-Some-clause-test c in
    let decided = leads-Decides c.args.self.now (names_asker (chars c.args.user.now) c.args.groups.now) (chars c.args.role.now) in
    (λ h. decided.0 (sym same ∙ h), λ held. same ∙ decided.1 held)

pub returns-in-None-clause-test : goal.returns-in-None-clause-test
returns-in-None-clause-test c =
    let rows = c.self.inside.rows.items in
    let role = chars c.args.role.now in
    let asker = names_asker (chars c.args.user.now) c.args.groups.now in
    subst (λ rs. false ≡ holds rs role (chars c.args.user.now) c.args.groups.now) c.self.view_is
    (asked_nowhere rows role (ap (λ ns. place_in ns role) (sym c.self.invariant.0) ∙ sym c.place_of.ensures ∙ c.in-None.is) asker)

pub returns-in-None-clause-exact : goal.returns-in-None-clause-exact
returns-in-None-clause-exact c =
    let same = returns-in-None-clause-test c in
    let decided = leads-Decides c.args.self.now (names_asker (chars c.args.user.now) c.args.groups.now) (chars c.args.role.now) in
    (λ h. decided.0 (sym same ∙ h), λ held. same ∙ decided.1 held)
