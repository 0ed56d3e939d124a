use Rattle.std.proofs.Common.{rules, ◌≡◌, ◌==◌, true, [], ◌∷◌, length, sym}
use Rattle.rg_cmd.specs.declared.rule.Rule.TheVariants.{O2, O3}
use Rattle.rg_validate.specs.Failing.{first_failing}
use Rattle.rg_validate.specs.Roles.{goes_in_no_circle, member_roles_exist}
use Rattle.rg_validate.proofs.Circles.{alone_apart, alone_exist, none_there}
use Rattle.rg_validate.proofs.commands.member_roles_fault.Goals as goal

pub returns-then-is_empty : goal.returns-then-is_empty
returns-then-is_empty c =
    let s = c.args.state.now in
    let row = c.args.role.now in
    let few : (length c.args.role.now.roles.items == 0) ≡ true = search rules in
    let alone = none_there row.roles.items few in
    let exist : member_roles_exist s row ≡ true = alone_exist s row alone in
    let apart : goes_in_no_circle s row ≡ true =
    alone_apart c.leads_is_decided.ensures c.sound_in_lists.ensures c.row_may_be_put.ensures s row c.requires.valid.roles alone in
    λ i. first_failing ((O2, sym exist i) ∷ (O3, sym apart i) ∷ [])
