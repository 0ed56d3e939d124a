use Rattle.std.proofs.Common.{ℕ, ap, subst, arith}
use Rattle.rg_policy_sets.specs.Bounds.{WorkWithin}
use Rattle.rg_policy_sets.specs.Kept.{Shelved}
use Rattle.rg_policy_sets.proofs.Counting.{no_edits, sum_of_none}
use Rattle.rg_policy_sets.specs.Seen.{RowSource}
use Rattle.rg_policy_sets.proofs.Building.{are_rows, rows_fit, rows_rise, rows_within, these_rows}
use Rattle.rg_policy_sets.proofs.rows.RowSet.build.Goals as goal

pub build-requires-clause-rising : goal.build-requires-clause-rising
build-requires-clause-rising g c = rows_rise c.args.def.now c.args.rows.now c.in_ok-slots.slots.items c.in_ok-slots.ensures.slots

pub build-requires-clause-fit : goal.build-requires-clause-fit
build-requires-clause-fit g c = rows_fit c.args.def.now c.args.rows.now c.in_ok-slots.slots.items c.in_ok-slots.ensures.slots c.requires.fit

pub returns-in_err-slots-clause-steps : goal.returns-in_err-slots-clause-steps
returns-in_err-slots-clause-steps g c =
    no_edits _ _ _ _ (subst (λ (n : ℕ). WorkWithin n 0 c.args.steps.now c.compile_slots.new.steps) (sum_of_none c.args.rows.now) c.compile_slots.ensures.steps)

pub returns-in_err-shelf-clause-steps : goal.returns-in_err-shelf-clause-steps
returns-in_err-shelf-clause-steps g c = rows_within c.args.def.now c.args.rows.now c.in_ok-slots.slots.items c.in_ok-slots.ensures.slots c.args.steps.now c.compile_slots.new.steps c.build.new.steps c.compile_slots.ensures.steps c.build.ensures.steps

pub returns-clause-compiled : goal.returns-clause-compiled
returns-clause-compiled g c =
    let each = c.in_ok-slots.ensures.compiled in
    let filed = c.build.ensures.steps.compiles in
    let all = sum_of_none c.args.rows.now in
    omega (arith, each, filed, all)

pub returns-clause-steps : goal.returns-clause-steps
returns-clause-steps g c = rows_within c.args.def.now c.args.rows.now c.in_ok-slots.slots.items c.in_ok-slots.ensures.slots c.args.steps.now c.compile_slots.new.steps c.build.new.steps c.compile_slots.ensures.steps c.build.ensures.steps

pub invariant_of-result : goal.invariant_of-result
invariant_of-result g c = are_rows c.args.def.now c.args.rows.now c.in_ok-slots.slots.items c.in_ok-slots.ensures.slots c.in_ok-shelf.shelf c.in_ok-shelf.ensures.made

pub returns-clause-made : goal.returns-clause-made
returns-clause-made g c =
    let these = these_rows c.args.def.now c.args.rows.now c.in_ok-slots.slots.items c.in_ok-slots.ensures.slots c.in_ok-shelf.shelf c.in_ok-shelf.ensures.made in
    λ i. record { def = ap (λ (s : Shelved RowSource). s.def) c.in_ok-shelf.ensures.made i; rows = these i }
