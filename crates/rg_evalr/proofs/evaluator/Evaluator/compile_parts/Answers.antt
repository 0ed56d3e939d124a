use Rattle.std.proofs.Common.{◌≡◌, true, false, subst, sym}
use Rattle.rg_policy.specs.Maps.{maps_of}
use Rattle.rg_defs.specs.declared.service_def.ServiceDef.{ServiceDef}
use Rattle.rg_resmatch.specs.Rules.{all_levels_fit, all_values_fit}
use Rattle.rg_evalr.proofs.RulesPassed.{items_compile, passed_rules}
use Rattle.rg_evalr.specs.Frames.{def_of}
use Rattle.rg_evalr.proofs.evaluator.Evaluator.compile_parts.Goals as goal

pub read_spans-requires : goal.read_spans-requires
read_spans-requires c = rw c.as_slice.ensures (passed_rules c.args.frame.now c.args.side c.args.policy.now c.requires.rules).schedules

pub of_policy-requires-clause-levels : goal.of_policy-requires-clause-levels
of_policy-requires-clause-levels c = subst (λ (d : ServiceDef). all_levels_fit d false (maps_of c.args.policy.now) ≡ true) (sym c.def_of-def.ensures)
    (c.fitting_policy_matches.ensures (def_of c.args.frame.now c.args.side) c.args.policy.now (passed_rules c.args.frame.now c.args.side c.args.policy.now c.requires.rules).levels)

pub of_policy-requires-clause-values : goal.of_policy-requires-clause-values
of_policy-requires-clause-values c = subst (λ (d : ServiceDef). all_values_fit d (maps_of c.args.policy.now) ≡ true) (sym c.def_of-def.ensures)
    (passed_rules c.args.frame.now c.args.side c.args.policy.now c.requires.rules).values

pub compile_conditions-requires : goal.compile_conditions-requires
compile_conditions-requires c = rw (c.as_slice-2.ensures, c.def_of-def.ensures) (items_compile c.args.frame.now c.args.side c.args.policy.now (passed_rules c.args.frame.now c.args.side c.args.policy.now c.requires.rules).conditions).conditions

pub compile_items-requires : goal.compile_items-requires
compile_items-requires c = rw c.as_slice-3.ensures (items_compile c.args.frame.now c.args.side c.args.policy.now (passed_rules c.args.frame.now c.args.side c.args.policy.now c.requires.rules).conditions).items

pub compile_items-requires-2 : goal.compile_items-requires-2
compile_items-requires-2 c = rw c.as_slice-4.ensures (items_compile c.args.frame.now c.args.side c.args.policy.now (passed_rules c.args.frame.now c.args.side c.args.policy.now c.requires.rules).conditions).deny_items

pub compile_items-requires-3 : goal.compile_items-requires-3
compile_items-requires-3 c = rw c.as_slice-5.ensures (items_compile c.args.frame.now c.args.side c.args.policy.now (passed_rules c.args.frame.now c.args.side c.args.policy.now c.requires.rules).conditions).allow_exceptions

pub compile_items-requires-4 : goal.compile_items-requires-4
compile_items-requires-4 c = rw c.as_slice-6.ensures (items_compile c.args.frame.now c.args.side c.args.policy.now (passed_rules c.args.frame.now c.args.side c.args.policy.now c.requires.rules).conditions).deny_exceptions

pub compile_placed-requires : goal.compile_placed-requires
compile_placed-requires c = rw c.as_slice-7.ensures (items_compile c.args.frame.now c.args.side c.args.policy.now (passed_rules c.args.frame.now c.args.side c.args.policy.now c.requires.rules).conditions).mask_items

pub compile_placed-requires-2 : goal.compile_placed-requires-2
compile_placed-requires-2 c = rw c.as_slice-8.ensures (items_compile c.args.frame.now c.args.side c.args.policy.now (passed_rules c.args.frame.now c.args.side c.args.policy.now c.requires.rules).conditions).filter_items
