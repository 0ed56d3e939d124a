use Rattle.std.proofs.Common.{◌∙◌, ◌+◌, Some, ap, arith, refl, sym}
use Rattle.rg_drill.specs.Workload.{policy_of}
use Rattle.rg_run_drill.specs.Drill.{created}
use Rattle.rg_run_drill.proofs.Creating.{one_more_policy, policies_go_on}
use Rattle.rg_run_drill.proofs.preparing.prepare.Goals as goal

pub policies-init : goal.policies-init
policies-init g c = record { prepares = refl; drawn = refl; within = omega arith; tries = refl }

pub policies-preserved : goal.policies-preserved
policies-preserved g c =
    let before = c.policies.invariant in
    record {
      prepares = one_more_policy (Some c.args.running.now) c.args.policies c.policies.number c.args.generator.now c.policies.generator c.policies.running c.create.new.running c.in_ok-policy.policy
          before.prepares before.drawn c.in_ok-policy.ensures.made (ap (λ b. created b c.policies.running c.in_ok-policy.policy) (sym c.is_due.ensures) ∙ c.in_ok-create.ensures.created);
      drawn = c.in_ok-policy.ensures.next ∙ ap (λ n. (policy_of (c.policies.number + 1) n).next) before.drawn ∙ policies_go_on c.policies.number c.args.generator.now;
      within = omega arith;
      tries = c.create.ensures.tries ∙ before.tries;
    }
