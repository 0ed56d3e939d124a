use Rattle.std.proofs.Common.{◌∙◌, ◌+◌, ap, arith}
use Rattle.rg_drill.specs.Workload.{request_of}
use Rattle.rg_run_drill.specs.Drill.{answered}
use Rattle.rg_run_drill.proofs.Answering.{answers_more, requests_go_on, tries_more}
use Rattle.rg_run_drill.proofs.Counting.{one_more_answered}
use Rattle.rg_run_drill.proofs.answers.decide_all.Goals as goal

pub requests-preserved : goal.requests-preserved
requests-preserved g c =
    let before = c.requests.invariant in
    let made = c.in_ok-access.ensures in
    record {
      same = made.same ∙ before.same;
      drawn = made.drawn ∙ ap (λ n. (request_of c.args.policies n).next) before.drawn ∙ requests_go_on c.args.policies c.requests.number c.args.generator.now;
      within = omega arith;
      counted = ap answered c.with-answers.ensures ∙ one_more_answered c.in_ok-access.access c.requests.answers ∙ ap (λ n. n + 1) before.counted;
      answers = λ p last. answers_more c.args.policies c.requests.number c.args.generator.now c.requests.generator c.requests.running c.args.running.now before.same before.drawn p last
          c.in_ok-access.access c.requests.answers c.with-answers.result made.access (before.answers p last) c.with-answers.ensures;
      tries = λ p last. tries_more c.args.policies c.requests.number c.args.generator.now c.requests.generator c.requests.running c.args.running.now before.same before.drawn p last
          c.args.steps.now.tries c.requests.steps.tries c.decide_one.new.steps.tries made.tries (before.tries p last);
    }
