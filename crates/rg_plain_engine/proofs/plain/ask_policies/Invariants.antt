use Rattle.std.proofs.Common.{◌≡◌, length, map}
use Rattle.std.specs.Prelude.{option_map}
use Rattle.rg_evalr.specs.Sources.{Source}
use Rattle.rg_facts.specs.Best.{after}
use Rattle.rg_facts.specs.Engines.{asked_for}
use Rattle.rg_plain_engine.proofs.plain.ask_policies.Given as goal

-- the rest, after what was found, gives what the whole does
abbrev pub invariant-policies : goal.invariant-policies
invariant-policies l = record {
  same : after l.pass l.setting (asked_for (option_map (λ t. t.now) l.tag) l.evaluators) l.best ≡ after l.pass l.setting (asked_for (option_map (λ t. t.now) l.tag) l.fn.evaluators) l.fn.best;
  policies : map (λ (s : Source). s.policy) l.evaluators ≡ l.policies;
}

abbrev pub decreases-policies : goal.decreases-policies
decreases-policies l = length l.policies
