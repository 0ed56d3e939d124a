use Rattle.rg_facts.proofs.Soundness.{policies_of, rows_of, tag_policies_of}
use Rattle.rg_plain_engine.proofs.building.compile.Goals as goal

pub evaluators-requires : goal.evaluators-requires
evaluators-requires c = rw (c.as_slice-policies.ensures, c.in_ok-frame.ensures) (policies_of c.args.facts.now c.requires)

pub evaluators-requires-2 : goal.evaluators-requires-2
evaluators-requires-2 c = rw (c.as_slice-tag_policies.ensures, c.in_ok-frame.ensures) (tag_policies_of c.args.facts.now c.requires)

pub row_matchers-requires : goal.row_matchers-requires
row_matchers-requires c = rw c.as_slice.ensures (rows_of c.args.facts.now c.requires)
