use Rattle.rg_policy_sets.specs.Kept.{found_in, row_source_form}
use Rattle.rg_policy_sets.proofs.Sets.{all_rows, among_rows, few_rows, once_rows}
use Rattle.rg_policy_sets.proofs.rows.RowSet.visit.Goals as goal

pub returns-clause-few : goal.returns-clause-few
returns-clause-few c =
    let elements = c.args.resource.now.elements.items in
    few_rows c.args.self.now c.self.inside.shelf c.self.view_is c.self.invariant elements (found_in row_source_form c.self.inside.shelf elements) c.of.ensures.found c.of.result c.of.ensures.rows

pub returns-clause-among : goal.returns-clause-among
returns-clause-among c =
    let elements = c.args.resource.now.elements.items in
    among_rows c.args.self.now c.self.inside.shelf c.self.view_is c.self.invariant elements (found_in row_source_form c.self.inside.shelf elements) c.of.ensures.found c.of.result c.of.ensures.rows

pub returns-clause-once : goal.returns-clause-once
returns-clause-once c =
    let elements = c.args.resource.now.elements.items in
    once_rows c.args.self.now c.self.inside.shelf c.self.view_is c.self.invariant elements (found_in row_source_form c.self.inside.shelf elements) c.of.ensures.found c.of.result c.of.ensures.rows

pub returns-clause-all : goal.returns-clause-all
returns-clause-all c =
    let elements = c.args.resource.now.elements.items in
    all_rows c.args.self.now c.self.inside.shelf c.self.view_is c.self.invariant elements (found_in row_source_form c.self.inside.shelf elements) c.of.ensures.found c.of.result c.of.ensures.rows
