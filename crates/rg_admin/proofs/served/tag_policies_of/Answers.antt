use Rattle.std.proofs.Common.{◌∙◌, ap, sym}
use Rattle.std.specs.List.{filter}
use Rattle.rg_base.specs.Listed.{listed}
use Rattle.rg_cmd.specs.Lookups.{is_of_tag}
use Rattle.rg_admin.proofs.Serving.{none_of_tag}
use Rattle.rg_admin.proofs.served.tag_policies_of.Goals as goal

pub returns-in-None : goal.returns-in-None
returns-in-None c =
    let policies = c.args.state.now.policies.items in
    c.new.ensures ∙ ap listed (sym (none_of_tag policies) ∙ ap (λ t. filter (is_of_tag t) policies) c.in-None.ensures)
