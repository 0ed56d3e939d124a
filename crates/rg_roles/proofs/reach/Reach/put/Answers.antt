use Rattle.std.proofs.Common.{Some, ap, set, option_map, ◌∙◌}
use Rattle.std.proofs.lemmas.List.{map-set}
use Rattle.rg_roles.proofs.reach.Reach.put.Goals as goal

pub returns : goal.returns
returns c = map-set (option_map (λ v. v.items)) c.self.inside.sets.items c.args.place (Some c.args.words) ∙ ap (λ l. set l c.args.place (Some c.args.words.items)) c.self.view_is
