use Rattle.std.proofs.Common.{ap, ◌∙◌}
use Rattle.std.specs.Str.{bytes_eq}
use Rattle.rg_base.proofs.Lists.{all_distinct-map}
use Rattle.rg_base.specs.Texts.{all_distinct}
use Rattle.rg_base.proofs.named.all_names_distinct.Goals as goal

pub returns : goal.returns
returns g c = c.are_distinct.ensures ∙ ap (all_distinct (λ x y. bytes_eq y x)) c.in_ok-index.ensures ∙ all_distinct-map (λ x y. bytes_eq y x) g.T.Named.named c.args.things.now
