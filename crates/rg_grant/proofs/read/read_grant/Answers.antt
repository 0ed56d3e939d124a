use Rattle.std.proofs.Common.{Option, ap, sym, subst, ◌∙◌}
use Rattle.std.specs.Prelude.{option_map}
use Rattle.serde_json.specs.Data.{Data}
use Rattle.serde_json.specs.View.{view}
use Rattle.rg_json.specs.Reading.{Answers, reading_of}
use Rattle.rg_grant.specs.Rows.{grant_shape, row_of}
use Rattle.rg_grant.proofs.read.read_grant.Goals as goal

pub returns-in-Ok-Some : goal.returns-in-Ok-Some
returns-in-Ok-Some c = subst (λ (o : Option Data). Answers c.row_in.result (reading_of grant_shape row_of o))
    (ap (option_map view) (sym c.in-Ok-Some.field-0-is) ∙ c.in-Ok-Some.ensures) c.row_in.ensures
