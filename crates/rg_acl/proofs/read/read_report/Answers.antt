use Rattle.std.proofs.Common.{Option, ap, sym, subst, ◌∙◌}
use Rattle.std.specs.Prelude.{option_map}
use Rattle.serde_json.specs.Data.{Data}
use Rattle.serde_json.specs.View.{view}
use Rattle.rg_json.specs.Reading.{Answers, reading_of}
use Rattle.rg_acl.specs.Asks.{ask_of, ask_shape}
use Rattle.rg_acl.proofs.read.read_report.Goals as goal

pub returns-in-Ok-Some : goal.returns-in-Ok-Some
returns-in-Ok-Some c = subst (λ (o : Option Data). Answers c.ask_in.result (reading_of ask_shape (ask_of c.args.now) o))
    (ap (option_map view) (sym c.in-Ok-Some.field-0-is) ∙ c.in-Ok-Some.ensures) c.ask_in.ensures
