-- The JSON of an ask: its fields in the order of the format, and the ask that they make.
use Rattle.std.specs.Prelude.{[], ◌∷◌}
use Rattle.serde_json.specs.Data.{Data}
use Rattle.rg_base.specs.declared.numbers.Moment.{Moment}
use Rattle.rg_json.specs.Fields.{text_of}
use Rattle.rg_json.specs.Kinds.{fields}
use Rattle.rg_json.specs.Shape.{Shape, integer, list_of, name, record_of}
use Rattle.rg_wire.specs.declared.key.Key.TheVariants as key
use Rattle.rg_wire.specs.Fields.{i64_at, list_at, within}
use Rattle.rg_wire.specs.Records.{resource_of}
use Rattle.rg_wire.specs.Shapes.{may, must, resource_shape}
use Rattle.rg_acl.specs.declared.ask.ReportAsk.{ReportAsk}

abbrev pub ask_shape : Shape
ask_shape = record_of (fields (
    must key.Resource resource_shape ∷
    may key.AccessTypes (list_of name) ∷
    may key.AccessTime integer ∷ []))

-- an ask without a time is made now
unfoldable pub ask_of : Moment → Data → ReportAsk
ask_of now d = record {
  resource = resource_of (within key.Resource d);
  accesses = list_at text_of key.AccessTypes d;
  moment = record { 0 = i64_at now.0 key.AccessTime d };
}
