-- What an index is seen as: the definition that it was built for, and its forms.
use Rattle.std.specs.Prelude.{List}
use Rattle.rg_defs.specs.declared.service_def.ServiceDef.{ServiceDef}
use Rattle.rg_index.specs.declared.form.Form.{Form}

pub record Indexed : Type 0 where
  pub def : ServiceDef
  pub forms : List Form
