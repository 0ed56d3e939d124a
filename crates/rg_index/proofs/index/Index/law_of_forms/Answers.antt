use Rattle.std.proofs.Common.{ap, sym, ◌∙◌}
use Rattle.rg_defs.specs.Rules.{def_fault}
use Rattle.rg_index.specs.Changes.{forms_fit, ids_differ}
use Rattle.rg_index.specs.Indexed.{Indexed}
use Rattle.rg_index.proofs.index.Index.law_of_forms.Goals as goal

pub returns : goal.returns
returns c = record {
  lawful = ap (λ (x : Indexed). def_fault x.def) (sym c.self.view_is) ∙ c.self.invariant.1.lawful;
  apart = ap (λ (x : Indexed). ids_differ x.forms) (sym c.self.view_is) ∙ c.self.invariant.1.apart;
  fit = ap (λ (x : Indexed). forms_fit x.def x.forms) (sym c.self.view_is) ∙ c.self.invariant.1.fit;
}
