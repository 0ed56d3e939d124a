use Rattle.std.proofs.Common.{◌∙◌, ap}
use Rattle.std.specs.Str.{chars}
use Rattle.rg_index.specs.Changes.{forms_fit, ids_differ}
use Rattle.rg_zones.proofs.Places.{do_fit, forms_differ}
use Rattle.rg_zones.proofs.map.index_of.Goals as goal

pub build-requires-clause-apart : goal.build-requires-clause-apart
build-requires-clause-apart c = ap ids_differ (c.deref.ensures.value ∙ c.in_ok-forms.ensures) ∙ forms_differ (chars c.args.service.now) c.args.def.now 0 c.args.zones.now

pub build-requires-clause-fit : goal.build-requires-clause-fit
build-requires-clause-fit c = ap (forms_fit c.args.def.now) (c.deref.ensures.value ∙ c.in_ok-forms.ensures) ∙ do_fit (chars c.args.service.now) c.args.def.now 0 c.args.zones.now c.requires.fit
