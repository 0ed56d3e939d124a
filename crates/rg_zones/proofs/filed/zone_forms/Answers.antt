use Rattle.std.proofs.Common.{◌<◌, ◌∙◌, length, arith}
use Rattle.std.specs.Str.{chars}
use Rattle.rg_zones.proofs.Places.{forms_more}
use Rattle.rg_zones.proofs.filed.zone_forms.Goals as goal

pub loop-place-preserved : goal.loop-place-preserved
loop-place-preserved c =
    let zones = c.args.zones.now in
    let i = c.loop-place.place in
    let within : i < length zones = omega arith in
    c.in_ok-push.ensures.items
    ∙ forms_more (chars c.args.service.now) c.args.def.now c.loop-place.forms.items zones i c.index-zones-place.result c.in_ok-form.form c.loop-place.invariant c.in_ok-form.ensures within c.index-zones-place.is
