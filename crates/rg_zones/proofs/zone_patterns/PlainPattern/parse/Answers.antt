use Rattle.std.proofs.Common.{◌≡◌, rules, false, ap, ◌∙◌}
use Rattle.std.specs.Str.{chars}
use Rattle.rg_pattern.specs.Atoms.{has_user}
use Rattle.rg_zones.proofs.Forms.{plain_text}
use Rattle.rg_zones.proofs.zone_patterns.PlainPattern.parse.Goals as goal

pub invariant_of-result : goal.invariant_of-result
invariant_of-result c =
    let plain : has_user c.in-Ok.held ≡ false = ap has_user c.in-Ok.ensures.read ∙ plain_text c.args.wild (chars c.args.text.now) c.requires in
    search (rules, plain)
