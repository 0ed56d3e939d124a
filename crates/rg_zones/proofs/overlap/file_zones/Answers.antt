use Rattle.std.proofs.Common.{◌≡◌, ◌+◌, ◌<◌, ◌++◌, [], ◌∷◌, length, map, true, sym, ap, subst, ◌∙◌, arith}
use Rattle.std.proofs.lemmas.List.{map-append}
use Rattle.std.specs.List.{list_all}
use Rattle.std.specs.Str.{chars}
use Rattle.rg_base.proofs.Lists.{left_passes}
use Rattle.rg_zones.specs.Candidates.{AreFiled, Filing, IsFiled, maps_of}
use Rattle.rg_zone_rules.specs.Overlap.{zone_patterns, zone_scalars}
use Rattle.rg_zone_rules.specs.Rules.{maps_fit}
use Rattle.rg_zones.proofs.Scalars.{one_more}
use Rattle.rg_zones.proofs.Searching.{filed_more, mapped_more}
use Rattle.rg_zones.proofs.overlap.file_zones.Goals as goal

pub loop-zone-preserved : goal.loop-zone-preserved
loop-zone-preserved c =
    let service = chars c.args.service.now in
    let def = c.args.def.now in
    let zones = c.args.zones.now in
    let i = c.loop-zone.zone-index in
    let x = c.zone-item.result in
    let old = c.loop-zone.filed.items in
    let f = c.in_ok-zone.zone in
    let within : i < length zones = omega arith in
    let maps : f.maps ≡ zone_patterns service def x = c.in_ok-zone.ensures.maps ∙ c.in_ok-compiled.ensures.exact in
    let scalars : zone_scalars f.maps ≡ true = ap zone_scalars c.in_ok-zone.ensures.maps ∙ c.in_ok-compiled.ensures.scalars in
    let more : maps_of c.push.new.self.items ≡ maps_of old ++ f.maps ∷ [] = ap maps_of c.in_ok-push.ensures.items ∙ map-append (λ (f : Filing). f.maps) old (f ∷ []) in
    record {
      so_far = more ∙ mapped_more (zone_patterns service def) (maps_of old) zones i x f.maps c.loop-zone.invariant.so_far maps within c.zone-item.is;
      scalars = ap (list_all zone_scalars) more ∙ one_more zone_scalars (maps_of old) f.maps scalars ∙ c.loop-zone.invariant.scalars;
      filed = subst (AreFiled c.args.paths.now) (sym c.in_ok-push.ensures.items) (filed_more c.args.paths.now old f c.loop-zone.invariant.filed (subst (λ ls. IsFiled ls f) c.levels.ensures c.in_ok-zone.ensures.filed));
      fit = (left_passes (maps_fit service def) i zones x within c.zone-item.is c.loop-zone.invariant.fit).1;
    }
