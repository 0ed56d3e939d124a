use Rattle.std.proofs.Common.{◌≡◌, List, ◌++◌, ap, ◌∙◌}
use Rattle.rg_resmatch.proofs.Compiling.{answers, seen}
use Rattle.rg_policy.specs.declared.policy.ResourceMap.{ResourceMap}
use Rattle.rg_policy.specs.Maps.{maps_of}
use Rattle.rg_resmatch.specs.Compiled.{MapForm, map_forms}
use Rattle.rg_resmatch.proofs.matcher.Matcher.of_policy.Goals as goal

pub from_compiled-requires : goal.from_compiled-requires
from_compiled-requires c =
    let def = c.args.def.now in
    let policy = c.args.policy.now in
    let made : c.in_ok-compiled.compiled.items ≡ map_forms def c.args.reach (maps_of policy) = c.in_ok-compiled.ensures
    ∙ ap (λ (maps : List ResourceMap). c.in_ok-first.first.items ++ map_forms def c.args.reach maps) c.as_slice.ensures
    ∙ ap (λ (fs : List MapForm). fs ++ map_forms def c.args.reach policy.additional.items) c.in_ok-first.ensures in
    answers def c.args.reach (maps_of policy) c.in_ok-compiled.compiled.items made c.requires.levels

pub returns : goal.returns
returns c =
    let def = c.args.def.now in
    let policy = c.args.policy.now in
    let made : c.in_ok-compiled.compiled.items ≡ map_forms def c.args.reach (maps_of policy) = c.in_ok-compiled.ensures
    ∙ ap (λ (maps : List ResourceMap). c.in_ok-first.first.items ++ map_forms def c.args.reach maps) c.as_slice.ensures
    ∙ ap (λ (fs : List MapForm). fs ++ map_forms def c.args.reach policy.additional.items) c.in_ok-first.ensures in
    c.from_compiled.ensures ∙ seen def c.args.reach (maps_of policy) c.in_ok-compiled.compiled.items made
