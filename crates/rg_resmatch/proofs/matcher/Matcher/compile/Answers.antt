use Rattle.std.proofs.Common.{◌≡◌, List, ◌++◌, ap, ◌∙◌}
use Rattle.rg_resmatch.specs.Compiled.{MapForm, map_forms}
use Rattle.rg_resmatch.proofs.Compiling.{answers, seen}
use Rattle.rg_resmatch.proofs.matcher.Matcher.compile.Goals as goal

pub from_compiled-requires : goal.from_compiled-requires
from_compiled-requires c =
    let def = c.args.def.now in
    let maps = c.args.maps.now in
    let made : c.in_ok-compiled.compiled.items ≡ map_forms def c.args.reach maps = c.in_ok-compiled.ensures ∙ ap (λ (fs : List MapForm). fs ++ map_forms def c.args.reach maps) c.new.ensures.items in
    answers def c.args.reach maps c.in_ok-compiled.compiled.items made c.requires.levels

pub returns : goal.returns
returns c =
    let def = c.args.def.now in
    let maps = c.args.maps.now in
    let made : c.in_ok-compiled.compiled.items ≡ map_forms def c.args.reach maps = c.in_ok-compiled.ensures ∙ ap (λ (fs : List MapForm). fs ++ map_forms def c.args.reach maps) c.new.ensures.items in
    c.from_compiled.ensures ∙ seen def c.args.reach maps c.in_ok-compiled.compiled.items made
