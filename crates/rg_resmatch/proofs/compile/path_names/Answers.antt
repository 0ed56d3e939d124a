use Rattle.std.proofs.Common.{◌++◌, ◌<◌, ℕ, List, Option, option_map, option_to_list, length, take, get_or, slice_get, sym, ap, ◌∙◌, arith}
use Rattle.std.proofs.lemmas.List.{take_more}
use Rattle.rg_base.specs.Listed.{Listed, listed}
use Rattle.rg_defs.specs.declared.service_def.Level.{Level}
use Rattle.rg_resmatch.specs.Compiled.{path_names}
use Rattle.rg_resmatch.proofs.Names.{one_more_name}
use Rattle.rg_resmatch.proofs.compile.path_names.Goals as goal

pub loop-place-preserved : goal.loop-place-preserved
loop-place-preserved c =
    let levels = c.args.levels.now in
    let path = c.args.path.now in
    let i = c.loop-place.place-index in
    let place = get_or path i 0 in
    let names = c.loop-place.names.items in
    let within : i < length path = omega arith in
    c.in_ok-names.ensures
    ∙ ap (λ (o : Option (List ℕ)). listed (names ++ option_to_list o)) c.name_at.ensures
    ∙ ap (λ (n : Listed (List ℕ)). listed (n.items ++ option_to_list (option_map (λ (l : Level). l.name) (slice_get levels place)))) c.loop-place.invariant
    ∙ ap (λ (n : List (List ℕ)). listed n) (sym (one_more_name levels (take i path) place))
    ∙ ap (λ (p : List ℕ). listed (path_names levels p)) (sym (take_more path i 0 within))
