use Rattle.std.proofs.Common.{◌<◌, length, take, get_or, sym, ◌∙◌, subst, arith}
use Rattle.std.proofs.lemmas.List.{take_more}
use Rattle.rg_roles.proofs.Reached.{AreListed, listed_more}
use Rattle.rg_roles.proofs.reach.insert_all.Goals as goal

pub loop-place-preserved : goal.loop-place-preserved
loop-place-preserved c =
    let places = c.args.places.now in
    let i = c.loop-place.place-index in
    let within : i < length places = omega arith in (
      c.insert.ensures.len ∙ c.loop-place.invariant.0,
      subst (λ xs. AreListed xs c.insert.new.words) (sym (take_more places i 0 within))
          (listed_more (take i places) (get_or places i 0) c.loop-place.words c.insert.new.words c.loop-place.invariant.1 c.insert.ensures.all),
    )
