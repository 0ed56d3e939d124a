-- A number that owns nothing is made of nothing.
use Rattle.std.proofs.Common.{[], ◌∷◌, refl}
use Rattle.std.proofs.raw_atomic.Walks.{proved}
use Rattle.rg_base.proofs.Bare.{Bare, bare, from_nothing}
use base.Fml.{ftrue}
use contract.Monad.{fact_i}
use contract.Running.{tables}
use denote.Steps.{nothing}
use denote.Triple.Walked.{Stays, walk_of, ends_at}
use types.ByLocal.{alloc_all, pass_all, free_all, look_at, sets, get}
use types.Kit.{‵, ◌⊛◌, ◌$◌, ◌∵◌, !, qed, move, keep, join, fjoin, suffices, frame, use0, by}
use types.Part.{agg}
use types.Run.{enter, no_more, and_then, returns}
use Rattle.rg_base.specs.contracts.tally.Tally as it
use Rattle.rg_base.specs.contracts.tally.Tally.zero as f
use Rattle.rg_base.proofs.tally.Tally.zero.Code as code
use Rattle.rg_base.proofs.tally.Tally.zero.Statement.{statement}

abbrev stayed : Stays f.ended.signature.params f.ended.kept
stayed = tt

pub zero_spec : {M : Type 1} → statement M
zero_spec 𝓤 𝓛 𝓜 𝓡 wired =
    let c = f.clauses 𝓛 𝓜.mem 𝓡.returns in
    let W = walk_of 𝓛 f.ended stayed c in
    let 𝓣 = tables 𝓤 𝓛.H 𝓜 𝓡 𝓡.env in
    proved 𝓛 f.ended stayed c 𝓜 𝓡 tt f.Key.name code.function (code.unfolded 𝓤 𝓛.H 𝓜 𝓡 wired) (λ κs. tt) (λ κs. tt) (λ κs qs bounds a _ are.
    let y : W.Ghost = ((κs, qs, bounds, a, tt), tt) in
    qed 𝓛 ((‵ ftrue ⊛ ‵ ftrue) ∷ ‵ ftrue ∷ []) ∵
    keep ! [] $ enter ! _ _ _ _ _ $ alloc_all ! (λ l.
    pass_all ! refl tt $
    -- the marker, then the struct round it
    sets ! (agg ! (no_more !)) refl (tt, tt) $
    sets ! (agg ! (and_then ! (get ! refl) (no_more !))) refl (tt, (tt, tt)) $
    returns ! (look_at ! 0 refl) $ free_all ! refl $
    suffices ! _ (ends_at 𝓛 f.ended stayed c y bare (record { marker = record {}; count = 0 }) tt tt) $
    use0 𝓛 (‵ ((Bare (it.the_type).name).own_val (tt, tt) (bare ∷ []))) (from_nothing (it.the_type).name 𝓛) $
    nothing ! $ move ! (1 ∷ 0 ∷ []) $ fjoin ! $ nothing ! $ join ! $ nothing ! $ join ! $ frame ! $
    by ! (fact_i 𝓤 _ _ refl)))
