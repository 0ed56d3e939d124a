-- What owns nothing is made of nothing, so it may show any value.
use Rattle.std.proofs.Common.{List, [], ◌∷◌, ◌++◌, refl}
use Rattle.std.proofs.raw_atomic.Walks.{proved_at}
use Rattle.rg_trie.proofs.Bare.{Bare, bare, from_nothing}
use contract.Running.{tables}
use denote.Builtin.{RefOf}
use denote.Exit.{yes}
use denote.RattleType.{owns}
use denote.Signature.{plain, types_at, named_lft}
use denote.Steps.{nothing}
use denote.Triple.Entry.{alive}
use denote.Triple.Walked.{Stays, stay_dropped, Goes-dropped, walk_of, says, ends_at}
use mir.Val.{Val, vptr}
use types.ByLocal.{alloc_all, pass_all, free_all, look_at, sets, get}
use types.Kit.{‵, raw, ◌⊛◌, ◌$◌, ◌∵◌, !, qed, move, keep, drop, split, join, fsplit, fjoin, feq_l, regoal, prop, suffices, use0, done}
use types.Part.{agg}
use types.Run.{enter, no_more, and_then, returns}
use prog.Wp.{WpFn}
use Rattle.rg_trie.specs.Origins.{seen_from}
use Rattle.rg_trie.specs.contracts.seen.Seen as it
use Rattle.rg_trie.specs.contracts.origin.Origin as from
use Rattle.rg_trie.specs.contracts.seen.Seen.of as f
use Rattle.rg_trie.proofs.seen.Seen.of.Code as code
use Rattle.rg_trie.proofs.seen.Seen.of.Statement.{statement}

abbrev stayed : Stays f.ended.signature.params f.ended.kept
stayed = (stay_dropped _ yes, tt)

pub of_spec : {M : Type 1} → statement M
of_spec 𝓤 𝓛 𝓜 𝓡 wired =
    let c = f.clauses 𝓛 𝓜.mem 𝓡.returns in
    let W = walk_of 𝓛 f.ended stayed c in
    let 𝓣 = tables 𝓤 𝓛.H 𝓜 𝓡 𝓡.env in
    proved_at 𝓛 f.ended stayed c 𝓜 𝓡 (Goes-dropped 𝓛 2 (RefOf (0 ∷ []) tt (plain (λ κs. from.the_row (named_lft 2 1 tt κs))) (λ _. tt)) yes (λ κs x w. refl), tt)
    f.Key.name code.function (code.unfolded 𝓤 𝓛.H 𝓜 𝓡 wired) (λ y are.
    let a = y.0.3 in
    let vss = y.0.4 in
    let u : Val = vptr a.0.ref_ptr.0 a.0.ref_ptr.1 in
    let made : (it.the_row).Denot = record { marker = record {}; value = seen_from a.0.now } in
    qed 𝓛 ((raw (alive 𝓛 f.ended.signature y.0.0 y.0.1) ⊛ ‵ (owns (types_at f.ended.signature.params y.0.0) a vss)) ∷ raw ((c y.0.0 a).requires y.1) ∷ []) ∵
    keep ! (0 ∷ []) $ split ! $ move ! (1 ∷ []) $ fsplit ! $ fsplit ! $ feq_l ! (λ is. drop ! $ drop ! $
    regoal ! (λ (us : List Val). prop (WpFn 𝓤 𝓛.H 𝓣.C 𝓣.Λ code.function (us ++ []) (W.post y))) is refl $
    enter ! _ _ _ _ _ $ alloc_all ! (λ l.
    pass_all ! refl ((tt, tt), tt) $
    -- the marker, then the struct round it
    sets ! (agg ! (no_more !)) refl (tt, tt) $
    sets ! (agg ! (and_then ! (get ! refl) (no_more !))) refl (tt, (tt, tt)) $
    returns ! (look_at ! 0 refl) $ free_all ! refl $
    use0 𝓛 (‵ ((Bare (it.the_type).name).own_val (tt, tt) (bare ∷ []))) (from_nothing (it.the_type).name 𝓛) $
    suffices ! _ (ends_at 𝓛 f.ended stayed c y bare made (tt, tt) (tt, tt)) $ says ! refl $
    nothing ! $ move ! (1 ∷ 0 ∷ []) $ fjoin ! $ nothing ! $ nothing ! $ fjoin ! $ join ! $ move ! (1 ∷ 0 ∷ []) $ join ! $ done !)))
