use Rattle.std.proofs.Common.{◌≡◌, ◌≤◌, All, List, [], ◌∷◌, ◌++◌, length, sym, ap, ◌∙◌, subst, arith, append_assoc}
use Rattle.std.proofs.lemmas.List.Elements.{All-cons}
use Rattle.rg_publish.specs.Passes.{Seeing}
use Rattle.rg_session.specs.Closing.{IsKnown}
use Rattle.rg_session.proofs.Settled.{all_front, nothing}
use Rattle.rg_session.proofs.settling.settle_all.Goals as goal

pub loop-pass-preserved : goal.loop-pass-preserved
loop-pass-preserved g c =
    let inv = c.loop-pass.invariant in
    let pass : Seeing = c.in-Some.pass in
    let rest : List Seeing = c.pop.new.self.items in
    let done : List Seeing = inv.1.0 in
    let items : c.loop-pass.passes.items ≡ rest ++ pass ∷ [] = c.in-Some.ensures.items in
    let behind : Seeing → Type 0 = λ p. (length p.list ≤ length c.args.publisher.now.list) × (p.book ≡ c.args.publisher.now.book) in (
      all_front behind rest (pass ∷ []) (subst (λ (l : List Seeing). All behind l) items inv.0),
      (pass ∷ done, inv.1.1 ∙ (ap (λ (l : List Seeing). l ++ done) items ∙ append_assoc rest (pass ∷ []) done), All-cons (IsKnown c.args.publisher.now) pass done c.in_ok-settle.ensures inv.1.2),
    )

pub returns : goal.returns
returns g c =
    let inv = c.loop-pass.invariant in
    let left : List Seeing = c.loop-pass.passes.items in
    let none : left ≡ [] = nothing left (omega (arith, c.in_default.ensures.cases.0, c.loop-pass.passes.ok.0)) in
    let all : c.args.passes.items ≡ inv.1.0 = inv.1.1 ∙ ap (λ (l : List Seeing). l ++ inv.1.0) none in
    subst (λ (l : List Seeing). All (IsKnown c.args.publisher.now) l) (sym all) inv.1.2
