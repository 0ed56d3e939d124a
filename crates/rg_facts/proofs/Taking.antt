-- Candidates that take no part give nothing and offer nothing.
use Rattle.std.proofs.Common.{◌≡◌, ◌&&◌, ◌+◌, Bool, true, false, cond, ℕ, ℤ, Option, None, refl, ap, ◌∙◌}
use Rattle.std.specs.Ordering.{int_eq}
use Rattle.std.specs.Prelude.{option_map}
use Rattle.rg_policy.specs.Kinds.{access_policy, normal, overriding}
use Rattle.rg_policy.specs.declared.policy.Policy.{Policy}
use Rattle.rg_evalr.specs.Effects.{access_of, in_play, item_of}
use Rattle.rg_evalr.specs.declared.frame.Effect.TheVariants.{Nothing}
use Rattle.rg_evalr.specs.declared.frame.Side.{Side}
use Rattle.rg_evalr.specs.declared.frame.Side.TheVariants.{Resource, Tag}
use Rattle.rg_facts.specs.Best.{ranked}
use Rattle.rg_facts.specs.Candidates.{Candidate, Setting, context_of, is_chosen, takes_part}
use Rattle.rg_facts.specs.Choices.{offered, type_of}
use Rattle.rg_facts.specs.Flow.{cell_in, cell_of, given}
use Rattle.rg_facts.specs.declared.choice.Kind.{Kind}

-- of what is given only where two things hold nothing is left where they don't both hold
neither : {X : Type 0} (a b i : Bool) (x none : X) → (b && i) ≡ false → cond (a && b) (cond i x none) none ≡ none
neither false b i x none h = refl
neither true false i x none h = refl
neither true true false x none h = refl
neither true true true x none h = let bad : true ≡ false = h in cc

given_nothing : (s : Setting) (c : Candidate) → takes_part s c ≡ false → given s c ≡ Nothing
unfolding given access_of
given_nothing s c h = neither (int_eq c.source.policy.policy_type access_policy) (is_chosen s c) (in_play c.source.frame c.source.side (context_of s c) c.source.policy) _ Nothing h

pub no_cell : (priority : ℤ) (side : Side) → cell_of priority side Nothing ≡ None
no_cell priority side = at (int_eq priority overriding) (int_eq priority normal) side where
  at : (u v : Bool) (side : Side) → cond u (cell_in side Nothing) (cond v (option_map (λ n. n + 4) (cell_in side Nothing)) None) ≡ None
  at true v Tag = refl
  at true v Resource = refl
  at false true Tag = refl
  at false true Resource = refl
  at false false side = refl

pub unranked : (s : Setting) (c : Candidate) → takes_part s c ≡ false → ranked s c ≡ None
unfolding ranked
unranked s c h =
    ap (λ e. option_map (λ n. let r : ℕ × Policy = (n, c.source.policy) in r) (cell_of c.source.policy.priority c.source.side e)) (given_nothing s c h)
    ∙ ap (option_map (λ n. let r : ℕ × Policy = (n, c.source.policy) in r)) (no_cell c.source.policy.priority c.source.side)

nothing_mapped : {X Y : Type 0} (f : X → Y) (i : Bool) (o : Option X) → option_map f (cond i o None) ≡ cond i (option_map f o) None
nothing_mapped f true o = refl
nothing_mapped f false o = refl

pub unoffered : (s : Setting) (kind : Kind) (c : Candidate) → takes_part s c ≡ false → offered s kind c ≡ None
unfolding offered item_of
unoffered s kind c h =
    let i = in_play c.source.frame c.source.side (context_of s c) c.source.policy in
    ap (λ o. cond (int_eq c.source.policy.policy_type (type_of kind) && is_chosen s c) o None) (nothing_mapped _ i _)
    ∙ neither (int_eq c.source.policy.policy_type (type_of kind)) (is_chosen s c) i _ None h
