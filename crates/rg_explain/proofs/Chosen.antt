-- What is told of candidates, one by one.
use Rattle.std.proofs.Common.{◌≡◌, ◌&&◌, ◌∷◌, ℤ, Bool, true, false, cond, List, [], Option, None, Contains, inl, inr, refl, ap, sym, subst, ◌∙◌}
use Rattle.std.specs.Ordering.{int_eq}
use Rattle.rg_base.proofs.Lists.{Contains-cases, Contains-first, Contains-flat_map, Contains-flat_mapped, Contains-none}
use Rattle.rg_policy.specs.Kinds.{access_policy}
use Rattle.rg_policy.specs.declared.policy.Policy.{Policy}
use Rattle.rg_zone_rules.specs.declared.row.ZoneRow.{ZoneRow}
use Rattle.rg_evalr.specs.Effects.{access_of}
use Rattle.rg_evalr.specs.declared.frame.Effect.{Effect}
use Rattle.rg_evalr.specs.declared.frame.Effect.TheVariants.{Nothing}
use Rattle.rg_evalr.specs.declared.frame.Side.{Side}
use Rattle.rg_facts.proofs.Taking.{no_cell}
use Rattle.rg_facts.specs.Candidates.{Candidate, Setting, context_of, is_chosen}
use Rattle.rg_facts.specs.Flow.{cell_at, cell_of, given}
use Rattle.rg_standing.specs.Asking.{Asked}
use Rattle.rg_standing.specs.Standing.{effect_told, standing_of}
use Rattle.rg_explain.specs.Explaining.{asked_of, cell_told, told, told_all, told_by}
use Rattle.rg_explain.specs.Parts.{candidate_in, setting_in}
use Rattle.rg_explain.specs.declared.explanation.Told.{Told}

-- ---- the cell

given_cell : (access chosen : Bool) (priority : ℤ) (side : Side) (x y : Effect) → chosen ≡ true → x ≡ y
    → cond access (cell_of priority side x) None ≡ cell_of priority side (cond (access && chosen) y Nothing)
given_cell true chosen priority side x y h e = ap (cell_of priority side) (e ∙ ap (λ v. cond v y Nothing) (sym h))
given_cell false chosen priority side x y h e = sym (no_cell priority side)

-- a policy that is chosen and gives the effect that is told of it is told in its cell
pub cell_is_told : (s : Setting) (c : Candidate) → is_chosen s c ≡ true
    → effect_told (standing_of (asked_of s c) c.source.policy) c.source.policy.deny_all_else ≡ access_of c.source.frame c.source.side (context_of s c) c.source.policy
    → cell_told c.source.policy c.source.side (standing_of (asked_of s c) c.source.policy) ≡ cell_at s c
unfolding given
cell_is_told s c chosen e = given_cell (int_eq c.source.policy.policy_type access_policy) (is_chosen s c) c.source.policy.priority c.source.side _ _ chosen e

-- the same of a policy that is asked
pub cell_of_asked : (a : Asked) (zone : Option ZoneRow) (p : Policy) → is_chosen (setting_in a zone) (candidate_in a p) ≡ true
    → effect_told (standing_of a p) p.deny_all_else ≡ access_of a.frame a.side a.context p
    → cell_told p a.side (standing_of a p) ≡ cell_at (setting_in a zone) (candidate_in a p)
cell_of_asked a zone p chosen e = cell_is_told (setting_in a zone) (candidate_in a p) chosen e

given_none : (access : Bool) (x : Effect) → cond (access && false) x Nothing ≡ Nothing
given_none true x = refl
given_none false x = refl

-- one that isn't stands in no cell
pub unchosen : (s : Setting) (c : Candidate) → is_chosen s c ≡ false → cell_at s c ≡ None
unfolding given
unchosen s c h =
    let access = int_eq c.source.policy.policy_type access_policy in
    let effect = access_of c.source.frame c.source.side (context_of s c) c.source.policy in
    ap (cell_of c.source.policy.priority c.source.side) (ap (λ v. cond (access && v) effect Nothing) h ∙ given_none access effect)
    ∙ no_cell c.source.policy.priority c.source.side

-- ---- who is told

pub told_there : (s : Setting) (cs : List Candidate) (c : Candidate) → Contains cs c → is_chosen s c ≡ true → Contains (told_all s cs) (told s c)
told_there s cs c there h = Contains-flat_map (told_by s) cs c (told s c) there
    (subst (λ v. Contains (cond v (told s c ∷ []) []) (told s c)) (sym h) (Contains-first (told s c) []))

pub told_from : (s : Setting) (cs : List Candidate) (t : Told) → Contains (told_all s cs) t → (c : Candidate) × Contains cs c × (is_chosen s c ≡ true) × (t ≡ told s c)
told_from s cs t h = let r = Contains-flat_mapped (told_by s) cs t h in at r.0 r.1 (is_chosen s r.0) refl r.2 where
  at : (c : Candidate) → Contains cs c → (b : Bool) → is_chosen s c ≡ b → Contains (cond b (told s c ∷ []) []) t
      → (c : Candidate) × Contains cs c × (is_chosen s c ≡ true) × (t ≡ told s c)
  at c there false e within = absurd (Contains-none t within)
  at c there true e within = elim (Contains-cases (told s c) [] t within) [
    | inl same ↦ (c, there, e, sym same)
    | inr on ↦ absurd (Contains-none t on)
  ]
