-- The work of opening.
use Rattle.std.proofs.Common.{◌≡◌, Option, Some, Result, Ok, Err, OnOk, sym, subst, ◌∙◌}
use Rattle.std.proofs.lemmas.Option.{same_Some}
use Rattle.rg_base.specs.Counts.{Counts}
use Rattle.rg_facts.specs.declared.facts.Facts.{Facts}
use Rattle.rg_publish.specs.Bounds.{HasCompiled, WorkWithin, pairs_in, policies_in}
use Rattle.rg_session.specs.Opening.{IsBuiltWithin, IsCompiled}
use Rattle.rg_session.proofs.Refreshed.{no_work}

pub on_ok : {T E : Type 0} {P Q : Type 0} (r : Result T E) → (P → Q) → OnOk r P → OnOk r Q
on_ok (Ok x) f p = f p
on_ok (Err e) f p = tt

module _ (seen : Option Facts) (a b : Counts) where
  pub none_built : a ≡ b → IsBuiltWithin seen a b
  none_built same = λ f is. subst (WorkWithin (policies_in f) (pairs_in f) a) same (no_work (policies_in f) (pairs_in f) a)

  module _ (facts : Facts) (is : seen ≡ Some facts) where
    pub compiled_all : HasCompiled (policies_in facts) a b → IsCompiled seen a b
    compiled_all work = λ f same. subst (λ g. HasCompiled (policies_in g) a b) (same_Some facts f (sym is ∙ same)) work

    pub built_within : WorkWithin (policies_in facts) (pairs_in facts) a b → IsBuiltWithin seen a b
    built_within work = λ f same. subst (λ g. WorkWithin (policies_in g) (pairs_in g) a b) (same_Some facts f (sym is ∙ same)) work
