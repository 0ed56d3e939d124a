-- The hooks of worker 0 among those of all workers.
use Rattle.std.proofs.Common.{◌≡◌, ◌∙◌, ◌≤◌, ℕ, List, [], ◌∷◌, Option, length, drop, get_or, refl, ap, subst, arith}
use Rattle.std.proofs.Math.ListN.{set}
use Rattle.rg_base.specs.declared.numbers.Moment.{Moment}
use Rattle.rg_hook.specs.Enriching.{EnricherState}
use Rattle.rg_hook.specs.Told.{SinkState}
use Rattle.rg_run_script.specs.declared.status.Status.{Status}
use Rattle.rg_run_script.specs.Follow.{Work, worked}
use Rattle.rg_run_script.specs.Hooked.{Hooked, Hooks, hooked, hooks_of, with_enrichers}
use Rattle.rg_run_script.specs.Ports.{Ports}
use Rattle.rg_run_script.specs.Runs.{IsRun, StandsHooked}
use Rattle.rg_run_keep.specs.Custody.{Keeps, Shelf}
use Rattle.rg_run.specs.Runs.{first_hooks}

module _ {H : Type 0} (sinks : H → List (SinkState × ℕ)) (enrichers : H → List EnricherState) where
  -- what was done with the hooks of worker 0 alone, seen among all
  by_first : (P : Hooks → Hooks → Type 0) (items : List H) (y x : H) → 1 ≤ length items → y ≡ get_or items 0 y
      → P (hooks_of (sinks y) (enrichers y)) (hooks_of (sinks x) (enrichers x)) → P (first_hooks sinks enrichers items) (first_hooks sinks enrichers (set items 0 x))
  by_first P [] y x h is p = absurd (omega (arith, h))
  by_first P (z ∷ items) y x h is p = subst (λ (v : H). P (hooks_of (sinks v) (enrichers v)) (hooks_of (sinks x) (enrichers x))) is p

  -- a script that was worked so
  pub ran_first : {S : Type 0} (step : S → List EnricherState → List ℕ → Moment → Option (Work (Hooked S))) (worker : S) (items : List H) (y x : H) (p q : Ports) (status : Status)
      → 1 ≤ length items → y ≡ get_or items 0 y
      → IsRun (StandsHooked (Hooked S) (worked (with_enrichers step) (hooked worker (enrichers y)) 1) (hooks_of (sinks y) (enrichers y)) (hooks_of (sinks x) (enrichers x))) p q status
      → IsRun (StandsHooked (Hooked S) (worked (with_enrichers step) (hooked worker (first_hooks sinks enrichers items).enrichers) 1)
      (first_hooks sinks enrichers items) (first_hooks sinks enrichers (set items 0 x))) p q status
  ran_first {S} step worker items y x p q status h is run =
      by_first (λ a b. IsRun (StandsHooked (Hooked S) (worked (with_enrichers step) (hooked worker a.enrichers) 1) a b) p q status) items y x h is run

  -- and one of a kept administration
  pub kept_first : (s t : Shelf) (items : List H) (y x : H) (p q : Ports) (status : Status) → 1 ≤ length items → y ≡ get_or items 0 y
      → IsRun (Keeps s t (hooks_of (sinks y) (enrichers y)) (hooks_of (sinks x) (enrichers x))) p q status
      → IsRun (Keeps s t (first_hooks sinks enrichers items) (first_hooks sinks enrichers (set items 0 x))) p q status
  kept_first s t items y x p q status h is run = by_first (λ a b. IsRun (Keeps s t a b) p q status) items y x h is run

pub others_stay : {H : Type 0} (items : List H) (x : H) → drop 1 (set items 0 x) ≡ drop 1 items
others_stay [] x = refl
others_stay (y ∷ items) x = refl

-- hooks that were left as they were are put back into their place
pub first_stays : {H : Type 0} (items : List H) (y x : H) → y ≡ get_or items 0 y → x ≡ y → set items 0 x ≡ items
first_stays [] y x is same = refl
first_stays (z ∷ items) y x is same = ap (λ v. v ∷ items) (same ∙ is)
