-- One enricher more has run.
use Rattle.std.proofs.Common.{◌≡◌, ◌<◌, ◌≤◌, ◌+◌, ◌⊎◌, ℕ, List, [], ◌∷◌, ◌++◌, length, map, take, drop, get_or, Option, Some, None, Result, Ok, Err, OnErr, inl, inr, refl, sym, ap, ◌∙◌, arith, length-append}
use Rattle.std.proofs.Math.ListN.{set}
use Rattle.std.proofs.lemmas.List.{take_more, take_more_set, take-append-drop, take-append-le, length-map, map-set, get_or-map}
use lib.Seq.{map-set_same}
use Rattle.rg_base.specs.declared.pair.Pair.{Pair}
use Rattle.rg_policy.specs.declared.request.AccessRequest.{AccessRequest}
use Rattle.rg_hook.specs.Enriching.{EnricherState, Enriching, HaveRun, cut, enriched, has_run, onto, request_after, unreserved, with_pair}
use Rattle.rg_hook.proofs.Zips.{same_at, rest_more}

-- one more enricher behind the others
abbrev behind : Enriching → EnricherState → Enriching
behind done e = record { enrichers = done.enrichers ++ has_run e done.request ∷ []; request = request_after e done.request }

enriched_push : (es : List EnricherState) (e : EnricherState) (q : AccessRequest) → enriched (es ++ e ∷ []) q ≡ behind (enriched es q) e
enriched_push [] e q = refl
enriched_push (d ∷ es) e q = ap (λ r. onto (has_run d q) r) (enriched_push es e (request_after d q))

states_more : (es0 es : List EnricherState) (q0 q : AccessRequest) (i : ℕ) (d : EnricherState) → i < length es → drop i es ≡ drop i es0
    → enriched (take i es0) q0 ≡ record { enrichers = take i es; request = q }
    → enriched (take (i + 1) es0) q0 ≡ record { enrichers = take (i + 1) (set es i (has_run (get_or es i d) q)); request = request_after (get_or es i d) q }
states_more es0 es q0 q i d h rest ran =
    let s = same_at es0 es i d h rest in
    let e0 : enriched (take (i + 1) es0) q0 ≡ behind (enriched (take i es0) q0) (get_or es i d) =
    rw (take_more es0 i d s.0, s.1) (enriched_push (take i es0) (get_or es i d) q0) in
    let e1 : behind (enriched (take i es0) q0) (get_or es i d) ≡ behind (record { enrichers = take i es; request = q }) (get_or es i d) =
    ap (λ r. behind r (get_or es i d)) ran in
    e0 ∙ e1 ∙ ap (λ ds. record { enrichers = ds; request = request_after (get_or es i d) q }) (sym (take_more_set es i (has_run (get_or es i d) q) h))

-- the pairs in front stay, and none goes
front_stays : (n : ℕ) (q : AccessRequest) (pair : Option Pair) → n ≤ length q.context.items → (cut n (with_pair q pair) ≡ cut n q) × (n ≤ length (with_pair q pair).context.items)
front_stays n q None h = (refl, h)
front_stays n q (Some pair) h =
    let front : take n (q.context.items ++ pair ∷ []) ≡ take n q.context.items = take-append-le n q.context.items (pair ∷ []) h in
    (rw front refl, omega (arith, h, length-append q.context.items (pair ∷ [])))

-- the enrichers before the next place have run, where those before this one have, and the one here is put back as it is after its run
pub runs_more : {E : Type 0} (f : E → EnricherState) (xs0 xs : List E) (q0 q : AccessRequest) (i : ℕ) (d x : E) → i < length xs → drop i (map f xs) ≡ drop i (map f xs0)
    → enriched (take i (map f xs0)) q0 ≡ record { enrichers = take i (map f xs); request = q } → f x ≡ has_run (f (get_or xs i d)) q
    → (enriched (take (i + 1) (map f xs0)) q0 ≡ record { enrichers = take (i + 1) (map f (set xs i x)); request = request_after (f (get_or xs i d)) q })
    × (drop (i + 1) (map f (set xs i x)) ≡ drop (i + 1) (map f xs0)) × (i < length (map f xs0))
runs_more f xs0 xs q0 q i d x h rest ran e =
    let long : i < length (map f xs) = omega (arith, length-map xs f) in
    let here : get_or (map f xs) i (f d) ≡ f (get_or xs i d) = get_or-map f xs i d (f d) h in
    let m : map f (set xs i x) ≡ set (map f xs) i (f x) = map-set f xs i x in
    let after = rw (here, ← e) at (states_more (map f xs0) (map f xs) q0 q i (f d) long rest ran) in
    (rw m after, rw m (rest_more (map f xs0) (map f xs) i (f d) (f x) long rest), (same_at (map f xs0) (map f xs) i (f d) long rest).0)

-- what is known after a run that succeeded
pub record OneMore {E : Type 0} (f : E → EnricherState) (xs0 xs : List E) (q0 q1 : AccessRequest) (i n : ℕ) : Type 0 where
  pub ran : enriched (take i (map f xs0)) q0 ≡ record { enrichers = take i (map f xs); request = q1 }
  pub rest : drop i (map f xs) ≡ drop i (map f xs0)
  pub front : cut n q1 ≡ unreserved q0
  pub grown : n ≤ length q1.context.items

pub runs_on : {E : Type 0} (f : E → EnricherState) (xs0 xs : List E) (q0 q q1 : AccessRequest) (i n : ℕ) (d x : E) → i < length xs → OneMore f xs0 xs q0 q i n
    → f x ≡ has_run (f (get_or xs i d)) q → q1 ≡ request_after (f (get_or xs i d)) q → OneMore f xs0 (set xs i x) q0 q1 (i + 1) n
runs_on f xs0 xs q0 q q1 i n d x h now e r =
    let more = runs_more f xs0 xs q0 q i d x h now.rest now.ran e in
    let stays = front_stays n q ((f (get_or xs i d)).meaning (f (get_or xs i d)).remembered q).pair now.grown in
    record {
      ran = rw r more.0;
      rest = more.1;
      front = rw r (stays.0 ∙ now.front);
      grown = rw r stays.1;
    }

-- where the one here answered want of memory, or ran and found none for its pair
pub runs_stop : {E : Type 0} (f : E → EnricherState) (xs0 xs : List E) (q0 q : AccessRequest) (i n : ℕ) (d x : E) → i < length xs → OneMore f xs0 xs q0 q i n
    → (f x ≡ f (get_or xs i d)) ⊎ (f x ≡ has_run (f (get_or xs i d)) q) → HaveRun (map f xs0) q0 (map f (set xs i x))
runs_stop f xs0 xs q0 q i n d x h now (inl e) =
    let long : i < length (map f xs) = omega (arith, length-map xs f) in
    let s = same_at (map f xs0) (map f xs) i (f d) long now.rest in
    let m : map f (set xs i x) ≡ map f xs = map-set_same f xs i x d e in
    let t : take i (map f xs) ++ drop i (map f xs) ≡ map f xs = take-append-drop i (map f xs) in
    let a : (enriched (take i (map f xs0)) q0).enrichers ≡ take i (map f xs) = ap (λ r. r.enrichers) now.ran in
    let within : i ≤ length (map f xs0) = omega (arith, s.0) in
    record { n = i; within = within; states = rw (m, a, ← now.rest) (sym t) }
runs_stop f xs0 xs q0 q i n d x h now (inr e) =
    let r = runs_more f xs0 xs q0 q i d x h now.rest now.ran e in
    let t : take (i + 1) (map f (set xs i x)) ++ drop (i + 1) (map f (set xs i x)) ≡ map f (set xs i x) = take-append-drop (i + 1) (map f (set xs i x)) in
    let a : (enriched (take (i + 1) (map f xs0)) q0).enrichers ≡ take (i + 1) (map f (set xs i x)) = ap (λ r. r.enrichers) r.0 in
    let within : i + 1 ≤ length (map f xs0) = omega (arith, r.2) in
    record { n = i + 1; within = within; states = rw (a, ← r.1) (sym t) }

pub on_err : {T E : Type 0} (r : Result T E) (P : Type 0) → P → OnErr r P
on_err (Ok x) P p = tt
on_err (Err e) P p = p
