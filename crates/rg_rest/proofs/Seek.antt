-- What is found where each pattern is bytes that may end in one parameter.
use Rattle.std.proofs.Common.{◌≡◌, ◌<◌, ◌==◌, ◌-◌, ◌∙◌, inl, inr, ℕ, zero, suc, List, [], ◌∷◌, length, Bool, true, false, cond, not, Option, Some, None, is_some, IfSome, true≢false, refl, ap, sym, subst, arith}
use Rattle.std.proofs.lemmas.Bool.Decides.{nat_tests}
use Rattle.matchit.specs.Rows.{RowsOf}
use Rattle.rg_rest.specs.Patterns.{IsPattern, ArePatterns, EachRow, takes}
use Rattle.matchit.specs.Seek.{seek, own, step, or_else, param_step, longest_from, has_slash, segment}

-- rows that end here
abbrev AreEnds : {K : Type 0} → RowsOf K → Type 0
AreEnds [] = Unit {0}
AreEnds (r ∷ rs) = (r.0 ≡ []) × AreEnds rs

-- ---- one step

keep_pattern : {K : Type 0} (q : Bool) (t : List ℕ) (k : K) (rs : RowsOf K) → IsPattern t → ArePatterns rs → ArePatterns (cond q ((t, k) ∷ rs) rs)
keep_pattern true t k rs p ps = (p, ps)
keep_pattern false t k rs p ps = ps

tail_pattern : (x : ℕ) (t : List ℕ) → IsPattern (x ∷ t) → IsPattern t
tail_pattern x t (inl p) = p.1
tail_pattern x t (inr p) = subst IsPattern (sym p.1) tt

step_patterns : {K : Type 0} (b : ℕ) (rs : RowsOf K) → ArePatterns rs → ArePatterns (step b rs)
step_patterns b [] ps = tt
step_patterns b (([], k) ∷ rs) ps = step_patterns b rs ps.1
step_patterns b ((x ∷ t, k) ∷ rs) ps = keep_pattern (x == b) t k (step b rs) (tail_pattern x t ps.0) (step_patterns b rs ps.1)

no_catch_all : (x : ℕ) (t : List ℕ) → IsPattern (x ∷ t) → (x == 257) ≡ false
no_catch_all x t (inl p) = grind (arith, nat_tests, p.0)
no_catch_all x t (inr p) = grind (arith, nat_tests, p.0)

step_catch_all : {K : Type 0} (rs : RowsOf K) → ArePatterns rs → step 257 rs ≡ []
step_catch_all [] ps = refl
step_catch_all (([], k) ∷ rs) ps = step_catch_all rs ps.1
step_catch_all ((x ∷ t, k) ∷ rs) ps = rw (no_catch_all x t ps.0) (step_catch_all rs ps.1)

keep_end : {K : Type 0} (q : Bool) (t : List ℕ) (k : K) (rs : RowsOf K) → (q ≡ true → t ≡ []) → AreEnds rs → AreEnds (cond q ((t, k) ∷ rs) rs)
keep_end true t k rs p ps = (p refl, ps)
keep_end false t k rs p ps = ps

ends_after_param : (x : ℕ) (t : List ℕ) → IsPattern (x ∷ t) → (x == 256) ≡ true → t ≡ []
ends_after_param x t (inl p) h = absurd (grind (arith, nat_tests, p.0, h))
ends_after_param x t (inr p) h = p.1

step_param : {K : Type 0} (rs : RowsOf K) → ArePatterns rs → AreEnds (step 256 rs)
step_param [] ps = tt
step_param (([], k) ∷ rs) ps = step_param rs ps.1
step_param ((x ∷ t, k) ∷ rs) ps = keep_end (x == 256) t k (step 256 rs) (ends_after_param x t ps.0) (step_param rs ps.1)

-- ---- a parameter at the end

no_suffix : {K : Type 0} (seg : List ℕ) (rs : RowsOf K) → AreEnds rs → longest_from seg [] rs ≡ []
no_suffix seg [] es = refl
no_suffix seg ((t, k) ∷ rs) es = rw es.0 (no_suffix seg rs es.1)

param_step_end : {K : Type 0} (rs : RowsOf K) (path : List ℕ) → AreEnds rs → param_step rs path ≡ cond (has_slash path) (0, []) (length path, rs)
unfolding param_step
param_step_end rs path es = rw (no_suffix (segment path) rs es) refl

or_else_none : {K : Type 0} (o : Option K) → or_else o None ≡ o
or_else_none None = refl
or_else_none (Some k) = refl

seek_over : {K : Type 0} (rs : RowsOf K) (path : List ℕ) → seek (length path) rs path ≡ own rs
unfolding seek
seek_over rs [] = refl
seek_over rs (b ∷ p) = seek_over rs p

param_none : {K : Type 0} (q : Bool) (n : ℕ) → (cond {A = ℕ × RowsOf K} q (0, []) (n, [])).1 ≡ []
param_none true n = refl
param_none false n = refl

seek_none : {K : Type 0} (n : ℕ) (path : List ℕ) → seek {K = K} n [] path ≡ None
unfolding seek
seek_none n [] = refl
seek_none (suc n) (b ∷ p) = seek_none n p
seek_none {K} zero (b ∷ p) =
    let e : (param_step {K = K} [] (b ∷ p)).1 ≡ [] = ap (λ r. r.1) (param_step_end {K = K} [] (b ∷ p) tt) ∙ param_none (has_slash (b ∷ p)) (length (b ∷ p)) in
    rw (seek_none {K = K} 0 p, e, seek_none {K = K} ((param_step {K = K} [] (b ∷ p)).0 - 1) p) refl

param_cases : {K : Type 0} (q : Bool) (rs : RowsOf K) (b : ℕ) (p : List ℕ)
    → seek ((cond {A = ℕ × RowsOf K} q (0, []) (length (b ∷ p), rs)).0 - 1) (cond {A = ℕ × RowsOf K} q (0, []) (length (b ∷ p), rs)).1 p ≡ cond q None (own rs)
param_cases {K} true rs b p = seek_none {K = K} 0 p
param_cases false rs b p = let e : length (b ∷ p) - 1 ≡ length p = omega arith in rw e (seek_over rs p)

param_part : {K : Type 0} (rs : RowsOf K) (b : ℕ) (p : List ℕ) → AreEnds rs
    → seek ((param_step rs (b ∷ p)).0 - 1) (param_step rs (b ∷ p)).1 p ≡ cond (has_slash (b ∷ p)) None (own rs)
param_part rs b p es = rw (param_step_end rs (b ∷ p) es) (param_cases (has_slash (b ∷ p)) rs b p)

-- the search goes on behind the byte, and else behind a parameter, which ends the path
seek_step : {K : Type 0} (rs : RowsOf K) (b : ℕ) (p : List ℕ) → ArePatterns rs
    → seek 0 rs (b ∷ p) ≡ or_else (seek 0 (step b rs) p) (cond (has_slash (b ∷ p)) None (own (step 256 rs)))
unfolding seek
seek_step rs b p ps = rw (step_catch_all rs ps, or_else_none, param_part (step 256 rs) b p (step_param rs ps)) refl

-- ---- what is found takes the path

own_sound : {K : Type 0} (Q : List ℕ → K → Type 0) (rs : RowsOf K) → EachRow Q rs → IfSome (own rs) (λ k. Q [] k)
own_sound Q [] each = tt
own_sound Q (([], k) ∷ rs) each = each.0
own_sound Q ((x ∷ t, k) ∷ rs) each = own_sound Q rs each.1

keep_each : {K : Type 0} (Q : List ℕ → K → Type 0) (q : Bool) (x b : ℕ) (t : List ℕ) (k : K) (rs : RowsOf K) → (q ≡ true → x ≡ b) → Q (x ∷ t) k
    → EachRow (λ u k. Q (b ∷ u) k) rs → EachRow (λ u k. Q (b ∷ u) k) (cond q ((t, k) ∷ rs) rs)
keep_each Q true x b t k rs e h each = (subst (λ y. Q (y ∷ t) k) (e refl) h, each)
keep_each Q false x b t k rs e h each = each

step_each : {K : Type 0} (Q : List ℕ → K → Type 0) (b : ℕ) (rs : RowsOf K) → EachRow Q rs → EachRow (λ u k. Q (b ∷ u) k) (step b rs)
step_each Q b [] each = tt
step_each Q b (([], k) ∷ rs) each = step_each Q b rs each.1
step_each Q b ((x ∷ t, k) ∷ rs) each = keep_each Q (x == b) x b t k (step b rs) (λ e. grind (arith, nat_tests, e)) each.0 (step_each Q b rs each.1)

-- the bytes of a path
abbrev pub AreBytes : List ℕ → Type 0
AreBytes [] = Unit {0}
AreBytes (b ∷ p) = (b < 256) × AreBytes p

abbrev pub Found : {K : Type 0} → (List ℕ → K → Type 0) → List ℕ → K → Type 0
Found Q p k = (t : List ℕ) × Q t k × (takes t p ≡ true)

choose : {K : Type 0} (F : K → Type 0) (o p : Option K) → IfSome o F → IfSome p F → IfSome (or_else o p) F
choose F None p f g = g
choose F (Some k) p f g = f

weaker : {K : Type 0} (F G : K → Type 0) (o : Option K) → ((k : K) → F k → G k) → IfSome o F → IfSome o G
weaker F G None h f = tt
weaker F G (Some k) h f = h k f

byte_takes : (b : ℕ) (t p : List ℕ) → b < 256 → takes t p ≡ true → takes (b ∷ t) (b ∷ p) ≡ true
byte_takes b t p h e =
    let byte : (b == 256) ≡ false = grind (arith, nat_tests) in
    let same : (b == b) ≡ true = grind (arith, nat_tests) in
    rw (byte, same) e

param_found : {K : Type 0} (Q : List ℕ → K → Type 0) (q : Bool) (o : Option K) (b : ℕ) (p : List ℕ) → has_slash (b ∷ p) ≡ q → IfSome o (λ k. Q (256 ∷ []) k)
    → IfSome (cond q None o) (Found Q (b ∷ p))
param_found Q true o b p e f = tt
param_found Q false o b p e f = weaker _ (Found Q (b ∷ p)) o (λ k h. (256 ∷ [], h, ap not e)) f

pub sound : {K : Type 0} (Q : List ℕ → K → Type 0) (rs : RowsOf K) (p : List ℕ) → AreBytes p → ArePatterns rs → EachRow Q rs → IfSome (seek 0 rs p) (Found Q p)
unfolding seek
sound Q rs [] bs ps each = weaker _ (Found Q []) (own rs) (λ k h. ([], h, refl)) (own_sound Q rs each)
sound Q rs (b ∷ p) bs ps each =
    let next = sound (λ t k. Q (b ∷ t) k) (step b rs) p bs.1 (step_patterns b rs ps) (step_each Q b rs each) in
    let first_part = weaker _ (Found Q (b ∷ p)) (seek 0 (step b rs) p) (λ k f. (b ∷ f.0, f.1, byte_takes b f.0 p bs.0 f.2)) next in
    let second_part = param_found Q (has_slash (b ∷ p)) (own (step 256 rs)) b p refl (own_sound (λ t k. Q (256 ∷ t) k) (step 256 rs) (step_each Q 256 rs each)) in
    subst (λ o. IfSome o (Found Q (b ∷ p))) (sym (seek_step rs b p ps)) (choose (Found Q (b ∷ p)) (seek 0 (step b rs) p) _ first_part second_part)

-- ---- and where nothing is found no pattern takes it

both_none : {K : Type 0} (o p : Option K) → or_else o p ≡ None → (o ≡ None) × (p ≡ None)
both_none None p e = (refl, e)
both_none (Some k) p e = (e, absurd (true≢false (ap is_some e)))

own_none : {K : Type 0} (rs : RowsOf K) → own rs ≡ None → EachRow (λ t k. takes t [] ≡ false) rs
own_none [] e = tt
own_none (([], k) ∷ rs) e = absurd (true≢false (ap is_some e))
own_none ((x ∷ t, k) ∷ rs) e = (refl, own_none rs e)

each_kept : {K : Type 0} (R : List ℕ → K → Type 0) (q : Bool) (t : List ℕ) (k : K) (rs : RowsOf K) → EachRow R (cond q ((t, k) ∷ rs) rs) → (q ≡ true → R t k) × EachRow R rs
each_kept R true t k rs each = ((λ e. each.0), each.1)
each_kept R false t k rs each = ((λ e. absurd (true≢false (sym e))), each)

refuse : (q r : Bool) → (q ≡ true → r ≡ false) → cond q r false ≡ false
refuse true r h = h refl
refuse false r h = refl

-- neither the parameter nor the byte takes the path
refuse_either : (wild slash same rest : Bool) → (wild ≡ true → slash ≡ true) → (same ≡ true → rest ≡ false) → cond wild (not slash) (cond same rest false) ≡ false
refuse_either true slash same rest w r = ap not (w refl)
refuse_either false slash same rest w r = refuse same rest r

-- a row without a parameter here
not_param : {K : Type 0} (x : ℕ) (t : List ℕ) (k : K) (rs : RowsOf K) → IsPattern (x ∷ t) → own (cond (x == 256) ((t, k) ∷ rs) rs) ≡ None → ((x == 256) ≡ false) × (own rs ≡ None)
not_param x t k rs (inl p) none = let byte : (x == 256) ≡ false = grind (arith, nat_tests, p.0) in (byte, ap (λ q. own (cond q ((t, k) ∷ rs) rs)) (sym byte) ∙ none)
not_param x t k rs (inr p) none =
    let wild : (x == 256) ≡ true = grind (arith, nat_tests, p.0) in
    let ends : own (cond (x == 256) ((t, k) ∷ rs) rs) ≡ Some k = rw (wild, p.1) refl in
    absurd (true≢false (ap is_some (sym ends ∙ none)))

-- a slash goes on: no parameter takes the path
slash_refused : {K : Type 0} (b : ℕ) (p : List ℕ) (rs : RowsOf K) → has_slash (b ∷ p) ≡ true → EachRow (λ t k. takes t p ≡ false) (step b rs)
    → EachRow (λ t k. takes t (b ∷ p) ≡ false) rs
slash_refused b p [] slash each = tt
slash_refused b p (([], k) ∷ rs) slash each = (refl, slash_refused b p rs slash each)
slash_refused b p ((x ∷ t, k) ∷ rs) slash each =
    let parts = each_kept (λ t k. takes t p ≡ false) (x == b) t k (step b rs) each in
    (refuse_either (x == 256) (has_slash (b ∷ p)) (x == b) (takes t p) (λ e. slash) parts.0, slash_refused b p rs slash parts.1)

-- no slash follows: a parameter would have been found
segment_refused : {K : Type 0} (b : ℕ) (p : List ℕ) (rs : RowsOf K) → own (step 256 rs) ≡ None → EachRow (λ t k. takes t p ≡ false) (step b rs)
    → ArePatterns rs → EachRow (λ t k. takes t (b ∷ p) ≡ false) rs
segment_refused b p [] none each ps = tt
segment_refused b p (([], k) ∷ rs) none each ps = (refl, segment_refused b p rs none each ps.1)
segment_refused b p ((x ∷ t, k) ∷ rs) none each ps =
    let parts = each_kept (λ t k. takes t p ≡ false) (x == b) t k (step b rs) each in
    let other = not_param x t k (step 256 rs) ps.0 none in
    (refuse_either (x == 256) (has_slash (b ∷ p)) (x == b) (takes t p) (λ e. absurd (true≢false (sym e ∙ other.0))) parts.0, segment_refused b p rs other.1 parts.1 ps.1)

slash_or_not : {K : Type 0} (q : Bool) (b : ℕ) (p : List ℕ) (rs : RowsOf K) → has_slash (b ∷ p) ≡ q → EachRow (λ t k. takes t p ≡ false) (step b rs)
    → ArePatterns rs → cond q None (own (step 256 rs)) ≡ None → EachRow (λ t k. takes t (b ∷ p) ≡ false) rs
slash_or_not true b p rs slash each ps none = slash_refused b p rs slash each
slash_or_not false b p rs slash each ps none = segment_refused b p rs none each ps

pub complete : {K : Type 0} (rs : RowsOf K) (p : List ℕ) → ArePatterns rs → seek 0 rs p ≡ None → EachRow (λ t k. takes t p ≡ false) rs
unfolding seek
complete rs [] ps e = own_none rs e
complete rs (b ∷ p) ps e =
    let parts = both_none (seek 0 (step b rs) p) (cond (has_slash (b ∷ p)) None (own (step 256 rs))) (sym (seek_step rs b p ps) ∙ e) in
    let next = complete (step b rs) p (step_patterns b rs ps) parts.0 in
    slash_or_not (has_slash (b ∷ p)) b p rs refl next ps parts.1
