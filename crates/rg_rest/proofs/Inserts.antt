-- Routes that are inserted stand in the rows with their patterns.
use Rattle.std.proofs.Common.{◌≡◌, ◌<◌, ◌==◌, ◌∙◌, ◌++◌, inl, inr, ℕ, List, [], ◌∷◌, Bool, true, false, cond, nat_lt, Result, Ok, Err, Option, Some, None, is_ok, codes, true≢false, refl, ap, sym, subst, arith, append_assoc, append-nil}
use Rattle.std.specs.List.{list_all}
use Rattle.std.proofs.lemmas.Bool.Decides.{nat_tests}
use Rattle.matchit.specs.Rows.{RowsOf, comes_before}
use Rattle.matchit.specs.Order.{placed}
use Rattle.matchit.specs.Route.{Scan, scan, scan_start, feed, push_byte, after_feed, after_shape, on_shape, shape_error, parse_route}
use Rattle.matchit.specs.Router.{RouteOf, InsertsRead, route_from}
use Rattle.matchit.specs.declared.error.InsertError.{InsertError}
use Rattle.rg_rest.specs.declared.route.Route.{Route}
use Rattle.rg_rest.specs.declared.route.Route.TheVariants as the
use Rattle.rg_rest.specs.declared.route.Tail.{Tail}
use Rattle.rg_rest.specs.declared.route.Tail.TheVariants.{Nothing, Name, Id, Plugin}
use Rattle.rg_rest.specs.Table.{row_of}
use Rattle.rg_rest.specs.Patterns.{end_text, pattern_text, end_tokens, pattern_of, IsPattern, EachRow, HasPattern, AreRoutes, Inserts}
use Rattle.rg_rest.proofs.Both.{both_true}

-- ---- what a pattern's text reads as

-- a byte that stands for itself, since it is below the braces
abbrev pub is_literal : ℕ → Bool
is_literal b = nat_lt b 123

abbrev pattern_in : Result Scan InsertError → List ℕ
pattern_in (Ok s) = s.pattern
pattern_in (Err e) = []

-- a scan outside of a parameter, that has read these tokens
record Reads (s : Scan) (tokens : List ℕ) : Type 0 where
  pattern : s.pattern ≡ tokens
  outside : s.mode ≡ 0

feed_literal : (s : Scan) (b : ℕ) → s.mode ≡ 0 → is_literal b ≡ true → feed s b ≡ Ok (push_byte s b)
feed_literal s b m lit =
    let low : b < 123 = grind (arith, nat_tests, lit) in
    let mode : (s.mode == 0) ≡ true = grind (arith, nat_tests, m) in
    let open_ : (b == 123) ≡ false = grind (arith, nat_tests, low) in
    let close : (b == 125) ≡ false = grind (arith, nat_tests, low) in
    rw (mode, open_, close) refl

scan_literals : (t : List ℕ) (s : Scan) (tokens rest : List ℕ) → Reads s tokens → list_all is_literal t ≡ true
    → (next : Scan) × Reads next (tokens ++ t) × (scan s (t ++ rest) ≡ scan next rest)
unfolding scan
scan_literals [] s tokens rest reads lit = (s, record { pattern = reads.pattern ∙ sym (append-nil tokens); outside = reads.outside }, refl)
scan_literals (b ∷ t) s tokens rest reads lit =
    let parts = both_true (is_literal b) (list_all is_literal t) lit in
    let pushed : Reads (push_byte s b) (tokens ++ b ∷ []) = record { pattern = ap (λ xs. xs ++ b ∷ []) reads.pattern; outside = refl } in
    let later = scan_literals t (push_byte s b) (tokens ++ b ∷ []) rest pushed parts.1 in
    let fed = feed_literal s b reads.outside parts.0 in
    (later.0, record { pattern = later.1.pattern ∙ append_assoc tokens (b ∷ []) t; outside = later.1.outside }, ap (λ x. after_feed x (λ next. scan next (t ++ rest))) fed ∙ later.2)

scan_nothing : (s : Scan) → s.mode ≡ 0 → pattern_in (scan s []) ≡ s.pattern
unfolding scan
scan_nothing s m = let mode : (s.mode == 0) ≡ true = grind (arith, nat_tests, m) in rw mode refl

scan_param : (s : Scan) → s.mode ≡ 0 → pattern_in (scan s (codes "{end}")) ≡ s.pattern ++ 256 ∷ []
unfolding scan
scan_param s m = let mode : (s.mode == 0) ≡ true = grind (arith, nat_tests, m) in rw mode refl

scan_tail : (tail : Tail) (s : Scan) → s.mode ≡ 0 → pattern_in (scan s (end_text tail)) ≡ s.pattern ++ end_tokens tail
scan_tail Nothing s m = scan_nothing s m ∙ sym (append-nil s.pattern)
scan_tail Name s m = scan_param s m
scan_tail Id s m = scan_param s m
scan_tail Plugin s m = scan_param s m

-- the texts of all routes are such bytes
pub literal_text : (r : Route) → list_all is_literal (row_of r).text ≡ true
unfolding row_of
literal_text the.PutDef = refl
literal_text the.CreateService = refl
literal_text the.UpdateService = refl
literal_text the.DeleteService = refl
literal_text the.CreatePolicy = refl
literal_text the.GetPolicy = refl
literal_text the.UpdatePolicy = refl
literal_text the.DeletePolicy = refl
literal_text the.ListPolicies = refl
literal_text the.PutRole = refl
literal_text the.DeleteRole = refl
literal_text the.PutZone = refl
literal_text the.DeleteZone = refl
literal_text the.PutTags = refl
literal_text the.DeleteTags = refl
literal_text the.PutUser = refl
literal_text the.DeleteUser = refl
literal_text the.DownloadPolicies = refl
literal_text the.DownloadTags = refl
literal_text the.DownloadRoles = refl
literal_text the.Decide = refl

scan_route : (r : Route) → pattern_in (scan scan_start (pattern_text r)) ≡ pattern_of r
scan_route r =
    let start : Reads scan_start [] = record { pattern = refl; outside = refl } in
    let read = scan_literals (row_of r).text scan_start [] (end_text (row_of r).tail) start (literal_text r) in
    ap pattern_in read.2 ∙ scan_tail (row_of r).tail read.0 read.1.outside ∙ ap (λ xs. xs ++ end_tokens (row_of r).tail) read.1.pattern

shaped : (o : Option InsertError) (s t : Scan) → on_shape o s ≡ Ok t → s.pattern ≡ t.pattern
shaped None s t e = ap pattern_in e
shaped (Some x) s t e = absurd (true≢false (ap is_ok (sym e)))

after_scan : (x : Result Scan InsertError) (s : Scan) → after_shape x ≡ Ok s → pattern_in x ≡ s.pattern
after_scan (Ok t) s e = shaped (shape_error t.pattern) t s e
after_scan (Err x) s e = absurd (true≢false (ap is_ok (sym e)))

read_route : (r : Route) (s : Scan) → parse_route (pattern_text r) ≡ Ok s → s.pattern ≡ pattern_of r
read_route r s e = sym (after_scan (scan scan_start (pattern_text r)) s e) ∙ scan_route r

-- ---- rows with one more

literal_pattern : (t : List ℕ) (tail : Tail) → list_all is_literal t ≡ true → IsPattern (t ++ end_tokens tail)
literal_pattern [] Nothing lit = tt
literal_pattern [] Name lit = inr (refl, refl)
literal_pattern [] Id lit = inr (refl, refl)
literal_pattern [] Plugin lit = inr (refl, refl)
literal_pattern (b ∷ t) tail lit =
    let parts = both_true (is_literal b) (list_all is_literal t) lit in
    let low : b < 256 = grind (arith, nat_tests, parts.0) in
    inl (low, literal_pattern t tail parts.1)

each_placed_at : {K : Type 0} (Q : List ℕ → K → Type 0) (q : Bool) (r x : List ℕ × K) (rest placed_rest : RowsOf K) → Q r.0 r.1 → Q x.0 x.1 → EachRow Q rest → EachRow Q placed_rest
    → EachRow Q (cond q (r ∷ x ∷ rest) (x ∷ placed_rest))
each_placed_at Q true r x rest later h k each placed_each = (h, (k, each))
each_placed_at Q false r x rest later h k each placed_each = (k, placed_each)

each_placed : {K : Type 0} (Q : List ℕ → K → Type 0) (r : List ℕ × K) (rs : RowsOf K) → Q r.0 r.1 → EachRow Q rs → EachRow Q (placed r rs)
each_placed Q r [] h each = (h, tt)
each_placed Q r (x ∷ rest) h each = each_placed_at Q (comes_before r.0 x.0) r x rest (placed r rest) h each.0 each.1 (each_placed Q r rest h each.1)

has_placed_at : {K : Type 0} (q : Bool) (t : List ℕ) (r x : List ℕ × K) (rest later : RowsOf K) → HasPattern t (r ∷ x ∷ rest) → HasPattern t (x ∷ later) → HasPattern t (cond q (r ∷ x ∷ rest) (x ∷ later))
has_placed_at true t r x rest later h k = h
has_placed_at false t r x rest later h k = k

-- the new row is there
has_new : {K : Type 0} (r : List ℕ × K) (rs : RowsOf K) → HasPattern r.0 (placed r rs)
has_new r [] = inl refl
has_new r (x ∷ rest) = has_placed_at (comes_before r.0 x.0) r.0 r x rest (placed r rest) (inl refl) (inr (has_new r rest))

-- and so are the old ones
has_old : {K : Type 0} (t : List ℕ) (r : List ℕ × K) (rs : RowsOf K) → HasPattern t rs → HasPattern t (placed r rs)
has_old t r [] h = absurd h
has_old t r (x ∷ rest) (inl h) = has_placed_at (comes_before r.0 x.0) t r x rest (placed r rest) (inr (inl h)) (inl h)
has_old t r (x ∷ rest) (inr h) = has_placed_at (comes_before r.0 x.0) t r x rest (placed r rest) (inr (inr h)) (inr (has_old t r rest h))

inserted : (r : Route) (x : Result Scan InsertError) (old new : RowsOf (RouteOf Route)) (u : Unit {0}) → x ≡ parse_route (pattern_text r) → InsertsRead x r old new (Ok u) → Inserts r old new
inserted r (Ok s) old new u e h =
    let is = read_route r s (sym e) in
    let row = route_from s r in
    let pattern : IsPattern s.pattern = subst IsPattern (sym is) (literal_pattern (row_of r).text (row_of r).tail (literal_text r)) in
    record {
      routes = λ rs. subst AreRoutes (sym h.1) (record { patterns = each_placed _ (s.pattern, row) old pattern rs.patterns; own = each_placed _ (s.pattern, row) old is rs.own });
      has = subst (HasPattern (pattern_of r)) (sym h.1) (subst (λ t. HasPattern t (placed (s.pattern, row) old)) is (has_new (s.pattern, row) old));
      keeps = λ t held. subst (HasPattern t) (sym h.1) (has_old t (s.pattern, row) old held);
    }
inserted r (Err x) old new u e (h, inl is) = absurd (true≢false (ap is_ok is))
inserted r (Err x) old new u e (h, inr is) = absurd (true≢false (ap is_ok is))

pub inserts : (r : Route) (text : List ℕ) (old new : RowsOf (RouteOf Route)) (u : Unit {0}) → text ≡ pattern_text r → InsertsRead (parse_route text) r old new (Ok u) → Inserts r old new
inserts r text old new u same h = inserted r (parse_route text) old new u (ap parse_route same) h

pub ruleset insertions = (inserts)
