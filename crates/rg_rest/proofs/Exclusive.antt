-- A path that two routes have is the same path of both.
use Rattle.std.proofs.Common.{◌≡◌, ◌<◌, ◌==◌, ◌∙◌, ◌&&◌, ◌||◌, ◌++◌, ℕ, List, [], ◌∷◌, length, drop, Bool, true, false, cond, not, nat_eq, nat_le, nat_lt, Contains, true≢false, refl, ap, sym, arith}
use Rattle.std.specs.List.{find, list_all, list_any, starts_with}
use Rattle.std.specs.Str.{bytes_eq}
use Rattle.std.proofs.lemmas.Slice.Eq.{bytes_eq-Decides}
use Rattle.rg_base.proofs.Lists.{all_holds, any_from, find_agree, list_any_agree}
use Rattle.std.specs.Char.{is_ascii_digit}
use Rattle.std.proofs.lemmas.Bool.Decides.{nat_tests}
use Rattle.matchit.specs.Seek.{has_slash}
use Rattle.rg_rest.specs.declared.route.Route.{Route}
use Rattle.rg_rest.specs.declared.route.Route.TheVariants as the
use Rattle.rg_rest.specs.declared.route.Tail.{Tail}
use Rattle.rg_rest.specs.declared.route.Tail.TheVariants.{Nothing, Name, Id, Plugin}
use Rattle.rg_rest.specs.Table.{all_routes, row_of}
use Rattle.rg_rest.specs.Query.{is_number}
use Rattle.rg_rest.specs.Paths.{end_of, ends_as, fits, is_known, is_route, is_segment, route_of}
use Rattle.rg_rest.specs.Patterns.{end_tokens, pattern_of, same_path, same_tail, takes}
use Rattle.rg_rest.proofs.Both.{both_true}
use Rattle.rg_rest.proofs.Inserts.{is_literal, literal_text}

-- ---- what a pattern takes, in the words of the table

-- the path begins with the text, and nothing or one segment follows
abbrev ends : Tail → List ℕ → Bool
ends Nothing end = length end == 0
ends Name end = is_segment end
ends Id end = is_segment end
ends Plugin end = is_segment end

slash_or : (q : Bool) (r s : Bool) → r ≡ s → cond q true r ≡ (q || s)
slash_or true r s e = refl
slash_or false r s e = e

slash_any : (p : List ℕ) → has_slash p ≡ list_any (λ b. b == 47) p
slash_any [] = refl
slash_any (b ∷ p) = slash_or (b == 47) (has_slash p) (list_any (λ b. b == 47) p) (slash_any p)

param_takes : (p : List ℕ) → takes (256 ∷ []) p ≡ is_segment p
param_takes [] = refl
param_takes (b ∷ p) = let some : nat_lt 0 (length (b ∷ p)) ≡ true = grind (arith, nat_tests) in rw (some, slash_any (b ∷ p)) refl

nothing_takes : (p : List ℕ) → takes [] p ≡ (length p == 0)
nothing_takes [] = refl
nothing_takes (b ∷ p) = let some : (length (b ∷ p) == 0) ≡ false = grind (arith, nat_tests) in rw some refl

end_takes : (tail : Tail) (p : List ℕ) → takes (end_tokens tail) p ≡ ends tail p
end_takes Nothing p = nothing_takes p
end_takes Name p = param_takes p
end_takes Id p = param_takes p
end_takes Plugin p = param_takes p

byte_or_not : (q r s t : Bool) → r ≡ (s && t) → cond q r false ≡ ((q && s) && t)
byte_or_not true r s t e = e
byte_or_not false r s t e = refl

text_takes : (t : List ℕ) (tail : Tail) (p : List ℕ) → list_all is_literal t ≡ true → takes (t ++ end_tokens tail) p ≡ (starts_with nat_eq p t && ends tail (drop (length t) p))
text_takes [] tail p lit = end_takes tail p
text_takes (x ∷ t) tail [] lit = refl
text_takes (x ∷ t) tail (b ∷ p) lit =
    let parts = both_true (is_literal x) (list_all is_literal t) lit in
    let low : x < 123 = grind (arith, nat_tests, parts.0) in
    let byte : (x == 256) ≡ false = grind (arith, nat_tests, low) in
    rw byte (byte_or_not (x == b) (takes (t ++ end_tokens tail) p) (starts_with nat_eq p t) (ends tail (drop (length t) p)) (text_takes t tail p parts.1))

pub route_takes : (r : Route) (p : List ℕ) → takes (pattern_of r) p ≡ (starts_with nat_eq p (row_of r).text && ends (row_of r).tail (end_of r p))
route_takes r p = text_takes (row_of r).text (row_of r).tail p (literal_text r)

digit_no_slash : (c : ℕ) → is_ascii_digit c ≡ true → (c == 47) ≡ false
digit_no_slash c e = grind (arith, nat_tests, e)

-- ---- a path of a route is taken by its pattern

no_slash : (q : Bool) (c : ℕ) (rest : Bool) → (is_ascii_digit c && q) ≡ true → (q ≡ true → rest ≡ false) → ((c == 47) || rest) ≡ false
no_slash q c rest e h =
    let parts = both_true (is_ascii_digit c) q e in
    let other : (c == 47) ≡ false = digit_no_slash c parts.0 in
    rw other (h parts.1)

digits_segment : (p : List ℕ) → list_all is_ascii_digit p ≡ true → list_any (λ b. b == 47) p ≡ false
digits_segment [] e = refl
digits_segment (c ∷ p) e = no_slash (list_all is_ascii_digit p) c (list_any (λ b. b == 47) p) e (digits_segment p)

number_segment : (p : List ℕ) → is_number 18 p ≡ true → is_segment p ≡ true
number_segment p e =
    let first = both_true (nat_le 1 (length p)) (nat_le (length p) 18 && list_all is_ascii_digit p) e in
    let rest = both_true (nat_le (length p) 18) (list_all is_ascii_digit p) first.1 in
    let some : nat_lt 0 (length p) ≡ true = grind (arith, nat_tests, first.0) in
    rw (some, digits_segment p rest.1) refl

ends_of : (plugin : List ℕ) (tail : Tail) (end : List ℕ) → ends_as plugin tail end ≡ true → ends tail end ≡ true
unfolding ends_as
ends_of plugin Nothing end e = e
ends_of plugin Name end e = e
ends_of plugin Id end e = number_segment end e
ends_of plugin Plugin end e = (both_true (is_segment end) _ e).0

pub fits_takes : (plugin path : List ℕ) (r : Route) → fits plugin path r ≡ true → takes (pattern_of r) path ≡ true
unfolding fits
fits_takes plugin path r e =
    let parts = both_true (starts_with nat_eq path (row_of r).text) (ends_as plugin (row_of r).tail (end_of r path)) e in
    route_takes r path ∙ rw (parts.0, ends_of plugin (row_of r).tail (end_of r path) parts.1) refl

-- and a pattern that takes it leaves only the end to be judged
pub takes_fits : (plugin path : List ℕ) (r : Route) → takes (pattern_of r) path ≡ true → fits plugin path r ≡ ends_as plugin (row_of r).tail (end_of r path)
unfolding fits
takes_fits plugin path r e = rw (both_true (starts_with nat_eq path (row_of r).text) _ (sym (route_takes r path) ∙ e)).0 refl

-- ---- no path is taken by two patterns

-- the first tokens that differ are two bytes, or one pattern ends where the other goes on
abbrev apart : List ℕ → List ℕ → Bool
apart [] [] = false
apart [] (y ∷ t) = true
apart (x ∷ s) [] = true
apart (x ∷ s) (y ∷ t) = cond (x == 256 || y == 256) false (cond (x == y) (apart s t) true)

either_false : (a b : Bool) (c : Bool) → cond (a || b) false c ≡ true → (a ≡ false) × (b ≡ false) × (c ≡ true)
either_false true b c e = absurd (true≢false (sym e))
either_false false true c e = absurd (true≢false (sym e))
either_false false false c e = (refl, refl, e)

held : (q r : Bool) → cond q r false ≡ true → (q ≡ true) × (r ≡ true)
held true r e = (refl, e)
held false r e = absurd (true≢false (sym e))

apart_once : (s t p : List ℕ) → apart s t ≡ true → takes s p ≡ true → takes t p ≡ true → ⊥
apart_once [] [] p a e f = true≢false (sym a)
apart_once [] (y ∷ t) [] a e f = true≢false (sym f)
apart_once [] (y ∷ t) (b ∷ p) a e f = true≢false (sym e)
apart_once (x ∷ s) [] [] a e f = true≢false (sym e)
apart_once (x ∷ s) [] (b ∷ p) a e f = true≢false (sym f)
apart_once (x ∷ s) (y ∷ t) [] a e f = true≢false (sym e)
apart_once (x ∷ s) (y ∷ t) (b ∷ p) a e f =
    let parts = either_false (x == 256) (y == 256) (cond (x == y) (apart s t) true) a in
    let first = held (x == b) (takes s p) (ap (λ q. cond q (not (has_slash (b ∷ p))) (cond (x == b) (takes s p) false)) (sym parts.0) ∙ e) in
    let second = held (y == b) (takes t p) (ap (λ q. cond q (not (has_slash (b ∷ p))) (cond (y == b) (takes t p) false)) (sym parts.1) ∙ f) in
    let same : (x == y) ≡ true = grind (arith, nat_tests, first.0, second.0) in
    apart_once s t p (ap (λ q. cond q (apart s t) true) (sym same) ∙ parts.2) first.1 second.1

-- two routes have the same path, or their patterns are apart
abbrev told_apart : Route → Route → Bool
told_apart r s = same_path r s || apart (pattern_of r) (pattern_of s)

abbrev all_told : Route → Bool
all_told r = list_all (told_apart r) all_routes

each_told : (r : Route) → all_told r ≡ true
unfolding row_of
each_told the.PutDef = refl
each_told the.CreateService = refl
each_told the.UpdateService = refl
each_told the.DeleteService = refl
each_told the.CreatePolicy = refl
each_told the.GetPolicy = refl
each_told the.UpdatePolicy = refl
each_told the.DeletePolicy = refl
each_told the.ListPolicies = refl
each_told the.PutRole = refl
each_told the.DeleteRole = refl
each_told the.PutZone = refl
each_told the.DeleteZone = refl
each_told the.PutTags = refl
each_told the.DeleteTags = refl
each_told the.PutUser = refl
each_told the.DeleteUser = refl
each_told the.DownloadPolicies = refl
each_told the.DownloadTags = refl
each_told the.DownloadRoles = refl
each_told the.Decide = refl

pub listed_route : (r : Route) → Contains all_routes r
listed_route the.PutDef = (0, omega arith, refl)
listed_route the.CreateService = (1, omega arith, refl)
listed_route the.UpdateService = (2, omega arith, refl)
listed_route the.DeleteService = (3, omega arith, refl)
listed_route the.CreatePolicy = (4, omega arith, refl)
listed_route the.GetPolicy = (5, omega arith, refl)
listed_route the.UpdatePolicy = (6, omega arith, refl)
listed_route the.DeletePolicy = (7, omega arith, refl)
listed_route the.ListPolicies = (8, omega arith, refl)
listed_route the.PutRole = (9, omega arith, refl)
listed_route the.DeleteRole = (10, omega arith, refl)
listed_route the.PutZone = (11, omega arith, refl)
listed_route the.DeleteZone = (12, omega arith, refl)
listed_route the.PutTags = (13, omega arith, refl)
listed_route the.DeleteTags = (14, omega arith, refl)
listed_route the.PutUser = (15, omega arith, refl)
listed_route the.DeleteUser = (16, omega arith, refl)
listed_route the.DownloadPolicies = (17, omega arith, refl)
listed_route the.DownloadTags = (18, omega arith, refl)
listed_route the.DownloadRoles = (19, omega arith, refl)
listed_route the.Decide = (20, omega arith, refl)

told : (r s : Route) → told_apart r s ≡ true
told r s = all_holds (told_apart r) all_routes (each_told r) s (listed_route s)

either_true : (a b : Bool) → (a || b) ≡ true → a ≡ false → b ≡ true
either_true true b e f = absurd (true≢false f)
either_true false b e f = e

-- routes that take one path have the same path
pub takes_same : (r s : Route) (path : List ℕ) → takes (pattern_of r) path ≡ true → takes (pattern_of s) path ≡ true → same_path r s ≡ true
takes_same r s path e f = same_or_not (same_path r s) refl where
  same_or_not : (q : Bool) → same_path r s ≡ q → same_path r s ≡ true
  same_or_not true h = h
  same_or_not false h = absurd (apart_once (pattern_of r) (pattern_of s) path (either_true (same_path r s) (apart (pattern_of r) (pattern_of s)) (told r s) h) e f)

-- ---- routes of the same path fit alike

tails_agree : (a b : Tail) → same_tail a b ≡ true → a ≡ b
tails_agree Nothing Nothing e = refl
tails_agree Nothing Name e = absurd (true≢false (sym e))
tails_agree Nothing Id e = absurd (true≢false (sym e))
tails_agree Nothing Plugin e = absurd (true≢false (sym e))
tails_agree Name Nothing e = absurd (true≢false (sym e))
tails_agree Name Name e = refl
tails_agree Name Id e = absurd (true≢false (sym e))
tails_agree Name Plugin e = absurd (true≢false (sym e))
tails_agree Id Nothing e = absurd (true≢false (sym e))
tails_agree Id Name e = absurd (true≢false (sym e))
tails_agree Id Id e = refl
tails_agree Id Plugin e = absurd (true≢false (sym e))
tails_agree Plugin Nothing e = absurd (true≢false (sym e))
tails_agree Plugin Name e = absurd (true≢false (sym e))
tails_agree Plugin Id e = absurd (true≢false (sym e))
tails_agree Plugin Plugin e = refl

same_fits : (plugin path : List ℕ) (r s : Route) → same_path r s ≡ true → fits plugin path r ≡ fits plugin path s
unfolding fits
same_fits plugin path r s e =
    let parts = both_true (bytes_eq (row_of r).text (row_of s).text) (same_tail (row_of r).tail (row_of s).tail) e in
    let text : (row_of r).text ≡ (row_of s).text = (bytes_eq-Decides (row_of r).text (row_of s).text).0 parts.0 in
    let tail : (row_of r).tail ≡ (row_of s).tail = tails_agree (row_of r).tail (row_of s).tail parts.1 in
    rw (text, tail) refl

-- of the routes those fit that have the path of one that fits
pub fits_same : (plugin path : List ℕ) (r s : Route) → fits plugin path r ≡ true → fits plugin path s ≡ same_path r s
fits_same plugin path r s e = fit_or_not (fits plugin path s) (same_path r s) refl refl where
  fit_or_not : (p q : Bool) → fits plugin path s ≡ p → same_path r s ≡ q → p ≡ q
  fit_or_not true true f h = refl
  fit_or_not true false f h = sym (takes_same r s path (fits_takes plugin path r e) (fits_takes plugin path s f)) ∙ h
  fit_or_not false true f h = sym f ∙ sym (same_fits plugin path r s h) ∙ e
  fit_or_not false false f h = refl

-- ---- what is known

pub known_by : (plugin path : List ℕ) (r : Route) → fits plugin path r ≡ true → is_known plugin path ≡ true
unfolding is_known
known_by plugin path r e = any_from (fits plugin path) all_routes r (listed_route r) e

none_fits : (plugin path : List ℕ) → ((r : Route) → fits plugin path r ≡ false) → is_known plugin path ≡ false
unfolding is_known
none_fits plugin path f = list_any_agree (fits plugin path) (λ r. false) f all_routes

not_true : (q : Bool) → (q ≡ true → ⊥) → q ≡ false
not_true true h = absurd (h refl)
not_true false h = refl

-- no pattern takes the path
pub unknown : (plugin path : List ℕ) → ((r : Route) → takes (pattern_of r) path ≡ false) → is_known plugin path ≡ false
unknown plugin path none = none_fits plugin path (λ r. not_true (fits plugin path r) (λ e. true≢false (sym (fits_takes plugin path r e) ∙ none r)))

-- a pattern takes it, and its end isn't what the route wants
pub unwanted : (plugin path : List ℕ) (r : Route) → takes (pattern_of r) path ≡ true → fits plugin path r ≡ false → is_known plugin path ≡ false
unwanted plugin path r took misfit = none_fits plugin path (λ s. not_true (fits plugin path s)
    (λ e. true≢false (sym e ∙ sym (same_fits plugin path r s (takes_same r s path took (fits_takes plugin path s e))) ∙ misfit)))

-- the route of a method is one of those with the path
pub route_same : (plugin path method : List ℕ) (r : Route) → fits plugin path r ≡ true → find (λ s. same_path r s && bytes_eq (row_of s).method method) all_routes ≡ route_of plugin path method
unfolding route_of
route_same plugin path method r e = find_agree _ (is_route plugin path method) (λ s. ap (λ q. q && bytes_eq (row_of s).method method) (sym (fits_same plugin path r s e))) all_routes

pub ruleset knowing = (known_by, unknown, unwanted, route_same)
