-- What a comment expects: what stands behind its beginning, and whether a decision is as it is expected.
use Rattle.std.proofs.Common.{◌≡◌, ◌≢◌, ◌∙◌, ◌+◌, ◌++◌, ◌∷◌, [], ◌==◌, eqb, ℕ, List, Bool, true, false, Option, Some, None, MatchOption, codes, length, take, drop, option_map, if◌then◌else◌, refl, ap, sym, subst}
use Rattle.std.specs.Borrow.{Bor}
use Rattle.std.specs.Cmp.Lexicographic.{pointwise}
use Rattle.std.proofs.lemmas.Bool.Decides.{Decides-eqb, nat_tests}
use Rattle.std.proofs.lemmas.Slice.Eq.{strip_prefix_is}
use Rattle.rg_test_script.specs.Expecting.{behind}

-- ---- what stands behind

behind_itself : (front rest : List ℕ) → behind front (front ++ rest) ≡ Some rest
behind_itself [] rest = refl
behind_itself (b ∷ bs) rest = ap (λ (t : Bool). if t then behind bs (bs ++ rest) else None) ((Decides-eqb b b).1 refl) ∙ behind_itself bs rest

-- the text begins so, and goes on with what stands behind
abbrev Begins : List ℕ → List ℕ → Option (List ℕ) → Type 0
Begins front text None = Unit {0}
Begins front text (Some rest) = text ≡ front ++ rest

one_byte : (b c : ℕ) (bs cs : List ℕ) (same : Bool) → (same ≡ true → b ≡ c) → (o : Option (List ℕ)) → Begins bs cs o → Begins (b ∷ bs) (c ∷ cs) (if same then o else None)
one_byte b c bs cs false is o begins = tt
one_byte b c bs cs true is None begins = tt
one_byte b c bs cs true is (Some rest) begins = ap (λ x. x ∷ cs) (sym (is refl)) ∙ ap (λ xs. b ∷ xs) begins

begins_so : (front text : List ℕ) → Begins front text (behind front text)
begins_so [] text = refl
begins_so (b ∷ bs) [] = tt
begins_so (b ∷ bs) (c ∷ cs) = one_byte b c bs cs (b == c) (λ e. (Decides-eqb b c).0 e) (behind bs cs) (begins_so bs cs)

not_behind : (front text : List ℕ) (o : Option (List ℕ)) → ((rest : List ℕ) → text ≢ front ++ rest) → Begins front text o → None ≡ o
not_behind front text None never begins = refl
not_behind front text (Some rest) never begins = absurd (never rest begins)

stripped : (front text : List ℕ) (r : Option (Bor (List ℕ))) → MatchOption r ((rest : List ℕ) → text ≢ front ++ rest) (λ x. text ≡ front ++ x.now)
    → option_map (λ x. x.now) r ≡ behind front text
stripped front text None never = not_behind front text (behind front text) never (begins_so front text)
stripped front text (Some x) is = sym (ap (behind front) is ∙ behind_itself front x.now)

pub strips : (front text : List ℕ) (r : Option (Bor (List ℕ)))
    → MatchOption r (pointwise eqb (take (length front) text) front ≡ false)
    (λ x. (pointwise eqb (take (length front) text) front ≡ true) × (x.now ≡ drop (length front) text) × (length x.now + length front ≡ length text))
    → option_map (λ x. x.now) r ≡ behind front text
strips front text r m = stripped front text r (strip_prefix_is Decides-eqb text front r m)
