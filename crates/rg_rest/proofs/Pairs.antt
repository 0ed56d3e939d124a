-- The pairs of a query, and the parts of a pair.
use Rattle.std.proofs.Common.{◌≡◌, ◌<◌, ◌+◌, ◌==◌, ◌∙◌, ℕ, List, [], ◌∷◌, length, Bool, true, false, cond, not, refl, ap, sym, arith}
use Rattle.std.specs.List.{after_first, before_first, onto_first, position_or_len, slice_split}
use Rattle.std.proofs.lemmas.List.{drop_all, take_all}
use Rattle.std.proofs.lemmas.List.Splits.{slice_split-cons_no, slice_split_first}
use Rattle.rg_rest.specs.Query.{pairs_of}

-- where the byte is missing all stands before it, and nothing behind it
pub all_before : (p : ℕ → Bool) (bs : List ℕ) → position_or_len p bs ≡ length bs → bs ≡ before_first p bs
all_before p bs e = sym (take_all (position_or_len p bs) bs (omega arith))

pub none_after : (p : ℕ → Bool) (bs : List ℕ) → position_or_len p bs ≡ length bs → [] ≡ after_first p bs
none_after p bs e = sym (drop_all (position_or_len p bs + 1) bs (omega arith))

not_first : (q : Bool) (n m : ℕ) → cond (not q) (1 + n) 0 ≡ m + 1 → (q ≡ false) × (n ≡ m)
not_first true n m h = absurd (omega arith)
not_first false n m h = (refl, omega arith)

-- and there is one part
uncut : (p : ℕ → Bool) (bs : List ℕ) → position_or_len p bs ≡ length bs → slice_split p bs ≡ bs ∷ []
uncut p [] e = refl
uncut p (b ∷ bs) e =
    let later = not_first (p b) (position_or_len p bs) (length bs) (omega arith) in
    slice_split-cons_no p b bs later.0 ∙ ap (onto_first b) (uncut p bs later.1)

pub only_pair : (query : List ℕ) → position_or_len (λ b. b == 38) query ≡ length query → pairs_of query ≡ query ∷ []
only_pair query e = uncut (λ b. b == 38) query e

pub first_pair : (query pair others : List ℕ) → position_or_len (λ b. b == 38) query < length query
    → pair ≡ before_first (λ b. b == 38) query → others ≡ after_first (λ b. b == 38) query → pairs_of query ≡ pair ∷ pairs_of others
first_pair query pair others h front back = rw (front, back) (slice_split_first (λ b. b == 38) query 0 h)

pub ruleset parts = (all_before, none_after)

pub ruleset pairs = (only_pair, first_pair)
