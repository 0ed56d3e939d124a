-- Folded texts, as characters and as bytes.
use Rattle.std.proofs.Common.{◌≡◌, ◌<◌, ◌≤◌, ◌+◌, ◌/◌, ◌%◌, ℕ, List, [], ◌∷◌, ◌++◌, map, Bool, true, false, cond, nat_lt, length, take, refl, sym, ap, ◌∙◌, arith, ◌⊎◌, inl, inr}
use Rattle.std.proofs.lemmas.Bool.Decides.{nat_tests}
use Rattle.std.proofs.lemmas.List.{length-map, map-append, map-id, take-map}
use Rattle.std.proofs.lemmas.Str.{encode_ascii}
use Rattle.std.proofs.Math.Utf8.{encode, encodes}
use Rattle.std.specs.Char.{to_ascii_lowercase}
use Rattle.rg_base.specs.Folding.{folded, folded_char}

high_stays : (b : ℕ) → 91 ≤ b → to_ascii_lowercase b ≡ b
high_stays b h = grind (arith, nat_tests)

low_fold : (c : ℕ) → c < 128 → to_ascii_lowercase c < 128
low_fold c h = grind (arith, nat_tests)

abbrev next : ℕ → ℕ
next n = 128 + n % 64

pieces : (p q r : Bool) (c : ℕ) → 128 ≤ c → (p ≡ true → c < 128)
    → let e = cond p (c ∷ []) (cond q ((192 + c / 64) ∷ next c ∷ []) (cond r ((224 + c / 4096) ∷ next (c / 64) ∷ next c ∷ []) ((240 + c / 262144) ∷ next (c / 4096) ∷ next (c / 64) ∷ next c ∷ []))) in map to_ascii_lowercase e ≡ e
pieces true q r c h k = let bad : c < 128 = k refl in absurd (omega arith)
pieces false true r c h k = λ i. high_stays (192 + c / 64) (omega arith) i ∷ high_stays (next c) (omega arith) i ∷ []
pieces false false true c h k = λ i. high_stays (224 + c / 4096) (omega arith) i ∷ high_stays (next (c / 64)) (omega arith) i ∷ high_stays (next c) (omega arith) i ∷ []
pieces false false false c h k = λ i. high_stays (240 + c / 262144) (omega arith) i ∷ high_stays (next (c / 4096)) (omega arith) i ∷ high_stays (next (c / 64)) (omega arith) i ∷ high_stays (next c) (omega arith) i ∷ []

encode_high : (c : ℕ) → 128 ≤ c → map to_ascii_lowercase (encode c) ≡ encode c
unfolding encode
encode_high c h = pieces _ _ _ c h (λ e. grind (arith, nat_tests))

low_or_high : (c : ℕ) → (c < 128) ⊎ (128 ≤ c)
low_or_high c = elim (nat_lt c 128) as (λ b. nat_lt c 128 ≡ b → (c < 128) ⊎ (128 ≤ c)) [
  | true ↦ λ e. inl (grind (arith, nat_tests))
  | false ↦ λ e. inr (grind (arith, nat_tests))
] refl

encode_fold : (c : ℕ) → encode (to_ascii_lowercase c) ≡ map to_ascii_lowercase (encode c)
encode_fold c = elim (low_or_high c) [
  | inl h ↦ encode_ascii (to_ascii_lowercase c) (low_fold c h) ∙ ap (map to_ascii_lowercase) (sym (encode_ascii c h))
  | inr h ↦ ap encode (high_stays c (omega arith)) ∙ sym (encode_high c h)
]

-- nothing is folded where that isn't asked
pub folded_off : (text : List ℕ) → folded false text ≡ text
folded_off text = map-id text

pub length-folded : (fold : Bool) (text : List ℕ) → length (folded fold text) ≡ length text
length-folded fold text = length-map text (folded_char fold)

pub folded-append : (fold : Bool) (a b : List ℕ) → folded fold (a ++ b) ≡ folded fold a ++ folded fold b
folded-append fold a b = map-append (folded_char fold) a b

pub take-folded : (fold : Bool) (n : ℕ) (text : List ℕ) → take n (folded fold text) ≡ folded fold (take n text)
take-folded fold n text = take-map (folded_char fold) n text

lower_bytes : (cs : List ℕ) → encodes (map to_ascii_lowercase cs) ≡ map to_ascii_lowercase (encodes cs)
lower_bytes [] = refl
lower_bytes (c ∷ cs) = ap (λ xs. xs ++ encodes (map to_ascii_lowercase cs)) (encode_fold c) ∙ ap (λ xs. map to_ascii_lowercase (encode c) ++ xs) (lower_bytes cs)
    ∙ sym (map-append to_ascii_lowercase (encode c) (encodes cs))

-- the bytes of a folded text are its bytes, folded
pub encodes-folded : (fold : Bool) (cs : List ℕ) → encodes (folded fold cs) ≡ folded fold (encodes cs)
encodes-folded true cs = lower_bytes cs
encodes-folded false cs = ap encodes (folded_off cs) ∙ sym (folded_off (encodes cs))
