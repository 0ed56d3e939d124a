-- A text cut where a rest of it begins, and a key that begins as a text does.
use Rattle.std.proofs.Common.{◌≡◌, ℕ, ◌-◌, ◌≤◌, List, ◌++◌, length, take, sym, ap, ◌∙◌, subst, arith}
use Rattle.std.proofs.Math.Utf8.{encodes}
use Rattle.std.proofs.lemmas.List.{length-append, take-append-le, take_all}
use Rattle.std.proofs.lemmas.Str.{encodes-append, encodes-chars, encodes_same, IsCharBoundary-at_seam, IsUtf8-take}
use Rattle.std.specs.Str.{IsCharBoundary, IsUtf8, chars}

taken : {X : Type 0} (xs ys zs : List X) → zs ≡ xs ++ ys → take (length xs) zs ≡ xs
taken xs ys zs e = ap (take (length xs)) e ∙ take-append-le (length xs) xs ys (omega arith) ∙ take_all (length xs) xs (omega arith)

-- the bytes of a text of which the last characters are those of another
parted : (t r seen : List ℕ) → IsUtf8 t → IsUtf8 r → chars t ≡ seen ++ chars r → t ≡ encodes seen ++ r
parted t r seen ut ur e = sym (encodes-chars t ut) ∙ ap encodes e ∙ encodes-append seen (chars r) ∙ ap (λ bs. encodes seen ++ bs) (encodes-chars r ur)

pub rest_within : (t r seen : List ℕ) → IsUtf8 t → IsUtf8 r → chars t ≡ seen ++ chars r → length r ≤ length t
rest_within t r seen ut ur e = omega (arith, length-append (encodes seen) r, ap length (parted t r seen ut ur e))

place : (t r seen : List ℕ) → IsUtf8 t → IsUtf8 r → chars t ≡ seen ++ chars r → length (encodes seen) ≡ length t - length r
place t r seen ut ur e = omega (arith, length-append (encodes seen) r, ap length (parted t r seen ut ur e))

pub cut_at_rest : (t r seen : List ℕ) → IsUtf8 t → IsUtf8 r → chars t ≡ seen ++ chars r → IsCharBoundary t (length t - length r)
cut_at_rest t r seen ut ur e = subst (IsCharBoundary t) (place t r seen ut ur e) (IsCharBoundary-at_seam t (encodes seen) r (parted t r seen ut ur e) ur)

pub seen_before : (t r seen : List ℕ) → IsUtf8 t → IsUtf8 r → chars t ≡ seen ++ chars r → chars (take (length t - length r) t) ≡ seen
seen_before t r seen ut ur e =
    let cut : take (length t - length r) t ≡ encodes seen = ap (λ n. take n t) (sym (place t r seen ut ur e)) ∙ taken (encodes seen) r t (parted t r seen ut ur e) in
    encodes_same _ _ (encodes-chars (take (length t - length r) t) (IsUtf8-take t (length t - length r) ut (cut_at_rest t r seen ut ur e)) ∙ cut)
