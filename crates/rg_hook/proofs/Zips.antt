-- Two pairs of lists side by side, one place more of each.
use Rattle.std.proofs.Common.{Bool, cond, count_by, map, replicate, ◌≡◌, ◌<◌, ◌≤◌, ◌+◌, ℕ, suc, zero, List, [], ◌∷◌, ◌++◌, length, take, drop, get_or, refl, sym, ap, ◌∙◌, arith, length-drop, length-take}
use Rattle.std.proofs.Math.ListN.{set}
use Rattle.std.specs.List.{AllZip, zip}
use Rattle.std.proofs.lemmas.List.{take_all, take_more, take_more_set, drop_more, drop-set-lt}
use Rattle.std.proofs.lemmas.List.Sums.{sum_by-cons}
use Rattle.std.proofs.lemmas.List.Elements.{AllZip-push}

zip_push : {A B : Type 0} (xs : List A) (ys : List B) (x : A) (y : B) → length xs ≡ length ys → zip (xs ++ x ∷ []) (ys ++ y ∷ []) ≡ zip xs ys ++ (x, y) ∷ []
zip_push [] [] x y e = refl
zip_push [] (b ∷ ys) x y e = absurd (omega (arith, e))
zip_push (a ∷ xs) [] x y e = absurd (omega (arith, e))
zip_push (a ∷ xs) (b ∷ ys) x y e = ap (λ zs. (a, b) ∷ zs) (zip_push xs ys x y (omega (arith, e)))

-- what stands behind the shorter list plays no part
zip_take : {A B : Type 0} (xs : List A) (ys : List B) → zip xs (take (length xs) ys) ≡ zip xs ys
zip_take [] ys = refl
zip_take (x ∷ xs) [] = refl
zip_take (x ∷ xs) (y ∷ ys) = ap (λ zs. (x, y) ∷ zs) (zip_take xs ys)

-- a list that is long enough and always the same, beside another
pub zip_same : {A B : Type 0} (xs : List A) (y : B) (n : ℕ) → length xs ≤ n → zip xs (replicate n y) ≡ map (λ x. (x, y)) xs
zip_same [] y n h = refl
zip_same (x ∷ xs) y zero h = absurd (omega (arith, h))
zip_same (x ∷ xs) y (suc n) h = ap (λ zs. (x, y) ∷ zs) (zip_same xs y n (omega (arith, h)))

-- to count among what stands beside a list is to count among the pairs
pub count_beside : {A B : Type 0} (f : B → Bool) (xs : List A) (ys : List B) → count_by f (take (length xs) ys) ≡ count_by (λ p. f p.1) (zip xs ys)
count_beside f [] ys = refl
count_beside f (x ∷ xs) [] = refl
count_beside f (x ∷ xs) (y ∷ ys) =
    sum_by-cons (λ b. cond (f b) 1 0) y (take (length xs) ys)
    ∙ ap (λ n. cond (f y) 1 0 + n) (count_beside f xs ys)
    ∙ sym (sum_by-cons (λ p. cond (f p.1) 1 0) (x, y) (zip xs ys))

zip_front : {A B : Type 0} (n : ℕ) (xs : List A) (ys : List B) → n ≡ length xs → zip (take n xs) (take n ys) ≡ zip xs ys
zip_front n xs ys e =
    ap (λ zs. zip zs (take n ys)) (take_all n xs (omega (arith, e))) ∙ ap (λ k. zip xs (take k ys)) e ∙ zip_take xs ys

-- two lists whose rests are the same begin them with the same element
pub same_at : {X : Type 0} (old now : List X) (i : ℕ) (d : X) → i < length now → drop i now ≡ drop i old → (i < length old) × (get_or old i d ≡ get_or now i d) × (drop (i + 1) now ≡ drop (i + 1) old)
same_at old now i d h e =
    let long : i < length old = omega (arith, length-drop i now, length-drop i old, ap length e) in
    let both : get_or now i d ∷ drop (i + 1) now ≡ get_or old i d ∷ drop (i + 1) old = sym (drop_more now i d h) ∙ e ∙ drop_more old i d long in
    (long, cc, cc)

-- and the rest behind a place that is written
pub rest_more : {X : Type 0} (old now : List X) (i : ℕ) (d x : X) → i < length now → drop i now ≡ drop i old → drop (i + 1) (set now i x) ≡ drop (i + 1) old
rest_more old now i d x h e = drop-set-lt (i + 1) now i x (omega arith) ∙ (same_at old now i d h e).2

pub zips_more : {A B : Type 0} (R : A × B → A × B → Type 0) (xs0 xs : List A) (ys0 ys : List B) (i : ℕ) (d x : A) (e y : B) → i < length xs → i < length ys → drop i xs ≡ drop i xs0 → drop i ys ≡ drop i ys0
    → AllZip R (zip (take i xs0) (take i ys0)) (zip (take i xs) (take i ys)) → R (get_or xs i d, get_or ys i e) (x, y)
    → AllZip R (zip (take (i + 1) xs0) (take (i + 1) ys0)) (zip (take (i + 1) (set xs i x)) (take (i + 1) (set ys i y)))
zips_more R xs0 xs ys0 ys i d x e y hx hy dx dy z r =
    let sx = same_at xs0 xs i d hx dx in
    let sy = same_at ys0 ys i e hy dy in
    let e0 : zip (take (i + 1) xs0) (take (i + 1) ys0) ≡ zip (take i xs0) (take i ys0) ++ (get_or xs i d, get_or ys i e) ∷ [] =
    rw (take_more xs0 i d sx.0, take_more ys0 i e sy.0, sx.1, sy.1) (zip_push (take i xs0) (take i ys0) (get_or xs i d) (get_or ys i e) (omega (arith, sx.0, sy.0, length-take i xs0, length-take i ys0))) in
    let e1 : zip (take (i + 1) (set xs i x)) (take (i + 1) (set ys i y)) ≡ zip (take i xs) (take i ys) ++ (x, y) ∷ [] =
    rw (take_more_set xs i x hx, take_more_set ys i y hy) (zip_push (take i xs) (take i ys) x y (omega (arith, length-take i xs, length-take i ys))) in
    rw (e0, e1) (AllZip-push R (zip (take i xs0) (take i ys0)) (zip (take i xs) (take i ys)) (get_or xs i d, get_or ys i e) (x, y) z r)

pub zips_all : {A B : Type 0} (R : A × B → A × B → Type 0) (xs0 xs : List A) (ys0 ys : List B) (n : ℕ) → n ≡ length xs0 → n ≡ length xs
    → AllZip R (zip (take n xs0) (take n ys0)) (zip (take n xs) (take n ys)) → AllZip R (zip xs0 ys0) (zip xs ys)
zips_all R xs0 xs ys0 ys n h0 h z = rw (zip_front n xs0 ys0 h0, zip_front n xs ys h) at z
