-- Places in lists whose elements pass tests alike.
use Rattle.std.proofs.Common.{◌≡◌, Bool, cond, nat_lt, suc, List, [], ◌∷◌, Some, None, map, length, refl, ap, ◌∙◌}
use Rattle.std.specs.List.{position, position_or_len}

pub same_length : {X Y : Type 0} (p : X → Bool) (q : Y → Bool) (xs : List X) (ys : List Y) → map p xs ≡ map q ys → length xs ≡ length ys
same_length p q [] [] e = refl
same_length p q [] (y ∷ ys) e = absurd (cc)
same_length p q (x ∷ xs) [] e = absurd (cc)
same_length p q (x ∷ xs) (y ∷ ys) e = ap suc (same_length p q xs ys (cc))

same_count : {X Y : Type 0} (p : X → Bool) (q : Y → Bool) (xs : List X) (ys : List Y) → map p xs ≡ map q ys → position_or_len p xs ≡ position_or_len q ys
same_count p q [] [] e = refl
same_count p q [] (y ∷ ys) e = absurd (cc)
same_count p q (x ∷ xs) [] e = absurd (cc)
same_count p q (x ∷ xs) (y ∷ ys) e =
    let first : p x ≡ q y = cc in
    let rest : position_or_len p xs ≡ position_or_len q ys = same_count p q xs ys (cc) in
    rw (first, rest) refl

pub same_place : {X Y : Type 0} (p : X → Bool) (q : Y → Bool) (xs : List X) (ys : List Y) → map p xs ≡ map q ys → position p xs ≡ position q ys
same_place p q xs ys e =
    ap (λ n. cond (nat_lt n (length xs)) (Some n) None) (same_count p q xs ys e)
    ∙ ap (λ n. cond (nat_lt (position_or_len q ys) n) (Some (position_or_len q ys)) None) (same_length p q xs ys e)
