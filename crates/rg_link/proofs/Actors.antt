-- Who asks.
use Rattle.std.proofs.Common.{◌≡◌, ℕ, List, [], Bool, true, false, Option, Some, cond, refl, sym, ap, ◌∙◌}
use Rattle.std.specs.Str.{IsUtf8, chars, is_utf8}
use Rattle.std.proofs.lemmas.Str.{IsUtf8-from_is_utf8, is_utf8-from_IsUtf8}
use Rattle.rg_base.specs.Listed.{Listed}
use Rattle.rg_link.specs.Answers.{actor_of}

picks : {A : Type 0} (b : Bool) (x y : A) → b ≡ true → cond b x y ≡ x
picks b x y e = ap (λ v. cond v x y) e

skips : {A : Type 0} (b : Bool) (x y : A) → (b ≡ true → ⊥) → cond b x y ≡ y
skips true x y e = absurd (e refl)
skips false x y e = refl

pub actor_read : (given : Option (Listed ℕ)) (user : Listed ℕ) → given ≡ Some user → IsUtf8 user.items → chars user.items ≡ actor_of given
actor_read given user e u = sym (ap actor_of e ∙ picks (is_utf8 user.items) (chars user.items) [] (is_utf8-from_IsUtf8 user.items u))

pub actor_unread : (given : Option (Listed ℕ)) (user : Listed ℕ) → given ≡ Some user → (IsUtf8 user.items → ⊥) → [] ≡ actor_of given
actor_unread given user e u = sym (ap actor_of e ∙ skips (is_utf8 user.items) (chars user.items) [] (λ t. u (IsUtf8-from_is_utf8 user.items t)))
