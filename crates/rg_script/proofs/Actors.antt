-- Which bytes are an actor.
use Rattle.std.proofs.Common.{◌≡◌, ◌&&◌, Bool, true, false, if◌then◌else◌, ℕ, List, Some, None, refl, sym, ap, ◌∙◌}
use Rattle.std.specs.Str.{IsUtf8, chars, is_utf8}
use Rattle.std.proofs.lemmas.Str.{IsUtf8-from_is_utf8, is_utf8-from_IsUtf8}
use Rattle.rg_base.specs.Texts.{is_name}
use Rattle.rg_script.specs.Line.{actor_of}

pub no_utf8 : (t : List ℕ) → (IsUtf8 t → ⊥) → None ≡ actor_of t
unfolding actor_of
no_utf8 t h = go (is_utf8 t) refl
  where
    go : (b : Bool) → is_utf8 t ≡ b → None ≡ (if is_utf8 t && is_name (chars t) then Some (chars t) else None)
    go true is = absurd (h (IsUtf8-from_is_utf8 t is))
    go false is = sym (ap (λ (b : Bool). if b && is_name (chars t) then Some (chars t) else None) is)

pub no_name : (t : List ℕ) → is_name (chars t) ≡ false → None ≡ actor_of t
unfolding actor_of
no_name t h = go (is_utf8 t) refl
  where
    go : (b : Bool) → is_utf8 t ≡ b → None ≡ (if is_utf8 t && is_name (chars t) then Some (chars t) else None)
    go true is = sym (ap (λ (b : Bool). if b && is_name (chars t) then Some (chars t) else None) is ∙ ap (λ (b : Bool). if b then Some (chars t) else None) h)
    go false is = sym (ap (λ (b : Bool). if b && is_name (chars t) then Some (chars t) else None) is)

pub named : (t : List ℕ) → IsUtf8 t → is_name (chars t) ≡ true → Some (chars t) ≡ actor_of t
unfolding actor_of
named t utf8 is = sym (ap (λ (b : Bool). if b && is_name (chars t) then Some (chars t) else None) (is_utf8-from_IsUtf8 t utf8) ∙ ap (λ (b : Bool). if b then Some (chars t) else None) is)
