-- The statuses of a bad place.
use Rattle.std.proofs.Common.{ℕ, List, Bool, true, false, if◌then◌else◌, Option, Some, None, refl, subst, inl, inr}
use Rattle.std.specs.Prelude.{length, nat_lt}
use Rattle.std.specs.Str.Parse.{digits_value}
use Rattle.rg_http.specs.declared.fields.FieldName.TheVariants.{ContentLength}
use Rattle.rg_http.specs.declared.message.Next.{Next}
use Rattle.rg_http.specs.declared.message.Next.TheVariants.{Message as Whole, Ended, Cut, Bad}
use Rattle.rg_http.specs.declared.rules.Ruling.{Ruling}
use Rattle.rg_http.specs.declared.rules.Ruling.TheVariants.{Refused, Body}
use Rattle.rg_http.specs.Fields.{values, first}
use Rattle.rg_http.specs.Framing.{HasBad, fields_of}
use Rattle.rg_http.specs.Rules.{ruling, by_length, sized, body_limit, field_limit, is_coded, is_length, needs_length}
use Rattle.rg_http.specs.Answers.{Answers, IsRefusal, HasKnownStatus}

abbrev Known : Ruling → Type 0
Known (Refused status) = IsRefusal status
Known (Body n) = Unit {0}

either : (b : Bool) (x y : Ruling) → Known x → Known y → Known (if b then x else y)
either true x y p q = p
either false x y p q = q

sized_known : (n : ℕ) → Known (sized n)
sized_known n = either (nat_lt body_limit n) (Refused 413) (Body n) (inr (inr (inl refl))) tt

length_known : (method : List ℕ) (value : Option (List ℕ)) → Known (by_length method value)
length_known method None = either (needs_length method) (Refused 411) (Body 0) (inr (inl refl)) tt
length_known method (Some value) = either (is_length value) (sized (digits_value 10 value)) (Refused 400) (sized_known (digits_value 10 value)) (inl refl)

ruling_known : (method : List ℕ) (fields : List (List ℕ × List ℕ)) → Known (ruling method fields)
unfolding ruling
ruling_known method fields =
    either (nat_lt field_limit (length fields)) (Refused 431) _ (inr (inr (inr (inl refl))))
    (either (is_coded fields) (Refused 501) _ (inr (inr (inr (inr refl))))
    (either (nat_lt 1 (length (values ContentLength fields))) (Refused 400) _ (inl refl) (length_known method (first (values ContentLength fields)))))

bad_known : (bytes : List ℕ) (status : ℕ) → HasBad bytes status → IsRefusal status
bad_known bytes status (inl x) = inl x.0
bad_known bytes status (inr (inl x)) = inr (inr (inr (inl x.0)))
bad_known bytes status (inr (inr x)) = subst Known x.3 (ruling_known x.0.method (fields_of x.0))

pub answer_known : (bytes : List ℕ) (next : Next) (kept : List ℕ) → Answers bytes next kept → HasKnownStatus next
answer_known bytes (Whole m) kept x = tt
answer_known bytes Ended kept x = tt
answer_known bytes Cut kept x = tt
answer_known bytes (Bad status) kept x = bad_known bytes status x.0
