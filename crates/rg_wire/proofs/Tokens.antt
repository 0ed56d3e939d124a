-- The tokens of what is written, in order, and their text.
use Rattle.std.proofs.Common.{◌≡◌, ℕ, ℤ, pos, negsuc, List, [], ◌∷◌, ◌++◌, refl, ap, ◌∙◌, append_assoc}
use Rattle.std.specs.Fmt.{signed_decimal}
use Rattle.std.specs.Str.{IsUtf8, chars}
use Rattle.std.proofs.lemmas.Str.{encodes-chars}
use Rattle.json.specs.Print.{print}
use Rattle.json.specs.Token.{Token, begin_object, end_object, number, string}
use Rattle.json.specs.Written.{Written}
use Rattle.serde_json.specs.Data.{Data}
use Rattle.serde_json.specs.Written.{compact_text}
use Rattle.serde_json.proofs.Texts.{print-outline}
use Rattle.rg_policy.specs.declared.request.AccessRequest.{AccessRequest}
use Rattle.rg_facts.specs.declared.decision.Decision.{Decision}
use Rattle.rg_facts.specs.declared.decision.MaskText.{MaskText}
use Rattle.rg_json.specs.Printing.{text_data, bool_data, integer_data, count_data, option_data}
use Rattle.rg_wire.specs.declared.key.Key.TheVariants as key
use Rattle.rg_wire.specs.Names.{name_of}
use Rattle.rg_wire.specs.Printing.{access_data, audit_data, decision_data, mask_text_data}
use Rattle.rg_wire.specs.Tokens.{Adds, member_tokens, tokens_of}

-- what is added, and then what is added to that
pub and_then : {a b c : Written} {ts us : List Token} → Adds a b ts → Adds b c us → Adds a c (ts ++ us)
and_then {a} {b} {c} {ts} {us} first second = record {
  before = second.before ∙ first.before;
  tokens = second.tokens ∙ ap (λ l. l ++ us) first.tokens ∙ append_assoc a.tokens ts us;
}

-- the text of all tokens
pub tokens_printed : (d : Data) → print (tokens_of d) ≡ compact_text d
unfolding tokens_of
tokens_printed d = print-outline d

pub integer_tokens : (z : ℤ) → tokens_of (integer_data z) ≡ number (signed_decimal z) ∷ []
unfolding tokens_of integer_data
integer_tokens (pos n) = refl
integer_tokens (negsuc n) = refl

-- a text is written as its bytes
pub text_tokens : (bytes : List ℕ) → IsUtf8 bytes → tokens_of (text_data (chars bytes)) ≡ string bytes ∷ []
unfolding tokens_of text_data
text_tokens bytes utf8 = ap (λ t. string t ∷ []) (encodes-chars bytes utf8)

-- ---- records, whose fields stand in byte order of their names

pub mask_tokens : (m : MaskText) → tokens_of (mask_text_data m)
    ≡ begin_object ∷ (member_tokens key.Expr (text_data m.expr) ++ (member_tokens key.Type (text_data m.kind) ++ end_object ∷ []))
unfolding tokens_of mask_text_data name_of
mask_tokens m = refl

pub decision_tokens : (d : Decision) → tokens_of (decision_data d)
    ≡ begin_object ∷ (member_tokens key.Access (access_data d.access) ++ (member_tokens key.Audited (bool_data d.audited)
    ++ (member_tokens key.Mask (option_data mask_text_data d.mask) ++ (member_tokens key.PolicyId (integer_data d.policy.0)
    ++ (member_tokens key.PolicyVersion (count_data d.policy_version.0) ++ (member_tokens key.RowFilter (option_data text_data d.filter)
    ++ (member_tokens key.Serial (count_data d.serial.0) ++ (member_tokens key.TagVersion (count_data d.tag_version.0) ++ end_object ∷ []))))))))
unfolding tokens_of decision_data name_of
decision_tokens d = refl

pub audit_tokens : (service : List ℕ) (q : AccessRequest) (d : Decision) → tokens_of (audit_data service q d)
    ≡ begin_object ∷ (member_tokens key.Access (text_data q.access) ++ (member_tokens key.EvtTime (integer_data q.moment.0)
    ++ (member_tokens key.Policy (integer_data d.policy.0) ++ (member_tokens key.Repo (text_data service)
    ++ (member_tokens key.ReqUser (text_data q.user) ++ (member_tokens key.Resource (text_data d.path)
    ++ (member_tokens key.Result (access_data d.access) ++ (member_tokens key.Serial (count_data d.serial.0) ++ end_object ∷ []))))))))
unfolding tokens_of audit_data name_of
audit_tokens service q d = refl
