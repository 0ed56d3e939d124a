-- A policy that was printed is read again as itself.
use Rattle.std.proofs.Common.{◌≡◌, ◌≤◌, IfOk, false, Some, Result, Ok, Err, sym, ap, subst, ◌∙◌, arith}
use Rattle.serde_json.specs.Data.{Data, depth}
use Rattle.serde_json.specs.Read.{max_depth}
use Rattle.serde_json.specs.Written.{compact_text, has_float}
use Rattle.rg_policy.specs.declared.policy.Policy.{Policy}
use Rattle.rg_json.specs.declared.fault.Fault.{Fault}
use Rattle.rg_json.specs.declared.fault.WireFault.{WireFault}
use Rattle.rg_json.specs.declared.fault.WireFault.TheVariants.{Bad, NoMemory}
use Rattle.rg_wire.specs.Own.{IsPolicy}
use Rattle.rg_wire.specs.Printing.{policy_data, policy_text}
use Rattle.rg_json.specs.Reading.{Answers, reading, reading_of, unless_fault}
use Rattle.rg_wire.specs.Records.{policy_of}
use Rattle.rg_wire.specs.Shapes.{policy_shape}
use Rattle.rg_json.specs.Texts.{data_of}
use Rattle.rg_wire.proofs.Plain.{policy_has_no_float, policy_is_shallow}
use Rattle.rg_wire.proofs.Policies.{policy_again}
use Rattle.rg_wire.proofs.Right.{policy_right}

reads_again : (p : Policy) → data_of (policy_text p) ≡ Some (policy_data p) → IsPolicy p → reading policy_shape policy_of (policy_text p) ≡ Ok p
reads_again p back own =
    ap (reading_of policy_shape policy_of) back
    ∙ ap (unless_fault (policy_of (policy_data p))) (policy_right p own)
    ∙ ap Ok (policy_again p own)

pub printed_again : (p : Policy) (d : Data) → d ≡ policy_data p
    → (has_float d ≡ false → depth d ≤ max_depth → data_of (compact_text d) ≡ Some d)
    → IsPolicy p → reading policy_shape policy_of (policy_text p) ≡ Ok p
unfolding policy_text
printed_again p d seen back own = reads_again p
    (subst (λ x. data_of (compact_text x) ≡ Some x) seen (back (ap has_float seen ∙ policy_has_no_float p) (omega (arith, ap depth seen, policy_is_shallow p))))
    own

-- ---- a text that reads as a record

abbrev value_or : {X : Type 0} → X → Result X Fault → X
value_or usual (Ok x) = x
value_or usual (Err f) = usual

pub same_record : {X : Type 0} (x y : X) (read : Result X Fault) → read ≡ Ok x → read ≡ Ok y → x ≡ y
same_record x y read a b = ap (value_or x) (sym a ∙ b)

abbrev IsRead : {X : Type 0} → Result X Fault → Type 0
IsRead (Ok x) = Unit {0}
IsRead (Err f) = ⊥

-- is refused for want of memory alone
pub never_bad : {X Y : Type 0} (e : WireFault) (x : X) (read : Result X Fault) (other : Result Y Fault) → read ≡ Ok x → Answers (Err e) read → Answers (Err e) other
never_bad (Bad path kind) x read other good h = absurd (subst IsRead (sym good ∙ h) tt)
never_bad NoMemory x read other good h = tt

pub weaker : {X Y A B : Type 0} (r : Result X Y) → (A → B) → IfOk r (λ x. A) → IfOk r (λ x. B)
weaker (Ok x) f a = f a
weaker (Err e) f a = tt
