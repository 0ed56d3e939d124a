-- The JSON of a text.
use Rattle.std.proofs.Common.{◌≡◌, ℕ, List, Bool, true, false, cond, Some, None, Result, String, Global, string_bytes, refl, ap, subst}
use Rattle.std.specs.Str.{IsUtf8, is_utf8}
use Rattle.std.proofs.lemmas.Str.{IsUtf8-from_is_utf8, is_utf8-from_IsUtf8}
use Rattle.serde_json.specs.Data.{Data}
use Rattle.serde_json.specs.Read.{read}
use Rattle.rg_cmd.specs.declared.ask.AdminCommand.{AdminCommand}
use Rattle.rg_json.specs.declared.fault.Fault.{Fault}
use Rattle.rg_json.specs.declared.fault.WireFault.{WireFault}
use Rattle.rg_json.specs.Reading.{Answers}
use Rattle.rg_json.specs.Texts.{data_of}
use Rattle.rg_json.proofs.Printed.{reads_string}
use Rattle.rg_cmd_wire.specs.Reading.{command_reading, reading_in}

pub data_some : (bytes : List ℕ) (d : Data) → IsUtf8 bytes → read bytes ≡ Some d → data_of bytes ≡ Some d
unfolding data_of
data_some bytes d u e = rw (is_utf8-from_IsUtf8 bytes u) e

pub data_none : (bytes : List ℕ) → (IsUtf8 bytes → read bytes ≡ None) → data_of bytes ≡ None
unfolding data_of
data_none bytes none = go (is_utf8 bytes) refl
  where
    go : (b : Bool) → is_utf8 bytes ≡ b → cond b (read bytes) None ≡ None
    go true is = none (IsUtf8-from_is_utf8 bytes is)
    go false is = refl

-- a command that is read from the text of a value is that of the value
pub command_so : (r : Result AdminCommand WireFault) (s : String Global) (d : Data) → read (string_bytes s) ≡ Some d → Answers r (command_reading (string_bytes s)) → Answers r (reading_in (Some d))
command_so r s d back h = subst (Answers r) (ap reading_in (reads_string s (string_bytes s) d refl back)) h

pub ruleset parsed = (data_some, data_none, command_so)
