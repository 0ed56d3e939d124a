-- What an answered line says of the reading, and of the order of what is asked.
use Rattle.std.proofs.Common.{◌≡◌, ℕ, List, Bool, true, false, cond, ◌&&◌, Option, Some, None, Result, Ok, Err, IfOk, refl, sym}
use Rattle.std.specs.Str.{chars, is_utf8}
use Rattle.std.proofs.lemmas.Bool.{and_parts}
use Rattle.std.proofs.lemmas.Str.{IsUtf8-from_is_utf8}
use Rattle.rg_base.specs.Texts.{is_name}
use Rattle.rg_cmd.specs.declared.ask.AdminCommand.{AdminCommand}
use Rattle.rg_json.specs.Own.{IsText}
use Rattle.rg_json.proofs.Owned.{own_text}
use Rattle.rg_ask_wire.specs.KeyOrder.{IsCommandInOrder, IsInKeyOrder}
use Rattle.rg_script.specs.Line.{actor_of}
use Rattle.rg_script.specs.declared.line.LineFault.{LineFault}
use Rattle.rg_script.specs.declared.line.LineFault.TheVariants.{Bad, NoMemory}
use Rattle.rg_run_keep.specs.declared.line.KeepLine.{KeepLine}
use Rattle.rg_run_keep.specs.Lines.{Reads}

pub read_so : (result : Result KeepLine LineFault) (wanted : Option KeepLine) → Reads result wanted → IfOk result (λ read. wanted ≡ Some read)
read_so (Ok read) wanted reads = reads
read_so (Err fault) wanted reads = tt

pub bad_so : (result : Result KeepLine LineFault) (wanted : Option KeepLine) → Reads result wanted → result ≡ Err Bad → wanted ≡ None
bad_so (Ok read) wanted reads is = absurd (cc is)
bad_so (Err Bad) wanted reads is = reads
bad_so (Err NoMemory) wanted reads is = absurd (cc is)

-- a text that is an actor is spelled by its own bytes
pub actor_own : (text actor : List ℕ) → actor_of text ≡ Some actor → IsText actor
unfolding actor_of
actor_own text actor is = go (is_utf8 text && is_name (chars text)) (λ h. (and_parts (is_utf8 text) (is_name (chars text)) h).0) is
  where
    go : (b : Bool) → (b ≡ true → is_utf8 text ≡ true) → cond b (Some (chars text)) None ≡ Some actor → IsText actor
    go true u same = own_text actor text (sym (cc same)) (IsUtf8-from_is_utf8 text (u refl))
    go false u same = absurd (cc same)

pub ask_own : (actor : List ℕ) (command : AdminCommand) → IsText actor → IsCommandInOrder command → IsInKeyOrder (record { actor = actor; command = command })
unfolding IsInKeyOrder
ask_own actor command text order = record { actor = text; command = order }

pub ruleset orders = (actor_own, ask_own)
