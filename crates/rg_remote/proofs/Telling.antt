-- What is told by what was given, and why nothing is.
use Rattle.std.proofs.Common.{◌≡◌, ◌++◌, ℕ, List, Option, Some, None, option_map, Result, Ok, Err, inr, ap, subst, refl, codes}
use Rattle.std.specs.Str.{chars}
use Rattle.rg_base.specs.declared.numbers.Version.{Version}
use Rattle.rg_json.specs.declared.fault.Fault.{Fault}
use Rattle.rg_json.specs.Reading.{Answers}
use Rattle.rg_json.specs.declared.fault.WireFault.{WireFault}
use Rattle.rg_http.specs.Answers.{IsRead}
use Rattle.rg_client.specs.Replies.{Counts, Leaves}
use Rattle.rg_client.specs.declared.fault.ClientFault.{ClientFault}
use Rattle.rg_client.specs.declared.fault.ClientFault.TheVariants.{Ended, Failed, NoMemory, Unreadable}
use Rattle.rg_remote.specs.Remotes.{Far, HasNoReply, IsUnanswered, Told, WasGiven, no_body, of_reading, policies_path, roles_path, tags_path, unread_by}
use Rattle.rg_remote.specs.declared.fault.AskFault.{AskFault}
use Rattle.rg_remote.specs.declared.fault.AskFault.TheVariants as ask

-- ---- the paths, as they are spelled

pub policies_spelled : chars (codes "/service/plugins/policies/download/") ≡ policies_path
unfolding chars policies_path
policies_spelled = refl

pub tags_spelled : chars (codes "/service/tags/download/") ≡ tags_path
unfolding chars tags_path
tags_spelled = refl

pub roles_spelled : chars (codes "/service/roles/download/") ≡ roles_path
unfolding chars roles_path
roles_spelled = refl

-- ---- the parts

module _ {P S : Type 0} (items : S → List ℕ) (unchanged : P) (reading : List ℕ → Result P Fault)
    (spelled path : List ℕ) (old : Far) (from : Option Version) (new : Far) where
  -- no bytes
  pub told_unchanged : (body : Option S) → spelled ≡ path → body ≡ None → WasGiven spelled old from (option_map items body) new
      → Told path unchanged reading old from unchanged new
  told_unchanged body is none given =
      (None, subst (λ b. WasGiven path old from (option_map items b) new) none (subst (λ p. WasGiven p old from (option_map items body) new) is given), refl)

  -- the part of these bytes
  pub told_part : (body : Option S) (s : S) (bytes : List ℕ) (part : P) → spelled ≡ path → body ≡ Some s → bytes ≡ items s → reading bytes ≡ Ok part
      → WasGiven spelled old from (option_map items body) new → Told path unchanged reading old from part new
  told_part body s bytes part is some same reads given = (
    Some (items s),
    subst (λ b. WasGiven path old from (option_map items b) new) some (subst (λ p. WasGiven p old from (option_map items body) new) is given),
    ap of_reading (subst (λ b. reading b ≡ Ok part) same reads),
  )

  -- no part where its bytes don't read
  pub untold_body : (body : Option S) (s : S) (bytes : List ℕ) (fault : WireFault) → spelled ≡ path → body ≡ Some s → bytes ≡ items s
      → Answers {X = P} (Err fault) (reading bytes) → WasGiven spelled old from (option_map items body) new
      → IsUnanswered path from (unread_by reading) (ask.Body fault) old new
  untold_body body s bytes fault is some same reads given = (
    items s,
    subst (λ b. WasGiven path old from (option_map items b) new) some (subst (λ p. WasGiven p old from (option_map items body) new) is given),
    subst (λ b. Answers {X = P} (Err fault) (reading b)) same reads,
  )

-- nor where the question has no answer
pub untold : {P : Type 0} (reading : List ℕ → Result P Fault) (spelled path : List ℕ) (old : Far) (from : Option Version) (new : Far) (fault : AskFault)
    → spelled ≡ path → IsUnanswered spelled from no_body fault old new → IsUnanswered path from (unread_by reading) fault old new
untold reading spelled path old from new (ask.Client fault) is why = why
untold reading spelled path old from new (ask.Status status) is why = subst (λ p. IsUnanswered p from no_body (ask.Status status) old new) is why
untold reading spelled path old from new (ask.Body fault) is why = absurd why.2
untold reading spelled path old from new ask.NoMemory is why = tt {0}

-- ---- no reply

pub no_reply : (fault : ClientFault) (old new : Far) (read : List ℕ) → IsRead old.left read new.left → Leaves (old.bytes ++ read) fault new.bytes
    → Counts fault old.faults new.faults → HasNoReply fault old new
no_reply Failed old new read came leaves counts = inr counts
no_reply Ended old new read came leaves counts = (read, came, leaves)
no_reply Unreadable old new read came leaves counts = (read, came, leaves)
no_reply NoMemory old new read came leaves counts = tt {0}
