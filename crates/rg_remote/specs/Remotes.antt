-- An administration that is asked over a link: what is asked for each part of a download, and what the reply says.
use Rattle.std.specs.Prelude.{◌≡◌, ◌<◌, ◌⊎◌, ℕ, ◌==◌, List, [], ◌++◌, Bool, false, Option, Some, None, Result, Ok, Err, if◌then◌else◌, codes, decimal}
use Rattle.std.specs.Str.{chars}
use Rattle.rg_base.specs.declared.numbers.Version.{Version}
use Rattle.rg_cmd.specs.declared.download.PolicyPart.{PolicyPart}
use Rattle.rg_cmd.specs.declared.download.PolicyPart.TheVariants as policies
use Rattle.rg_cmd.specs.declared.download.RolePart.{RolePart}
use Rattle.rg_cmd.specs.declared.download.RolePart.TheVariants as roles
use Rattle.rg_cmd.specs.declared.download.TagPart.{TagPart}
use Rattle.rg_cmd.specs.declared.download.TagPart.TheVariants as tags
use Rattle.rg_json.specs.Reading.{Answers}
use Rattle.rg_json.specs.declared.fault.Fault.{Fault}
use Rattle.rg_json.specs.declared.fault.WireFault.{WireFault}
use Rattle.rg_http.specs.declared.message.Response.{Response}
use Rattle.rg_http.specs.Answers.{IsRead, Wrote}
use Rattle.rg_client.specs.Questions.{question_text}
use Rattle.rg_client.specs.Replies.{HasReply, Leaves}
use Rattle.rg_client.specs.declared.fault.ClientFault.{ClientFault}
use Rattle.rg_client.specs.declared.fault.ClientFault.TheVariants as client
use Rattle.rg_download_wire.specs.Reading.{policy_part_reading, role_part_reading, tag_part_reading}
use Rattle.rg_remote.specs.declared.fault.AskFault.{AskFault}
use Rattle.rg_remote.specs.declared.fault.AskFault.TheVariants as ask

-- what contracts see of it: the bytes of its link, where that tells them, and how often that failed, the bytes that were read and belong
-- to no reply yet, whether it still asks, and whom it asks for which service as whom
pub record Far : Type 0 where
  pub left : Option (List ℕ)
  pub held : Option (List ℕ)
  pub faults : ℕ
  pub bytes : List ℕ
  pub live : Bool
  pub host : List ℕ
  pub user : List ℕ
  pub service : List ℕ

-- ---- what is asked

abbrev pub query : Option Version → List ℕ
query None = []
query (Some from) = chars (codes "?lastKnownVersion=" ++ decimal from.0)

-- the path of the part, the service, and from which version
abbrev pub target : List ℕ → List ℕ → Option Version → List ℕ
target path service from = path ++ (service ++ query from)

unfoldable pub policies_path : List ℕ
policies_path = codes "/service/plugins/policies/download/"

unfoldable pub tags_path : List ℕ
tags_path = codes "/service/tags/download/"

unfoldable pub roles_path : List ℕ
roles_path = codes "/service/roles/download/"

-- ---- what the reply says

-- by 304 (Not Modified) that the part is unchanged, by 200 the bytes of the part; by every other status nothing
abbrev pub given_by : Response → Option (Option (List ℕ))
given_by r = if r.status == 304 then Some None else (if r.status == 200 then Some (Some r.body.items) else None)

-- the part of bytes that read
abbrev pub of_reading : {P : Type 0} → Result P Fault → Option P
of_reading (Ok part) = Some part
of_reading (Err fault) = None

abbrev pub part_of : {P : Type 0} → P → (List ℕ → Result P Fault) → Option (List ℕ) → Option P
part_of unchanged reading None = Some unchanged
part_of unchanged reading (Some bytes) = of_reading (reading bytes)

-- ---- questions and replies

-- nobody else is asked, and by nobody else
pub record IsSame (old new : Far) : Type 0 where
  pub host : new.host ≡ old.host
  pub user : new.user ≡ old.user
  pub service : new.service ≡ old.service

-- the question for the target was written, and this reply was read
pub record WasReplied (target : List ℕ) (old new : Far) (r : Response) : Type 0 where
  pub read : List ℕ
  pub came : IsRead old.left read new.left
  pub wrote : Wrote old.held new.held (question_text target old.host old.user)
  pub reply : HasReply (old.bytes ++ read) r new.bytes
  pub same : IsSame old new

-- the question for the part at this path, from this version, was answered with these bytes, or with none where it is unchanged
abbrev pub WasGiven : List ℕ → Far → Option Version → Option (List ℕ) → Far → Type 0
WasGiven path old from bytes new = (r : Response) × WasReplied (target path old.service from) old new r × (given_by r ≡ Some bytes)

-- and these say the part
abbrev pub Told : {P : Type 0} → List ℕ → P → (List ℕ → Result P Fault) → Far → Option Version → P → Far → Type 0
Told path unchanged reading old from part new =
    (bytes : Option (List ℕ)) × WasGiven path old from bytes new × (part_of unchanged reading bytes ≡ Some part)

abbrev pub PoliciesTold : Far → Option Version → PolicyPart → Far → Type 0
PoliciesTold old from part new = Told policies_path policies.Unchanged policy_part_reading old from part new

abbrev pub TagsTold : Far → Option Version → TagPart → Far → Type 0
TagsTold old from part new = Told tags_path tags.Unchanged tag_part_reading old from part new

abbrev pub RolesTold : Far → Option Version → RolePart → Far → Type 0
RolesTold old from part new = Told roles_path roles.Unchanged role_part_reading old from part new

-- ---- questions without an answer

-- why no reply came: it asks no more, or the link failed in this call; or else the bytes that were read so far make no reply
abbrev pub HasNoReply : ClientFault → Far → Far → Type 0
HasNoReply client.Failed old new = (old.live ≡ false) ⊎ (old.faults < new.faults)
HasNoReply client.Ended old new = (read : List ℕ) × IsRead old.left read new.left × Leaves (old.bytes ++ read) client.Ended new.bytes
HasNoReply client.Unreadable old new = (read : List ℕ) × IsRead old.left read new.left × Leaves (old.bytes ++ read) client.Unreadable new.bytes
HasNoReply client.NoMemory old new = Unit {0}

-- the reply has a status by which it says nothing
abbrev pub HasStatus : List ℕ → Option Version → ℕ → Far → Far → Type 0
HasStatus path from status old new = (r : Response) × WasReplied (target path old.service from) old new r × (r.status ≡ status) × (given_by r ≡ None)

-- why the question for the part at this path, from this version, has no answer: a fault of a body is one of which this holds
abbrev pub IsUnanswered : List ℕ → Option Version → (List ℕ → WireFault → Type 0) → AskFault → Far → Far → Type 0
IsUnanswered path from unread (ask.Client fault) old new = HasNoReply fault old new
IsUnanswered path from unread (ask.Status status) old new = HasStatus path from status old new
IsUnanswered path from unread (ask.Body fault) old new = (bytes : List ℕ) × WasGiven path old from (Some bytes) new × unread bytes fault
IsUnanswered path from unread ask.NoMemory old new = Unit {0}

-- no body was read
abbrev pub no_body : List ℕ → WireFault → Type 0
no_body bytes fault = ⊥

-- the bytes don't read
abbrev pub unread_by : {P : Type 0} → (List ℕ → Result P Fault) → List ℕ → WireFault → Type 0
unread_by {P = P} reading bytes fault = Answers {X = P} (Err fault) (reading bytes)

abbrev pub PoliciesUntold : Far → Option Version → AskFault → Far → Type 0
PoliciesUntold old from fault new = IsUnanswered policies_path from (unread_by policy_part_reading) fault old new

abbrev pub TagsUntold : Far → Option Version → AskFault → Far → Type 0
TagsUntold old from fault new = IsUnanswered tags_path from (unread_by tag_part_reading) fault old new

abbrev pub RolesUntold : Far → Option Version → AskFault → Far → Type 0
RolesUntold old from fault new = IsUnanswered roles_path from (unread_by role_part_reading) fault old new
