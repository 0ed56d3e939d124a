-- The names of the commands in JSON.
use Rattle.std.specs.Prelude.{ℕ, List, [], ◌∷◌, codes, find, Option}
use Rattle.std.specs.Str.{bytes_eq}
use Rattle.rg_cmd_wire.specs.declared.command_name.CommandName.{CommandName}
use Rattle.rg_cmd_wire.specs.declared.command_name.CommandName.TheVariants as the

-- what a command is called
unfoldable pub word_of : CommandName → List ℕ
word_of the.PutDef = codes "putDef"
word_of the.CreateService = codes "createService"
word_of the.UpdateService = codes "updateService"
word_of the.DeleteService = codes "deleteService"
word_of the.CreatePolicy = codes "createPolicy"
word_of the.UpdatePolicy = codes "updatePolicy"
word_of the.DeletePolicy = codes "deletePolicy"
word_of the.GetPolicy = codes "getPolicy"
word_of the.ListPolicies = codes "listPolicies"
word_of the.PutRole = codes "putRole"
word_of the.DeleteRole = codes "deleteRole"
word_of the.PutZone = codes "putZone"
word_of the.DeleteZone = codes "deleteZone"
word_of the.PutTags = codes "putTags"
word_of the.DeleteTags = codes "deleteTags"
word_of the.PutUser = codes "putUser"
word_of the.DeleteUser = codes "deleteUser"
word_of the.Download = codes "download"

abbrev pub all_names : List CommandName
all_names =
    the.PutDef ∷
    the.CreateService ∷
    the.UpdateService ∷
    the.DeleteService ∷
    the.CreatePolicy ∷
    the.UpdatePolicy ∷
    the.DeletePolicy ∷
    the.GetPolicy ∷
    the.ListPolicies ∷
    the.PutRole ∷
    the.DeleteRole ∷
    the.PutZone ∷
    the.DeleteZone ∷
    the.PutTags ∷
    the.DeleteTags ∷
    the.PutUser ∷
    the.DeleteUser ∷
    the.Download ∷ []

-- the command that is called so
unfoldable pub named : List ℕ → Option CommandName
named word = find (λ name. bytes_eq (word_of name) word) all_names
