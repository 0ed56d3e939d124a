-- What is told of a request, in words for people: lines of plain sentences. A name is spelled as a JSON string, so that none breaks a line.
use Rattle.std.specs.Prelude.{ℕ, ℤ, Bool, false, true, ◌&&◌, not, List, [], ◌∷◌, ◌++◌, flat_map, length, filter, codes, decimal, Option, Some, None, is_some, if◌then◌else◌}
use Rattle.std.specs.Fmt.{signed_decimal}
use Rattle.serde_json.specs.Written.{compact_text}
use Rattle.rg_base.specs.Listed.{Listed}
use Rattle.rg_base.specs.Texts.{is_empty}
use Rattle.rg_policy.specs.declared.request.AccessRequest.{AccessRequest}
use Rattle.rg_json.specs.Printing.{list_data, text_data}
use Rattle.rg_wire.specs.Printing.{word_of}
use Rattle.rg_facts.specs.Flow.{denies}
use Rattle.rg_facts.specs.declared.decision.ItemPlace.{ItemPlace}
use Rattle.rg_facts.specs.declared.decision.Verdict.{Verdict}
use Rattle.rg_standing.specs.declared.reason.Match.{Match}
use Rattle.rg_standing.specs.declared.reason.Matches.{Matches}
use Rattle.rg_standing.specs.declared.reason.Miss.{Miss}
use Rattle.rg_standing.specs.declared.reason.Miss.TheVariants.{Level, Beyond, Apart}
use Rattle.rg_standing.specs.declared.reason.Standing.{Standing}
use Rattle.rg_standing.specs.declared.reason.Standing.TheVariants.{FarOff, Disabled, Unscheduled, Elsewhere, Unmet, InPlay}
use Rattle.rg_standing.specs.declared.reason.Subject.{Subject}
use Rattle.rg_standing.specs.declared.reason.Subject.TheVariants.{EveryUser, Owner, User, Group, Everybody, Role}
use Rattle.rg_explain.specs.declared.explanation.Explanation.{Explanation}
use Rattle.rg_explain.specs.declared.explanation.HeldBy.{HeldBy}
use Rattle.rg_explain.specs.declared.explanation.InZone.{InZone}
use Rattle.rg_explain.specs.declared.explanation.TaggedBy.{TaggedBy}
use Rattle.rg_explain.specs.declared.explanation.Told.{Told}
use Rattle.rg_explain_wire.specs.Listing.{far_count, listed_policies}
use Rattle.rg_explain_wire.specs.Printing.{elements_data}

-- ---- names

unfoldable pub quoted : List ℕ → List ℕ
quoted t = compact_text (text_data t)

unfoldable pub quoted_list : Listed (List ℕ) → List ℕ
quoted_list ts = compact_text (list_data text_data ts)

abbrev pub is_nil : {X : Type 0} → List X → Bool
is_nil [] = true
is_nil (x ∷ xs) = false

-- ---- the decision

-- the policy of the deciding cell, or that there is none
unfoldable pub decided_words : Verdict → Option ℕ → List ℕ
decided_words v (Some n) = word_of v.access ++ (codes " by policy " ++ (signed_decimal v.policy.0 ++ (codes " in cell " ++ (decimal n ++ codes ".\n"))))
decided_words v None = word_of v.access ++ codes ", since no policy decides.\n"

-- what an item gives beside the decision, if one does
unfoldable pub given_words : List ℕ → Option ItemPlace → List ℕ
given_words what None = []
given_words what (Some p) = what ++ (codes " by item " ++ (decimal p.item ++ (codes " of policy " ++ (signed_decimal p.policy.0 ++ codes ".\n"))))

-- ---- by whom

unfoldable pub subject_words : Subject → List ℕ
subject_words EveryUser = codes "{USER}"
subject_words Owner = codes "{OWNER}"
subject_words User = codes "the user's name"
subject_words (Group name) = codes "group " ++ quoted name
subject_words Everybody = codes "public"
subject_words (Role name) = codes "role " ++ quoted name

-- what matches or holds the user has a subject
unfoldable pub by_words : Option Subject → List ℕ
by_words (Some s) = codes " by " ++ subject_words s
by_words None = []

-- ---- the request

-- who asks for what, on which path of which levels, and when
unfoldable pub asked_words : AccessRequest → List ℕ → List ℕ
asked_words q path =
    codes "User " ++ (quoted q.user ++ (codes " with the groups " ++ (quoted_list q.groups
    ++ (codes " asks for " ++ (quoted q.access ++ (codes " on " ++ (quoted path
    ++ (codes ", " ++ (compact_text (elements_data q.resource.elements) ++ (codes ", at " ++ (signed_decimal q.moment.0 ++ codes ".\n")))))))))))

-- nothing where nobody owns the resource
unfoldable pub owner_words : List ℕ → List ℕ
owner_words owner = if is_empty owner then [] else codes "The resource belongs to " ++ (quoted owner ++ codes ".\n")

-- ---- where it stands

-- a zone in which a resource lies has such a map
unfoldable pub by_map_words : Option ℕ → List ℕ
by_map_words (Some n) = codes " by its resource map " ++ decimal n
by_map_words None = []

unfoldable pub zone_words : Option InZone → List ℕ
zone_words (Some z) = codes "The resource lies in zone " ++ (quoted z.zone ++ (by_map_words z.map ++ codes ".\n"))
zone_words None = codes "The resource lies in no zone.\n"

unfoldable pub role_words : HeldBy → List ℕ
role_words h = codes "Role " ++ (quoted h.role ++ (codes " holds the user" ++ (by_words h.by ++ codes ".\n")))

unfoldable pub roles_words : List HeldBy → List ℕ
roles_words hs = if is_nil hs then codes "No role holds the user.\n" else flat_map role_words hs

unfoldable pub row_words : TaggedBy → List ℕ
row_words r = codes "Tag row " ++ (signed_decimal r.row ++ (codes " reaches down to the resource, with the tags " ++ (quoted_list r.tags ++ codes ".\n")))

unfoldable pub rows_words : List TaggedBy → List ℕ
rows_words rs = if is_nil rs then codes "No tag row reaches down to the resource.\n" else flat_map row_words rs

-- ---- what matches

-- the item of one list, if one matches
unfoldable pub match_words : List ℕ → Option Match → List ℕ
match_words list (Some m) = codes "; " ++ (list ++ (codes " " ++ (decimal m.item ++ (codes " matches" ++ by_words m.subject))))
match_words list None = []

unfoldable pub matches_words : Matches → List ℕ
matches_words m =
    match_words (codes "deny item") m.deny
    ++ (match_words (codes "deny exception") m.deny_exception
    ++ (match_words (codes "allow item") m.allow
    ++ (match_words (codes "allow exception") m.allow_exception
    ++ (match_words (codes "mask item") m.mask
    ++ match_words (codes "row filter item") m.filter))))

-- it denies by an item, and else by isDenyAllElse
abbrev pub denies_by_item : Matches → Bool
denies_by_item m = is_some m.deny && not (is_some m.deny_exception)

unfoldable pub effect_word : Bool → Bool → List ℕ
effect_word false by_item = codes "allows"
effect_word true true = codes "denies"
effect_word true false = codes "denies all else"

-- what a policy in play gives; one that stands in no cell gives no access
unfoldable pub effect_words : Option ℕ → Matches → List ℕ
effect_words (Some n) m = effect_word (denies n) (denies_by_item m) ++ (codes " in cell " ++ decimal n)
effect_words None m = codes "gives no access"

-- ---- what keeps a policy out

-- what keeps out one of its maps
unfoldable pub miss_words : Miss → List ℕ
miss_words (Level name) = codes "; level " ++ (quoted name ++ codes " doesn't match")
miss_words (Beyond name) = codes "; it has no level " ++ quoted name
miss_words Apart = codes "; its levels lie on another path"

unfoldable pub standing_words : Option ℕ → Standing → List ℕ
standing_words cell FarOff = codes "is far off"
standing_words cell Disabled = codes "is disabled"
standing_words cell Unscheduled = codes "has no schedule that contains the moment"
standing_words cell (Elsewhere misses) = codes "lies elsewhere" ++ flat_map miss_words misses.items
standing_words cell (Unmet name) = codes "has the condition " ++ (quoted name ++ codes ", which doesn't hold")
standing_words cell (InPlay m) = codes "is in play and " ++ (effect_words cell m ++ matches_words m)

-- ---- the policies

-- of a tag policy the tag that it is asked for
unfoldable pub for_words : Option (List ℕ) → List ℕ
for_words (Some tag) = codes ", asked for the tag " ++ (quoted tag ++ codes ",")
for_words None = []

-- the line of a policy
unfoldable pub line_words : Told → List ℕ
line_words t = codes "Policy " ++ (signed_decimal t.policy.0 ++ (codes " " ++ (quoted t.name ++ (for_words t.tag ++ (codes " " ++ (standing_words t.cell t.standing ++ codes ".\n"))))))

-- how many are far off, where they aren't listed
unfoldable pub far_words : Bool → ℕ → List ℕ
far_words true n = []
far_words false n = codes "Further policies, of which no level matches: " ++ (decimal n ++ codes ".\n")

-- ---- the whole

-- the decision, with the row filter and the mask
unfoldable pub decision_words : Explanation → List ℕ
decision_words e = decided_words e.verdict e.cell ++ (given_words (codes "Rows are filtered") e.verdict.filter ++ given_words (codes "Values are masked") e.verdict.mask)

-- what is asked, and where it stands
unfoldable pub place_words : AccessRequest → Explanation → List ℕ
place_words q e = asked_words q e.decision.path ++ (owner_words q.resource.owner ++ (zone_words e.zone ++ (roles_words e.roles.items ++ rows_words e.rows.items)))

unfoldable pub head_words : AccessRequest → Explanation → List ℕ
head_words q e = decision_words e ++ place_words q e

-- then each policy that is listed, in the order told, and how many aren't
unfoldable pub explanation_words : Bool → AccessRequest → Explanation → List ℕ
explanation_words all q e = head_words q e ++ (flat_map line_words (listed_policies all e) ++ far_words all (far_count e))
