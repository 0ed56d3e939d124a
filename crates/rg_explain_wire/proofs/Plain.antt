-- What is printed for an explanation has no float.
use Rattle.std.proofs.Common.{◌≡◌, ◌+◌, ◌≤◌, ℕ, Bool, false, List, [], ◌∷◌, Some, None, refl, arith}
use Rattle.serde_json.specs.Data.{Data}
use Rattle.serde_json.specs.Written.{has_float}
use Rattle.rg_base.specs.Listed.{Listed, listed}
use Rattle.rg_base.specs.declared.pair.Pair.{Pair}
use Rattle.rg_json.specs.Printing.{count_data, list_data, text_data}
use Rattle.rg_json.proofs.Plain.{Plain, PlainMembers, bool_plain, count_plain, integer_plain, list_plain, none_plain, object_plain, option_plain, put_plain, text_plain, texts_plain}
use Rattle.rg_policy.specs.declared.request.AccessRequest.{AccessRequest}
use Rattle.rg_policy.specs.declared.request.Element.{Element}
use Rattle.rg_policy.specs.declared.request.Resource.{Resource}
use Rattle.rg_facts.specs.declared.decision.ItemPlace.{ItemPlace}
use Rattle.rg_standing.specs.declared.reason.Match.{Match}
use Rattle.rg_standing.specs.declared.reason.Matches.{Matches}
use Rattle.rg_standing.specs.declared.reason.Miss.{Miss}
use Rattle.rg_standing.specs.declared.reason.Subject.{Subject}
use Rattle.rg_explain.specs.declared.explanation.Explanation.{Explanation}
use Rattle.rg_explain.specs.declared.explanation.HeldBy.{HeldBy}
use Rattle.rg_explain.specs.declared.explanation.InZone.{InZone}
use Rattle.rg_explain.specs.declared.explanation.TaggedBy.{TaggedBy}
use Rattle.rg_explain.specs.declared.explanation.Told.{Told}
use Rattle.rg_explain_wire.specs.Listing.{far_count, listed_policies}
use Rattle.rg_explain_wire.specs.Printing.{asked_resource_data, asked_resource_members, context_data, elements_data, explanation_data, explanation_members, match_data, match_members, matches_data, matches_members, miss_data, miss_level, miss_members, name_of, place_data, place_members, request_data, request_members, role_data, role_members, row_data, row_members, subject_data, subject_members, subject_name, texts_by_name, told_condition, told_data, told_matches, told_members, told_misses, zone_data, zone_members}

-- ---- the request

texts_by_name_plain : {X : Type 0} (pair_of : X → List ℕ × List ℕ) (xs : List X) → PlainMembers 0 (texts_by_name pair_of xs)
texts_by_name_plain pair_of [] = none_plain 0
texts_by_name_plain pair_of (x ∷ xs) = put_plain 0 _ _ _ (text_plain 0 (pair_of x).1) (texts_by_name_plain pair_of xs)

elements_plain : (es : Listed Element) → Plain 1 (elements_data es)
unfolding elements_data
elements_plain es = let q = texts_by_name_plain (λ (e : Element). (e.level, e.value)) es.items in (q.0, omega (arith, q.1))

context_plain : (n : ℕ) (ps : Listed Pair) → 1 ≤ n → Plain n (context_data ps)
unfolding context_data
context_plain n ps h = let q = texts_by_name_plain (λ (p : Pair). (p.key, p.value)) ps.items in (q.0, omega (arith, q.1, h))

asked_resource_plain : (r : Resource) → Plain 2 (asked_resource_data r)
unfolding asked_resource_data
asked_resource_plain r = object_plain name_of 1 2 (asked_resource_members r) (omega arith) (elements_plain r.elements, (text_plain 1 r.owner, tt))

request_plain : (q : AccessRequest) → Plain 3 (request_data q)
unfolding request_data
request_plain q = object_plain name_of 2 3 (request_members q) (omega arith) (
  integer_plain 2 q.moment.0,
  (
    text_plain 2 q.access,
    (
      text_plain 2 q.address,
      (
        context_plain 2 q.context (omega arith),
        (
          asked_resource_plain q.resource,
          (text_plain 2 q.user, (texts_plain 2 q.groups (omega arith), tt)),
        ),
      ),
    ),
  ),
)

-- ---- the policies

miss_plain : (m : Miss) → Plain 1 (miss_data m)
unfolding miss_data
miss_plain m = object_plain name_of 0 1 (miss_members m) (omega arith) ((refl, omega arith), (option_plain 0 text_data (miss_level m) (text_plain 0), tt))

subject_plain : (s : Subject) → Plain 1 (subject_data s)
unfolding subject_data
subject_plain s = object_plain name_of 0 1 (subject_members s) (omega arith) ((refl, omega arith), (option_plain 0 text_data (subject_name s) (text_plain 0), tt))

match_plain : (m : Match) → Plain 2 (match_data m)
unfolding match_data
match_plain m = object_plain name_of 1 2 (match_members m) (omega arith) (option_plain 1 subject_data m.subject subject_plain, (count_plain 1 m.item, tt))

matches_plain : (m : Matches) → Plain 3 (matches_data m)
unfolding matches_data
matches_plain m = object_plain name_of 2 3 (matches_members m) (omega arith) (
  option_plain 2 match_data m.allow match_plain,
  (
    option_plain 2 match_data m.allow_exception match_plain,
    (
      option_plain 2 match_data m.deny match_plain,
      (
        option_plain 2 match_data m.deny_exception match_plain,
        (
          option_plain 2 match_data m.filter match_plain,
          (option_plain 2 match_data m.mask match_plain, tt),
        ),
      ),
    ),
  ),
)

told_plain : (t : Told) → Plain 4 (told_data t)
unfolding told_data
told_plain t = object_plain name_of 3 4 (told_members t) (omega arith) (
  option_plain 3 count_data t.cell (count_plain 3),
  (
    integer_plain 3 t.policy.0,
    (
      (refl, omega arith),
      (
        option_plain 3 matches_data (told_matches t.standing) matches_plain,
        (
          option_plain 3 (list_data miss_data) (told_misses t.standing) (λ misses. list_plain 1 3 miss_data misses (omega arith) miss_plain),
          (
            text_plain 3 t.name,
            (
              option_plain 3 text_data t.tag (text_plain 3),
              (option_plain 3 text_data (told_condition t.standing) (text_plain 3), tt),
            ),
          ),
        ),
      ),
    ),
  ),
)

-- ---- the whole

place_plain : (p : ItemPlace) → Plain 1 (place_data p)
unfolding place_data
place_plain p = object_plain name_of 0 1 (place_members p) (omega arith) (integer_plain 0 p.policy.0, (count_plain 0 p.item, (bool_plain 0 p.tag, tt)))

row_plain : (r : TaggedBy) → Plain 2 (row_data r)
unfolding row_data
row_plain r = object_plain name_of 1 2 (row_members r) (omega arith) (integer_plain 1 r.row, (texts_plain 1 r.tags (omega arith), tt))

zone_plain : (z : InZone) → Plain 1 (zone_data z)
unfolding zone_data
zone_plain z = object_plain name_of 0 1 (zone_members z) (omega arith) (option_plain 0 count_data z.map (count_plain 0), (text_plain 0 z.zone, tt))

role_plain : (h : HeldBy) → Plain 2 (role_data h)
unfolding role_data
role_plain h = object_plain name_of 1 2 (role_members h) (omega arith) (option_plain 1 subject_data h.by subject_plain, (text_plain 1 h.role, tt))

more : (n m : ℕ) (d : Data) → n ≤ m → Plain n d → Plain m d
more n m d h p = (p.0, omega (arith, p.1, h))

explanation_plain : (all : Bool) (q : AccessRequest) (e : Explanation) → Plain 6 (explanation_data all q e)
unfolding explanation_data
explanation_plain all q e = object_plain name_of 5 6 (explanation_members all q e) (omega arith) (
  (refl, omega arith),
  (
    option_plain 5 count_data e.cell (count_plain 5),
    (
      option_plain 5 place_data e.verdict.mask (λ p. more 1 5 (place_data p) (omega arith) (place_plain p)),
      (
        integer_plain 5 e.verdict.policy.0,
        (
          option_plain 5 place_data e.verdict.filter (λ p. more 1 5 (place_data p) (omega arith) (place_plain p)),
          (
            text_plain 5 e.decision.path,
            (
              more 3 5 (request_data q) (omega arith) (request_plain q),
              (
                list_plain 2 5 role_data e.roles (omega arith) role_plain,
                (
                  list_plain 2 5 row_data e.rows (omega arith) row_plain,
                  (
                    option_plain 5 zone_data e.zone (λ z. more 1 5 (zone_data z) (omega arith) (zone_plain z)),
                    (
                      count_plain 5 (far_count e),
                      (list_plain 4 5 told_data (listed (listed_policies all e)) (omega arith) told_plain, tt),
                    ),
                  ),
                ),
              ),
            ),
          ),
        ),
      ),
    ),
  ),
)

pub explanation_has_no_float : (all : Bool) (q : AccessRequest) (e : Explanation) → has_float (explanation_data all q e) ≡ false
explanation_has_no_float all q e = (explanation_plain all q e).0

pub ruleset explanations = (explanation_has_no_float)

-- ---- names, and the elements that stand for the resource

pub name_has_no_float : (t : List ℕ) → has_float (text_data t) ≡ false
name_has_no_float t = (text_plain 0 t).0

pub names_have_no_float : (ts : Listed (List ℕ)) → has_float (list_data text_data ts) ≡ false
names_have_no_float ts = (texts_plain 1 ts (omega arith)).0

pub elements_have_no_float : (es : Listed Element) → has_float (elements_data es) ≡ false
elements_have_no_float es = (elements_plain es).0

pub ruleset names = (name_has_no_float, names_have_no_float, elements_have_no_float)
