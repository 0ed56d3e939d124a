-- Counted work, part by part.
use Rattle.std.proofs.Common.{◌≡◌, ◌≤◌, ◌+◌, ◌==◌, ℕ, Bool, true, false, not, cond, List, [], ◌∷◌, Option, Some, None, length, refl, ap, subst, sym, ◌∙◌, arith}
use Rattle.std.specs.List.{filter, sum_by}
use Rattle.rg_base.specs.Counts.{Counts, one_try}
use Rattle.rg_policy.specs.declared.policy.Policy.{Policy}
use Rattle.rg_defs.specs.declared.service_def.ServiceDef.{ServiceDef}
use Rattle.rg_tags.specs.declared.row.TagRow.{TagRow}
use Rattle.rg_cmd.specs.Kinds.{deleted}
use Rattle.rg_cmd.specs.Lookups.{has_id, has_row_id}
use Rattle.rg_cmd.specs.declared.changes.PolicyChange.{PolicyChange}
use Rattle.rg_cmd.specs.declared.changes.TagChange.{TagChange}
use Rattle.rg_cmd.specs.declared.download.PolicyDelta.{PolicyDelta}
use Rattle.rg_cmd.specs.declared.download.TagDelta.{TagDelta}
use Rattle.rg_delta.specs.Applied.{policies_after, rows_after, tag_policies_after}
use Rattle.rg_evalr.specs.Tries.{TriesAtMost}
use Rattle.rg_evalr.specs.Frames.{def_of}
use Rattle.rg_evalr.specs.declared.frame.Frame.{Frame}
use Rattle.rg_evalr.specs.declared.frame.Side.{Side}
use Rattle.rg_evalr.specs.declared.frame.Side.TheVariants.{Resource, Tag}
use Rattle.rg_facts.specs.Candidates.{frame_of}
use Rattle.rg_facts.specs.declared.facts.Facts.{Facts}
use Rattle.rg_index.specs.Filing.{pairs}
use Rattle.rg_index.specs.declared.form.Form.{Form}
use Rattle.rg_policy_sets.specs.Bounds.{WorkWithin, is_on, made, made_on, pairs_of_change, pairs_on, pairs_under, policy_form, policy_forms, row_form, row_forms, row_pairs}
use Rattle.rg_engine.specs.Bounds.{TriesWithin, pairs_in, pairs_of_changes, pairs_of_policy_changes, pairs_of_row_changes, policies_in}
use Rattle.rg_engine.specs.Parts.{Compiled, compiled_of, tag_pairs}

-- ---- tries

pub no_try : (a : Counts) → TriesWithin 0 a a
no_try a = record { tries = omega arith; compiles = refl; edits = refl }

pub more_tries : (m n : ℕ) (a b : Counts) → m ≤ n → TriesWithin m a b → TriesWithin n a b
more_tries m n a b l h = let t = h.tries in record { tries = omega (arith, t, l); compiles = h.compiles; edits = h.edits }

pub both_tries : (m n : ℕ) (a b c : Counts) → TriesWithin m a b → TriesWithin n b c → TriesWithin (m + n) a c
both_tries m n a b c h k =
    let t = h.tries in
    let u = k.tries in
    record { tries = omega (arith, t, u); compiles = k.compiles ∙ h.compiles; edits = k.edits ∙ h.edits }

pub at_most : (n : ℕ) (a b : Counts) → TriesAtMost n a b → TriesWithin n a b
at_most n a b h = record { tries = h.most; compiles = h.compiles; edits = h.edits }

pub tried : (a b : Counts) → b ≡ one_try a → TriesWithin 1 a b
tried a b e = subst (TriesWithin 1 a) (sym e) (record { tries = omega arith; compiles = refl; edits = refl })

-- ---- compiles and edits

pub no_work : (a : Counts) → WorkWithin 0 0 a a
no_work a = record { compiled = omega arith; edited = omega arith; tries = refl }

pub more_work : (m n i j : ℕ) (a b : Counts) → m ≤ n → i ≤ j → WorkWithin m i a b → WorkWithin n j a b
more_work m n i j a b l k h =
    let c = h.compiled in
    let e = h.edited in
    record { compiled = omega (arith, c, l); edited = omega (arith, e, k); tries = h.tries }

pub both_work : (m n i j : ℕ) (a b c : Counts) → WorkWithin m i a b → WorkWithin n j b c → WorkWithin (m + n) (i + j) a c
both_work m n i j a b c h k =
    let c1 = h.compiled in
    let c2 = k.compiled in
    let e1 = h.edited in
    let e2 = k.edited in
    record { compiled = omega (arith, c1, c2); edited = omega (arith, e1, e2); tries = k.tries ∙ h.tries }

-- ---- changes of both sides

abbrev makes : PolicyChange → Bool
makes c = not (c.change_type == deleted)

one_more_right : (b : Bool) (c : PolicyChange) (xs ys zs : List PolicyChange) → length xs ≡ length ys + length zs → length (cond b (c ∷ xs) xs) ≡ length ys + length (cond b (c ∷ zs) zs)
one_more_right true c xs ys zs e = omega (arith, e)
one_more_right false c xs ys zs e = e

one_more_left : (b : Bool) (c : PolicyChange) (xs ys zs : List PolicyChange) → length xs ≡ length ys + length zs → length (cond b (c ∷ xs) xs) ≡ length (cond b (c ∷ ys) ys) + length zs
one_more_left true c xs ys zs e = omega (arith, e)
one_more_left false c xs ys zs e = e

-- each change is of one side
pub made_on_both : (changes : List PolicyChange) → made changes ≡ made_on Resource changes + made_on Tag changes
made_on_both [] = refl
made_on_both (c ∷ cs) =
    let own = filter (is_on Resource) cs in
    let tags = filter (is_on Tag) cs in
    elim c.tag as (λ b. made (c ∷ cs) ≡ length (filter makes (cond (not b) (c ∷ own) own)) + length (filter makes (cond b (c ∷ tags) tags))) [
      | true ↦ one_more_right (makes c) c (filter makes cs) (filter makes own) (filter makes tags) (made_on_both cs)
      | false ↦ one_more_left (makes c) c (filter makes cs) (filter makes own) (filter makes tags) (made_on_both cs)
    ]

none_filed : (change_type : ℕ) (new : Form) (old : List Form) → pairs_of_change None change_type new old ≡ 0
none_filed change_type new old = at (change_type == deleted) where
  at : (b : Bool) → cond b 0 0 + 0 ≡ 0
  at true = refl
  at false = refl

add_one : (b : Bool) (own tag rest owns tags : ℕ) → rest ≡ owns + tags → cond b tag own + rest ≡ (cond (not b) own 0 + owns) + (cond b tag 0 + tags)
add_one true own tag rest owns tags e = omega (arith, e)
add_one false own tag rest owns tags e = omega (arith, e)

add_own : (b : Bool) (own tag rest owns : ℕ) → tag ≡ 0 → rest ≡ owns + 0 → cond b tag own + rest ≡ (cond (not b) own 0 + owns) + 0
add_own true own tag rest owns z e = omega (arith, z, e)
add_own false own tag rest owns z e = omega (arith, e)

-- under one definition of tags or none
module _ (facts : Facts) where
  without_tags : (changes : List PolicyChange) (policies tag_policies : List Policy)
      → pairs_of_policy_changes (record facts { tag_def = None }) policies tag_policies changes ≡ pairs_on facts.def Resource policies changes + 0
  without_tags [] policies tag_policies = refl
  without_tags (c ∷ cs) policies tag_policies =
      let form = policy_form c.policy in
      add_own c.tag (pairs_of_change (Some facts.def) c.change_type form (policy_forms (filter (has_id c.policy.id.0) policies)))
      (pairs_of_change None c.change_type form (policy_forms (filter (has_id c.policy.id.0) tag_policies)))
      (pairs_of_policy_changes (record facts { tag_def = None }) (policies_after policies c) (tag_policies_after tag_policies c) cs)
      (pairs_on facts.def Resource (policies_after policies c) cs)
      (none_filed c.change_type form (policy_forms (filter (has_id c.policy.id.0) tag_policies)))
      (without_tags cs (policies_after policies c) (tag_policies_after tag_policies c))

  with_tags : (def : ServiceDef) (changes : List PolicyChange) (policies tag_policies : List Policy)
      → pairs_of_policy_changes (record facts { tag_def = Some def }) policies tag_policies changes ≡ pairs_on facts.def Resource policies changes + pairs_on def Tag tag_policies changes
  with_tags def [] policies tag_policies = refl
  with_tags def (c ∷ cs) policies tag_policies =
      let form = policy_form c.policy in
      add_one c.tag (pairs_of_change (Some facts.def) c.change_type form (policy_forms (filter (has_id c.policy.id.0) policies)))
      (pairs_of_change (Some def) c.change_type form (policy_forms (filter (has_id c.policy.id.0) tag_policies)))
      (pairs_of_policy_changes (record facts { tag_def = Some def }) (policies_after policies c) (tag_policies_after tag_policies c) cs)
      (pairs_on facts.def Resource (policies_after policies c) cs)
      (pairs_on def Tag (tag_policies_after tag_policies c) cs)
      (with_tags def cs (policies_after policies c) (tag_policies_after tag_policies c))

  under : (o : Option ServiceDef) (changes : List PolicyChange) (policies tag_policies : List Policy)
      → pairs_of_policy_changes (record facts { tag_def = o }) policies tag_policies changes ≡ pairs_on facts.def Resource policies changes + tag_pairs o tag_policies changes
  under None changes policies tag_policies = without_tags changes policies tag_policies
  under (Some def) changes policies tag_policies = with_tags def changes policies tag_policies

  -- what is filed of each is filed on its side
  pub pairs_on_both : (changes : List PolicyChange) (policies tag_policies : List Policy)
      → pairs_of_policy_changes facts policies tag_policies changes ≡ pairs_on facts.def Resource policies changes + tag_pairs facts.tag_def tag_policies changes
  pairs_on_both changes policies tag_policies = under facts.tag_def changes policies tag_policies

  pub pairs_of_rows : (changes : List TagChange) (rows : List TagRow) → pairs_of_row_changes facts rows changes ≡ row_pairs facts.def rows changes
  pairs_of_rows [] rows = refl
  pairs_of_rows (c ∷ cs) rows = ap (λ n. pairs_of_change (Some facts.def) c.change_type (row_form c.row) (row_forms (filter (has_row_id c.row.id) rows)) + n) (pairs_of_rows cs (rows_after rows c))

-- ---- the three sets of an engine

own_work : (frame : Frame) (side : Side) (policies : List Policy) (changes : List PolicyChange) (a b : Counts) → side ≡ Resource
    → WorkWithin (made_on side changes) (pairs_on (def_of frame side) side policies changes) a b → WorkWithin (made_on Resource changes) (pairs_on frame.def Resource policies changes) a b
own_work frame side policies changes a b is h = subst (λ (v : Side). WorkWithin (made_on v changes) (pairs_on (def_of frame v) v policies changes) a b) is h

tag_work : (frame other : Frame) (policies : List Policy) (changes : List PolicyChange) (a b : Counts) → frame ≡ other
    → WorkWithin (made_on Tag changes) (tag_pairs frame.tag_def policies changes) a b → WorkWithin (made_on Tag changes) (tag_pairs other.tag_def policies changes) a b
tag_work frame other policies changes a b is h = subst (λ (f : Frame). WorkWithin (made_on Tag changes) (tag_pairs f.tag_def policies changes) a b) is h

-- what the three count together, after each of them
module _ (now : Compiled) (frame given : Frame) (side : Side) (policies tag_policies : List Policy) (changes : List PolicyChange) (tags : List TagChange)
    (own : side ≡ Resource) (frame_is : frame ≡ now.frame) (given_is : given ≡ now.frame) (policies_are : policies ≡ now.policies) (tag_policies_are : tag_policies ≡ now.tag_policies) where
  abbrev all_pairs : ℕ
  all_pairs = pairs_on now.frame.def Resource now.policies changes + (tag_pairs now.frame.tag_def now.tag_policies changes + row_pairs now.frame.def now.rows tags)

  first : (a b : Counts) → WorkWithin (made_on side changes) (pairs_on (def_of frame side) side policies changes) a b
      → WorkWithin (made_on Resource changes) (pairs_on now.frame.def Resource now.policies changes) a b
  first a b h = own_work now.frame side now.policies changes a b own
      (subst (λ (ps : List Policy). WorkWithin (made_on side changes) (pairs_on (def_of now.frame side) side ps changes) a b) policies_are
      (subst (λ (f : Frame). WorkWithin (made_on side changes) (pairs_on (def_of f side) side policies changes) a b) frame_is h))

  pub one_moved : (a b : Counts) → WorkWithin (made_on side changes) (pairs_on (def_of frame side) side policies changes) a b → WorkWithin (made changes) all_pairs a b
  one_moved a b h =
      let both = made_on_both changes in
      more_work (made_on Resource changes) (made changes) (pairs_on now.frame.def Resource now.policies changes) all_pairs a b (omega (arith, both)) (omega arith) (first a b h)

  second : (a b d : Counts) → WorkWithin (made_on side changes) (pairs_on (def_of frame side) side policies changes) a b
      → WorkWithin (made_on Tag changes) (tag_pairs given.tag_def tag_policies changes) b d
      → WorkWithin (made_on Resource changes + made_on Tag changes) (pairs_on now.frame.def Resource now.policies changes + tag_pairs now.frame.tag_def now.tag_policies changes) a d
  second a b d h k = both_work (made_on Resource changes) (made_on Tag changes) (pairs_on now.frame.def Resource now.policies changes) (tag_pairs now.frame.tag_def now.tag_policies changes) a b d (first a b h)
      (subst (λ (ps : List Policy). WorkWithin (made_on Tag changes) (tag_pairs now.frame.tag_def ps changes) b d) tag_policies_are (tag_work given now.frame tag_policies changes b d given_is k))

  pub two_moved : (a b d : Counts) → WorkWithin (made_on side changes) (pairs_on (def_of frame side) side policies changes) a b
      → WorkWithin (made_on Tag changes) (tag_pairs given.tag_def tag_policies changes) b d → WorkWithin (made changes) all_pairs a d
  two_moved a b d h k =
      let both = made_on_both changes in
      more_work (made_on Resource changes + made_on Tag changes) (made changes) (pairs_on now.frame.def Resource now.policies changes + tag_pairs now.frame.tag_def now.tag_policies changes) all_pairs a d
      (omega (arith, both)) (omega arith) (second a b d h k)

  pub three_moved : (def : ServiceDef) (rows : List TagRow) (a b d e : Counts) → def ≡ now.frame.def → rows ≡ now.rows
      → WorkWithin (made_on side changes) (pairs_on (def_of frame side) side policies changes) a b
      → WorkWithin (made_on Tag changes) (tag_pairs given.tag_def tag_policies changes) b d → WorkWithin 0 (row_pairs def rows tags) d e → WorkWithin (made changes) all_pairs a e
  three_moved def rows a b d e def_is rows_are h k l =
      let both = made_on_both changes in
      let row_work : WorkWithin 0 (row_pairs now.frame.def now.rows tags) d e = subst (λ (rs : List TagRow). WorkWithin 0 (row_pairs now.frame.def rs tags) d e) rows_are (subst (λ (x : ServiceDef). WorkWithin 0 (row_pairs x rows tags) d e) def_is l) in
      more_work ((made_on Resource changes + made_on Tag changes) + 0) (made changes)
      ((pairs_on now.frame.def Resource now.policies changes + tag_pairs now.frame.tag_def now.tag_policies changes) + row_pairs now.frame.def now.rows tags) all_pairs a e
      (omega (arith, both)) (omega arith)
      (both_work (made_on Resource changes + made_on Tag changes) 0 (pairs_on now.frame.def Resource now.policies changes + tag_pairs now.frame.tag_def now.tag_policies changes) (row_pairs now.frame.def now.rows tags) a d e (second a b d h k) row_work)

-- what building them counts together, after each of them
module _ (facts : Facts) (frame : Frame) (policies : List Policy) (frame_is : frame ≡ frame_of facts) (policies_are : policies ≡ facts.policies.items) where
  abbrev own_pairs : ℕ
  own_pairs = sum_by (pairs facts.def) (policy_forms facts.policies.items)

  abbrev tags_pairs : ℕ
  tags_pairs = pairs_under facts.tag_def (policy_forms facts.tag_policies.items)

  abbrev rows_pairs : ℕ
  rows_pairs = sum_by (pairs facts.def) (row_forms facts.tag_rows.items)

  own_built : (a b : Counts) → WorkWithin (length policies) (sum_by (pairs (def_of frame Resource)) (policy_forms policies)) a b → WorkWithin (length facts.policies.items) own_pairs a b
  own_built a b h = subst (λ (ps : List Policy). WorkWithin (length ps) (sum_by (pairs facts.def) (policy_forms ps)) a b) policies_are
      (subst (λ (f : Frame). WorkWithin (length policies) (sum_by (pairs (def_of f Resource)) (policy_forms policies)) a b) frame_is h)

  pub one_built : (a b : Counts) → WorkWithin (length policies) (sum_by (pairs (def_of frame Resource)) (policy_forms policies)) a b → WorkWithin (policies_in facts) (pairs_in facts) a b
  one_built a b h = more_work (length facts.policies.items) (policies_in facts) own_pairs (pairs_in facts) a b (omega arith) (omega arith) (own_built a b h)

  module _ (tag_policies : List Policy) (tag_policies_are : tag_policies ≡ facts.tag_policies.items) where
    both_built : (a b d : Counts) → WorkWithin (length policies) (sum_by (pairs (def_of frame Resource)) (policy_forms policies)) a b
        → WorkWithin (length tag_policies) (pairs_under frame.tag_def (policy_forms tag_policies)) b d → WorkWithin (policies_in facts) (own_pairs + tags_pairs) a d
    both_built a b d h k = both_work (length facts.policies.items) (length facts.tag_policies.items) own_pairs tags_pairs a b d (own_built a b h)
        (subst (λ (ps : List Policy). WorkWithin (length ps) (pairs_under facts.tag_def (policy_forms ps)) b d) tag_policies_are
        (subst (λ (f : Frame). WorkWithin (length tag_policies) (pairs_under f.tag_def (policy_forms tag_policies)) b d) frame_is k))

    pub two_built : (a b d : Counts) → WorkWithin (length policies) (sum_by (pairs (def_of frame Resource)) (policy_forms policies)) a b
        → WorkWithin (length tag_policies) (pairs_under frame.tag_def (policy_forms tag_policies)) b d → WorkWithin (policies_in facts) (pairs_in facts) a d
    two_built a b d h k = more_work (policies_in facts) (policies_in facts) (own_pairs + tags_pairs) (pairs_in facts) a d (omega arith) (omega arith) (both_built a b d h k)

    pub three_built : (rows : List TagRow) → rows ≡ facts.tag_rows.items → (a b d e : Counts) → WorkWithin (length policies) (sum_by (pairs (def_of frame Resource)) (policy_forms policies)) a b
        → WorkWithin (length tag_policies) (pairs_under frame.tag_def (policy_forms tag_policies)) b d → WorkWithin 0 (sum_by (pairs frame.def) (row_forms rows)) d e → WorkWithin (policies_in facts) (pairs_in facts) a e
    three_built rows rows_are a b d e h k l =
        let row_work : WorkWithin 0 rows_pairs d e = subst (λ (rs : List TagRow). WorkWithin 0 (sum_by (pairs facts.def) (row_forms rs)) d e) rows_are
        (subst (λ (f : Frame). WorkWithin 0 (sum_by (pairs f.def) (row_forms rows)) d e) frame_is l) in
        more_work (policies_in facts + 0) (policies_in facts) ((own_pairs + tags_pairs) + rows_pairs) (pairs_in facts) a e (omega arith) (omega arith)
        (both_work (policies_in facts) 0 (own_pairs + tags_pairs) rows_pairs a d e (both_built a b d h k) row_work)

-- what moving them counts is what the deltas may count
pub moved_work : (facts : Facts) (policies : PolicyDelta) (tags : TagDelta) (c : Compiled) (changes : List PolicyChange) (rows : List TagChange) (a b : Counts)
    → c ≡ compiled_of facts → changes ≡ policies.changes.items → rows ≡ tags.changes.items
    → WorkWithin (made changes) (pairs_on c.frame.def Resource c.policies changes + (tag_pairs c.frame.tag_def c.tag_policies changes + row_pairs c.frame.def c.rows rows)) a b
    → WorkWithin (made policies.changes.items) (pairs_of_changes facts policies tags) a b
moved_work facts policies tags c changes rows a b c_is changes_are rows_are h =
    let all = policies.changes.items in
    let these = tags.changes.items in
    let moved = subst (λ (x : Compiled). WorkWithin (made all) (pairs_on x.frame.def Resource x.policies all + (tag_pairs x.frame.tag_def x.tag_policies all + row_pairs x.frame.def x.rows these)) a b) c_is
    (subst (λ (rs : List TagChange). WorkWithin (made all) (pairs_on c.frame.def Resource c.policies all + (tag_pairs c.frame.tag_def c.tag_policies all + row_pairs c.frame.def c.rows rs)) a b) rows_are
    (subst (λ (cs : List PolicyChange). WorkWithin (made cs) (pairs_on c.frame.def Resource c.policies cs + (tag_pairs c.frame.tag_def c.tag_policies cs + row_pairs c.frame.def c.rows rows)) a b) changes_are h)) in
    let sides = pairs_on_both facts all facts.policies.items facts.tag_policies.items in
    let filed = pairs_of_rows facts these facts.tag_rows.items in
    more_work (made all) (made all) _ (pairs_of_changes facts policies tags) a b (omega arith) (omega (arith, sides, filed)) moved
