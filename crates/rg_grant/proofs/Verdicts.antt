-- Verdicts where one policy stands in the place of another that gives the same.
use Rattle.std.proofs.Common.{◌≡◌, ◌&&◌, ◌||◌, ◌++◌, ℕ, Bool, true, cond, eqb, nat_lt, int_lt, negsuc, List, [], ◌∷◌, map, Option, Some, None, Contains, refl, sym, subst, ap, ◌∙◌}
use Rattle.std.specs.List.{flat_map}
use Rattle.std.specs.Option.{option_map_or}
use Rattle.std.specs.Ordering.{int_eq}
use Rattle.std.specs.Prelude.{option_and_then, option_map}
use Rattle.std.proofs.lemmas.List.Sums.{fold-append}
use Rattle.rg_base.proofs.Lists.{Contains-first, Contains-later}
use Rattle.rg_base.specs.declared.numbers.PolicyId.{PolicyId}
use Rattle.rg_base.specs.declared.numbers.Version.{Version}
use Rattle.rg_policy.specs.Kinds.{access_policy}
use Rattle.rg_policy.specs.declared.policy.Policy.{Policy}
use Rattle.rg_policy.specs.declared.tags.Tag.{Tag}
use Rattle.rg_evalr.specs.Effects.{access_of, effect_of, is_scheduled, is_valid}
use Rattle.rg_evalr.specs.Items.{Context, all_hold}
use Rattle.rg_evalr.specs.declared.frame.Effect.TheVariants.{Nothing}
use Rattle.rg_evalr.specs.declared.frame.Frame.{Frame}
use Rattle.rg_evalr.specs.declared.frame.Side.{Side}
use Rattle.rg_evalr.specs.declared.frame.Side.TheVariants.{Resource, Tag as Tagged}
use Rattle.rg_facts.specs.Best.{Best, after, asked, better_of, choices_asked, none_yet, outcome_by, ranked, ranks_before}
use Rattle.rg_facts.specs.Candidates.{Candidate, Setting, candidate, context_of, is_chosen}
use Rattle.rg_facts.specs.Choices.{Choice, goes_before, unless_no_mask}
use Rattle.rg_facts.specs.Flow.{cell_at, cell_of, denies, given, is_allowed, outcome_from, outcome_of, place_of, verdict_of}
use Rattle.rg_facts.specs.declared.best.Pass.TheVariants.{All}
use Rattle.rg_facts.specs.declared.decision.Access.{Access}
use Rattle.rg_facts.specs.declared.decision.Access.TheVariants.{Allowed, Denied, Undetermined}
use Rattle.rg_facts.specs.declared.decision.Verdict.{Verdict}
use Rattle.rg_facts.proofs.Idle.{by_asking}
use Rattle.rg_facts.proofs.Types.{access_alone_filter, access_alone_mask}
use Rattle.rg_admin_laws.proofs.Lists.{case}
use Rattle.rg_grant.specs.Forms.{granted_form}
use Rattle.rg_grant.specs.declared.row.GrantRow.{GrantRow}
use Rattle.rg_grant.proofs.Again.{lies_by_maps}

-- ---- what a verdict takes from the best so far

-- the cell of who decides, its id, and whether it is audited
abbrev Mark : Type 0
Mark = ℕ × PolicyId × Bool

abbrev mark : ℕ × Policy → Mark
mark d = (d.0, d.1.id, d.1.audited)

abbrev marks_before : Mark → Mark → Bool
marks_before m n = nat_lt m.0 n.0 || (eqb m.0 n.0 && int_lt m.1.0 n.1.0)

pub record Alike (b d : Best) : Type 0 where
  pub decides : option_map mark b.decider ≡ option_map mark d.decider
  pub filters : b.filter ≡ d.filter
  pub masks : b.mask ≡ d.mask

abbrev access_by : Bool → Option Mark → Access
access_by fallback (Some m) = cond (denies m.0) Denied Allowed
access_by fallback None = cond fallback Undetermined Denied

abbrev verdict_by : Bool → Option Mark → Option Choice → Option Choice → Verdict
verdict_by fallback o filters masks = record {
  access = access_by fallback o;
  policy = option_map_or (λ (m : Mark). m.1) o (record { 0 = negsuc 0 });
  audited = option_map_or (λ (m : Mark). m.2) o true;
  filter = option_map place_of (cond (is_allowed (access_by fallback o)) filters None);
  mask = option_map place_of (cond (is_allowed (access_by fallback o)) (option_and_then unless_no_mask masks) None);
}

verdict_marked : (fallback : Bool) (d : Option (ℕ × Policy)) (filters masks : Option Choice) → verdict_of (outcome_from fallback d filters masks) ≡ verdict_by fallback (option_map mark d) filters masks
verdict_marked fallback None filters masks = refl
verdict_marked fallback (Some d) filters masks = refl

verdict_alike : (fallback : Bool) (b d : Best) → Alike b d → verdict_of (outcome_by fallback b) ≡ verdict_of (outcome_by fallback d)
verdict_alike fallback b d al =
    verdict_marked fallback b.decider b.filter b.mask
    ∙ (λ i. verdict_by fallback (al.decides i) (al.filters i) (al.masks i))
    ∙ sym (verdict_marked fallback d.decider d.filter d.mask)

pub same_verdict : (fallback : Bool) (s : Setting) (cs ds : List Candidate) → Alike (after All s cs none_yet) (after All s ds none_yet)
    → verdict_of (outcome_of fallback s cs) ≡ verdict_of (outcome_of fallback s ds)
same_verdict fallback s cs ds al =
    ap verdict_of (sym (by_asking fallback s cs)) ∙ verdict_alike fallback (after All s cs none_yet) (after All s ds none_yet) al ∙ ap verdict_of (by_asking fallback s ds)

-- ---- one more is asked

better_mark : (o e : Option (ℕ × Policy)) → option_map mark (better_of ranks_before o e) ≡ better_of marks_before (option_map mark o) (option_map mark e)
better_mark o None = refl
better_mark None (Some x) = refl
better_mark (Some b) (Some x) = case (λ v. Some (mark (cond v x b)) ≡ Some (cond v (mark x) (mark b))) (ranks_before x b) (λ _. refl) (λ _. refl)

module _ (s : Setting) where
  -- the same one
  pub same_asked : (c : Candidate) (b d : Best) → Alike b d → Alike (asked All s b c) (asked All s d c)
  same_asked c b d al = record {
    decides = better_mark b.decider (ranked s c) ∙ ap (λ o. better_of marks_before o (option_map mark (ranked s c))) al.decides ∙ sym (better_mark d.decider (ranked s c));
    filters = λ i. (choices_asked s (record { decider = b.decider; filter = al.filters i; mask = al.masks i }) c).filter;
    masks = λ i. (choices_asked s (record { decider = b.decider; filter = al.filters i; mask = al.masks i }) c).mask;
  }

  -- two access policies that stand alike
  pub other_asked : (c e : Candidate) → option_map mark (ranked s c) ≡ option_map mark (ranked s e) → int_eq c.source.policy.policy_type access_policy ≡ true
      → int_eq e.source.policy.policy_type access_policy ≡ true → (b d : Best) → Alike b d → Alike (asked All s b c) (asked All s d e)
  other_asked c e ranks tc te b d al = record {
    decides = better_mark b.decider (ranked s c) ∙ (λ i. better_of marks_before (al.decides i) (ranks i)) ∙ sym (better_mark d.decider (ranked s e));
    filters = (λ i. better_of goes_before (al.filters i) (access_alone_filter s c tc i)) ∙ (λ i. better_of goes_before d.filter (sym (access_alone_filter s e te) i));
    masks = (λ i. better_of goes_before (al.masks i) (access_alone_mask s c tc i)) ∙ (λ i. better_of goes_before d.mask (sym (access_alone_mask s e te) i));
  }

  joined : (xs ys us vs : List Candidate) (b d : Best) → Alike (after All s ys (after All s xs b)) (after All s vs (after All s us d)) → Alike (after All s (xs ++ ys) b) (after All s (us ++ vs) d)
  joined xs ys us vs b d al =
      subst (λ (e : Best). Alike e (after All s (us ++ vs) d)) (sym (fold-append (asked All s) b xs ys))
      (subst (λ (e : Best). Alike (after All s ys (after All s xs b)) e) (sym (fold-append (asked All s) d us vs)) al)

  module _ (frame : Frame) (h : Policy → Policy) where
    -- each policy of the list may stand for what h makes of it
    abbrev pub Agrees : List Policy → Type 0
    Agrees ps = (side : Side) (tag : Option Tag) (p : Policy) → Contains ps p → (b d : Best) → Alike b d → Alike (asked All s b (candidate frame side tag (h p))) (asked All s d (candidate frame side tag p))

    asked_once : (side : Side) (tag : Option Tag) (ps : List Policy) → Agrees ps → (b d : Best) → Alike b d
        → Alike (after All s (map (candidate frame side tag) (map h ps)) b) (after All s (map (candidate frame side tag) ps) d)
    asked_once side tag [] agrees b d al = al
    asked_once side tag (p ∷ ps) agrees b d al =
        asked_once side tag ps (λ other mark q there. agrees other mark q (Contains-later p ps q there))
        (asked All s b (candidate frame side tag (h p))) (asked All s d (candidate frame side tag p)) (agrees side tag p (Contains-first p ps) b d al)

    asked_each : (tags : List Tag) (ps : List Policy) → Agrees ps → (b d : Best) → Alike b d
        → Alike (after All s (flat_map (λ tag. map (candidate frame Tagged (Some tag)) (map h ps)) tags) b) (after All s (flat_map (λ tag. map (candidate frame Tagged (Some tag)) ps) tags) d)
    asked_each [] ps agrees b d al = al
    asked_each (tag ∷ tags) ps agrees b d al =
        let these = map (candidate frame Tagged (Some tag)) (map h ps) in
        let those = map (candidate frame Tagged (Some tag)) ps in
        joined these (flat_map (λ t. map (candidate frame Tagged (Some t)) (map h ps)) tags) those (flat_map (λ t. map (candidate frame Tagged (Some t)) ps) tags) b d
        (asked_each tags ps agrees (after All s these b) (after All s those d) (asked_once Tagged (Some tag) ps agrees b d al))

    pub asked_all : (tags : List Tag) (tag_policies policies : List Policy) → Agrees tag_policies → Agrees policies
        → Alike (after All s (flat_map (λ tag. map (candidate frame Tagged (Some tag)) (map h tag_policies)) tags ++ map (candidate frame Resource None) (map h policies)) none_yet)
        (after All s (flat_map (λ tag. map (candidate frame Tagged (Some tag)) tag_policies) tags ++ map (candidate frame Resource None) policies) none_yet)
    asked_all tags tag_policies policies tagged own =
        let these = flat_map (λ tag. map (candidate frame Tagged (Some tag)) (map h tag_policies)) tags in
        let those = flat_map (λ tag. map (candidate frame Tagged (Some tag)) tag_policies) tags in
        let begun : Alike none_yet none_yet = record { decides = refl; filters = refl; masks = refl } in
        joined these (map (candidate frame Resource None) (map h policies)) those (map (candidate frame Resource None) policies) none_yet none_yet
        (asked_once Resource None policies own (after All s these none_yet) (after All s those none_yet) (asked_each tags tag_policies tagged none_yet none_yet begun))

-- ---- a grant once more

module _ (g : GrantRow) (p : Policy) (version : Version) where
  abbrev pub later : Policy
  later = record (granted_form g p) { version = version }

  pub later_type : int_eq p.policy_type access_policy ≡ true → int_eq later.policy_type access_policy ≡ true
  unfolding granted_form
  later_type h = h

  version_aside : (frame : Frame) (side : Side) (c : Context) → access_of frame side c later ≡ access_of frame side c (granted_form g p)
  unfolding access_of effect_of
  version_aside frame side c =
      let r = granted_form g p in λ i.
      cond (r.enabled && (is_scheduled (is_valid frame c) r.schedules.items && (lies_by_maps frame c later r refl side i && all_hold frame side c r.conditions.items)))
      (effect_of frame side c r) Nothing

  by_cell : (o : Option ℕ) → option_map mark (option_map (λ n. let r : ℕ × Policy = (n, later) in r) o) ≡ option_map mark (option_map (λ n. let r : ℕ × Policy = (n, p) in r) o)
  unfolding granted_form
  by_cell None = refl
  by_cell (Some n) = refl

  module _ (again : (frame : Frame) (side : Side) (c : Context) → access_of frame side c (granted_form g p) ≡ access_of frame side c p) where
    same_cell : (s : Setting) (frame : Frame) (side : Side) (tag : Option Tag) → cell_at s (candidate frame side tag later) ≡ cell_at s (candidate frame side tag p)
    unfolding given granted_form
    same_cell s frame side tag =
        let c : Candidate = candidate frame side tag p in
        let same = version_aside frame side (context_of s c) ∙ again frame side (context_of s c) in
        λ i. cell_of p.priority side (cond (int_eq p.policy_type access_policy && is_chosen s c) (same i) Nothing)

    pub ranked_alike : (s : Setting) (frame : Frame) (side : Side) (tag : Option Tag) → option_map mark (ranked s (candidate frame side tag later)) ≡ option_map mark (ranked s (candidate frame side tag p))
    unfolding ranked
    ranked_alike s frame side tag =
        by_cell (cell_at s (candidate frame side tag later))
        ∙ ap (λ o. option_map mark (option_map (λ n. let r : ℕ × Policy = (n, p) in r) o)) (same_cell s frame side tag)
