-- What passes over candidates find.
use Rattle.std.proofs.Common.{◌≡◌, ◌++◌, ℕ, Bool, false, cond, List, [], ◌∷◌, Option, Some, None, refl, ap, sym, ◌∙◌}
use Rattle.std.specs.List.{cons_option, filter_map, flat_map}
use Rattle.std.specs.Prelude.{option_and_then}
use Rattle.rg_policy.specs.declared.policy.Policy.{Policy}
use Rattle.rg_policy.specs.declared.request.AccessRequest.{AccessRequest}
use Rattle.rg_facts.specs.Best.{Best, access_asked, after, asked, best_from, better_of, choices_asked, none_yet, outcome_by, ranked, ranks_before}
use Rattle.rg_facts.specs.Candidates.{Candidate, Setting, candidates, resource_candidates, setting_of, tag_candidates, tags_of}
use Rattle.rg_facts.specs.Choices.{Choice, goes_before, offered, unless_no_mask}
use Rattle.rg_facts.specs.Firsts.{first_by}
use Rattle.rg_facts.specs.Flow.{access_in, decider, is_allowed, outcome, outcome_from, outcome_of}
use Rattle.rg_facts.specs.declared.best.Pass.{Pass}
use Rattle.rg_facts.specs.declared.best.Pass.TheVariants.{Access, Choices, All}
use Rattle.rg_facts.specs.declared.choice.Kind.TheVariants.{Mask, Filter}
use Rattle.rg_facts.specs.declared.facts.Facts.{Facts}
use Rattle.rg_facts.proofs.Cells.{decider_is}
use Rattle.rg_facts.proofs.Least.{best_from_none, best_of_both, by_place, by_rank}

-- the best after one more, if there is one, and then others
better_next : {X : Type 0} (before : X → X → Bool) (best o : Option X) (xs : List X) → best_from before (better_of before best o) xs ≡ best_from before best (cons_option o xs)
better_next before best None xs = refl
better_next before best (Some x) xs = refl

pub after_access : (s : Setting) (cs : List Candidate) (b : Best) → after Access s cs b ≡ record { decider = best_from ranks_before b.decider (filter_map (ranked s) cs); filter = b.filter; mask = b.mask }
after_access s [] b = refl
after_access s (c ∷ cs) b =
    after_access s cs (access_asked s b c)
    ∙ (λ i. record { decider = better_next ranks_before b.decider (ranked s c) (filter_map (ranked s) cs) i; filter = b.filter; mask = b.mask })

pub after_choices : (s : Setting) (cs : List Candidate) (b : Best) → after Choices s cs b
    ≡ record { decider = b.decider; filter = best_from goes_before b.filter (filter_map (offered s Filter) cs); mask = best_from goes_before b.mask (filter_map (offered s Mask) cs) }
after_choices s [] b = refl
after_choices s (c ∷ cs) b =
    after_choices s cs (choices_asked s b c)
    ∙ (λ i. record {
      decider = b.decider;
      filter = better_next goes_before b.filter (offered s Filter c) (filter_map (offered s Filter) cs) i;
      mask = better_next goes_before b.mask (offered s Mask c) (filter_map (offered s Mask) cs) i;
    })

pub after_all : (s : Setting) (cs : List Candidate) (b : Best) → after All s cs b
    ≡ record {
      decider = best_from ranks_before b.decider (filter_map (ranked s) cs);
      filter = best_from goes_before b.filter (filter_map (offered s Filter) cs);
      mask = best_from goes_before b.mask (filter_map (offered s Mask) cs);
    }
after_all s [] b = refl
after_all s (c ∷ cs) b =
    after_all s cs (asked All s b c)
    ∙ (λ i. record {
      decider = better_next ranks_before b.decider (ranked s c) (filter_map (ranked s) cs) i;
      filter = better_next goes_before b.filter (offered s Filter c) (filter_map (offered s Filter) cs) i;
      mask = better_next goes_before b.mask (offered s Mask c) (filter_map (offered s Mask) cs) i;
    })

-- one pass over two lists, one after the other
pub after_both : (pass : Pass) (s : Setting) (xs ys : List Candidate) (b : Best) → after pass s (xs ++ ys) b ≡ after pass s ys (after pass s xs b)
after_both pass s [] ys b = refl
after_both pass s (x ∷ xs) ys b = after_both pass s xs ys (asked pass s b x)

one_more : {Y : Type 0} (o : Option Y) (zs xs ys : List Y) → zs ≡ xs ++ ys → cons_option o zs ≡ cons_option o xs ++ ys
one_more None zs xs ys e = e
one_more (Some y) zs xs ys e = ap (λ rest. y ∷ rest) e

pub ruleset passes = (after_both)

pub mapped_both : {X Y : Type 0} (f : X → Option Y) (xs ys : List X) → filter_map f (xs ++ ys) ≡ filter_map f xs ++ filter_map f ys
mapped_both f [] ys = refl
mapped_both f (x ∷ xs) ys = one_more (f x) _ _ _ (mapped_both f xs ys)

-- the first of what two lists give is the best of the second, from the best of the first
first_of_both : {X Y : Type 0} (before : Y → Y → Bool) (f : X → Option Y) (xs ys : List X)
    → ((zs : List Y) → best_from before None zs ≡ first_by before zs)
    → first_by before (filter_map f (xs ++ ys)) ≡ best_from before (best_from before None (filter_map f xs)) (filter_map f ys)
first_of_both before f xs ys firsts =
    ap (first_by before) (mapped_both f xs ys)
    ∙ sym (firsts (filter_map f xs ++ filter_map f ys))
    ∙ best_of_both before None (filter_map f xs) (filter_map f ys)

-- what candidates give, as the best of two lists
by_bests : (fallback : Bool) (s : Setting) (xs ys : List Candidate) → outcome_of fallback s (xs ++ ys)
    ≡ outcome_by fallback (after Choices s ys (after Access s ys (after All s xs none_yet)))
unfolding outcome_of
by_bests fallback s xs ys =
    (λ i. outcome_from fallback
    ((decider_is s (xs ++ ys) ∙ first_of_both ranks_before (ranked s) xs ys (best_from_none ranks_before by_rank)) i)
    (first_of_both goes_before (offered s Filter) xs ys (best_from_none goes_before by_place) i)
    (first_of_both goes_before (offered s Mask) xs ys (best_from_none goes_before by_place) i))
    ∙ sym (λ i. outcome_by fallback (found i))
  where
    found : after Choices s ys (after Access s ys (after All s xs none_yet)) ≡ record {
      decider = best_from ranks_before (best_from ranks_before None (filter_map (ranked s) xs)) (filter_map (ranked s) ys);
      filter = best_from goes_before (best_from goes_before None (filter_map (offered s Filter) xs)) (filter_map (offered s Filter) ys);
      mask = best_from goes_before (best_from goes_before None (filter_map (offered s Mask) xs)) (filter_map (offered s Mask) ys);
    }
    found =
        ap (λ b. after Choices s ys (after Access s ys b)) (after_all s xs none_yet)
        ∙ ap (after Choices s ys) (after_access s ys _)
        ∙ after_choices s ys _

-- where access isn't allowed the choices play no part
pub denied : (fallback : Bool) (d : Option (ℕ × Policy)) (f m g n : Option Choice) → is_allowed (access_in fallback d) ≡ false → outcome_from fallback d f m ≡ outcome_from fallback d g n
denied fallback d f m g n h = λ i. record {
  access = access_in fallback d;
  policy = (outcome_from fallback d f m).policy;
  filter = (ap (λ v. cond v f None) h ∙ sym (ap (λ v. cond v g None) h)) i;
  mask = (ap (λ v. cond v (option_and_then unless_no_mask m) None) h ∙ sym (ap (λ v. cond v (option_and_then unless_no_mask n) None) h)) i;
}

-- what a request gets, where the choices of resource policies were asked
pub outcome_found : (facts : Facts) (q : AccessRequest) → let s = setting_of facts q in
    outcome facts q ≡ outcome_by facts.fallback (after Choices s (resource_candidates facts) (after Access s (resource_candidates facts) (after All s (flat_map (tag_candidates facts) (tags_of facts q)) none_yet)))
outcome_found facts q = by_bests facts.fallback (setting_of facts q) (flat_map (tag_candidates facts) (tags_of facts q)) (resource_candidates facts)

-- and where they weren't, since access isn't allowed
pub outcome_denied : (facts : Facts) (q : AccessRequest) (b : Best) → let s = setting_of facts q in
    b ≡ after Access s (resource_candidates facts) (after All s (flat_map (tag_candidates facts) (tags_of facts q)) none_yet)
    → is_allowed (access_in facts.fallback b.decider) ≡ false → outcome facts q ≡ outcome_by facts.fallback b
outcome_denied facts q b is h =
    let s = setting_of facts q in
    outcome_found facts q
    ∙ ap (λ x. outcome_by facts.fallback (after Choices s (resource_candidates facts) x)) (sym is)
    ∙ ap (outcome_by facts.fallback) (after_choices s (resource_candidates facts) b)
    ∙ denied facts.fallback b.decider (best_from goes_before b.filter (filter_map (offered s Filter) (resource_candidates facts)))
    (best_from goes_before b.mask (filter_map (offered s Mask) (resource_candidates facts))) b.filter b.mask h

pub ruleset outcomes = (outcome_found, outcome_denied)
