use Rattle.std.proofs.Common.{◌≡◌, Bool, true, false, List, ◌++◌, sym, ap, ◌∙◌, subst}
use Rattle.std.proofs.lemmas.List.{append_assoc}
use Rattle.std.proofs.lemmas.List.Elements.{All-append}
use Rattle.std.specs.List.{All}
use Rattle.rg_trie.specs.Pairs.{Below, folded}
use Rattle.std.specs.Str.{chars}
use Rattle.rg_trie.specs.Sought.{before}
use Rattle.rg_trie.specs.Blocks.{IsRising, pairs_of}
use Rattle.rg_trie.specs.declared.pair.Pair.{Pair}
use Rattle.rg_trie.proofs.Orders.{before_early}
use Rattle.rg_trie.proofs.Rise.{all_pass, fails_on, rising_left, rising_rest, rising_right, stops_within}
use Rattle.rg_trie.proofs.walk.advance.Goals as goal

pub find-cut-requires : goal.find-cut-requires
find-cut-requires c = record { ordered = rising_right Below c.args.back.now (pairs_of c.args.after.now) c.requires.rising; sized = c.requires.sized; counted = c.requires.counted }

pub returns-then-ends_before-clause-passed : goal.returns-then-ends_before-clause-passed
returns-then-ends_before-clause-passed c =
    let test : Pair → Bool = before (folded c.args.fold (chars c.args.text.now)) c.args.mark in
    let cut = c.find-cut.result in
    let gone : List Pair = pairs_of cut.before.now ++ cut.front.now in
    let rising = rising_left Below c.args.back.now (pairs_of c.args.after.now) c.requires.rising in (
      c.args.back.now ++ gone,
      ap (λ xs. c.args.back.now ++ xs) c.find-cut.ensures.whole ∙ sym (append_assoc c.args.back.now gone (cut.back.now ++ pairs_of cut.after.now)),
      All-append (λ p. test p ≡ true) c.args.back.now gone (all_pass Below test (before_early _ c.args.mark) c.args.back.now rising (sym c.if-ends_before.ensures)) c.find-cut.ensures.passed,
    )

pub returns-then-ends_before-clause-walking : goal.returns-then-ends_before-clause-walking
returns-then-ends_before-clause-walking c =
    let cut = c.find-cut.result in
    let later = rising_right Below c.args.back.now (pairs_of c.args.after.now) c.requires.rising in
    record {
      rising = rising_right Below (pairs_of cut.before.now ++ cut.front.now) (cut.back.now ++ pairs_of cut.after.now) (subst (IsRising Below) c.find-cut.ensures.whole later);
      sized = c.find-cut.ensures.sized.1;
      counted = c.find-cut.ensures.counted;
    }

pub place_of-place-requires : goal.place_of-place-requires
place_of-place-requires c = rising_left Below c.args.back.now (pairs_of c.args.after.now) c.requires.rising

pub returns-clause-left : goal.returns-clause-left
returns-clause-left c =
    let test : Pair → Bool = before (folded c.args.fold (chars c.args.text.now)) c.args.mark in
    let inside = stops_within Below test (before_early _ c.args.mark) c.args.back.now c.place_of-place.result (sym c.if-ends_before.ensures) c.place_of-place.ensures.bound c.place_of-place.ensures.passed in
    subst (λ xs. All (λ p. test p ≡ false) (xs ++ pairs_of c.args.after.now)) (sym c.split_at.ensures.back)
    (fails_on Below test (before_early _ c.args.mark) c.args.back.now (pairs_of c.args.after.now) c.place_of-place.result inside c.requires.rising c.place_of-place.ensures.left)

pub returns-clause-walking : goal.returns-clause-walking
returns-clause-walking c = record {
  rising = subst (λ xs. IsRising Below (xs ++ pairs_of c.args.after.now)) (sym c.split_at.ensures.back)
      (rising_rest Below c.args.back.now (pairs_of c.args.after.now) c.place_of-place.result c.requires.rising);
  sized = c.requires.sized;
  counted = c.requires.counted;
}
