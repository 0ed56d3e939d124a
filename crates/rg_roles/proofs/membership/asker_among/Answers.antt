use Rattle.std.proofs.Common.{Bool, ℕ, sym, ◌∙◌}
use Rattle.std.specs.Str.{chars}
use Rattle.rg_roles.specs.Members.{names_asker, passes_at}
use Rattle.rg_roles.proofs.Sets.{none_below_zero, word_found, word_none, word_zero}
use Rattle.rg_roles.proofs.membership.asker_among.Goals as goal
use Rattle.rg_roles.proofs.membership.asker_among.Goals.{else-word-ne0-via-then-word-ne0+else-asker_in_word, else-word-ne0-via-else-word-ne0}

pub loop-at-init : goal.loop-at-init
loop-at-init c = none_below_zero _

pub returns-then-asker_in_word : goal.returns-then-asker_in_word
returns-then-asker_in_word c =
    let asked : ℕ → Bool = passes_at (names_asker (chars c.args.user.now) c.args.groups.now) c.args.rows.now in
    sym (word_found c.args.words.now asked c.loop-at.at c.loop-at-test.true (sym c.asker_in_word.ensures ∙ c.if-asker_in_word.true))

pub loop-at-preserved : goal.loop-at-preserved
loop-at-preserved c =
    let words = c.args.words.now in
    let at = c.loop-at.at in
    let asked : ℕ → Bool = passes_at (names_asker (chars c.args.user.now) c.args.groups.now) c.args.rows.now in
    word_none words asked at c.loop-at.invariant (elim c.else-word-ne0.branch [
      | else-word-ne0-via-then-word-ne0+else-asker_in_word w ↦ sym w.asker_in_word.ensures ∙ w.if-asker_in_word.false
      | else-word-ne0-via-else-word-ne0 w ↦ word_zero words asked at w.if-word-ne0.false
    ])
