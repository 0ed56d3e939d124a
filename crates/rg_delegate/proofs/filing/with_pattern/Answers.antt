use Rattle.std.proofs.Common.{ℕ, List, pos, ap, sym, ◌∙◌, inl, inr}
use Rattle.rg_trie.specs.declared.pair.Pair.{Pair}
use Rattle.rg_delegate.specs.Filing.{filed_at}
use Rattle.rg_delegate.proofs.filing.with_pattern.Goals as goal

pub returns-clause-kept : goal.returns-clause-kept
returns-clause-kept c = λ p h. (c.in_ok-filed.ensures.holds p).1 (inr h)

abbrev keyed : ℕ → List ℕ → Pair
keyed place key = record { key = key; entry = record { id = pos 0; place = place } }

pub returns-clause-filed : goal.returns-clause-filed
returns-clause-filed c =
    (c.in_ok-filed.ensures.holds (filed_at c.args.fold c.args.pattern.now c.args.place)).1
    (inl (ap (keyed c.args.place) (sym (c.as_str.ensures.read ∙ c.in_ok-key.ensures))))
