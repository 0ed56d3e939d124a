-- The order of pairs is an order, and what comes before a mark is an early part.
use Rattle.std.proofs.Common.{◌≡◌, ℕ, Bool, true, false, not, List, refl, ap, ◌∙◌}
use Rattle.std.specs.declared.cmp.Ordering.{Ordering}
use Rattle.std.specs.declared.cmp.Ordering.TheVariants.{Less, Equal, Greater}
use Rattle.std.specs.Cmp.{IsTotalOrder}
use Rattle.std.specs.Cmp.Lexicographic.{slice_cmp}
use Rattle.std.specs.FinMap.{slice_cmp-IsAntisymmetric, nat_cmp-IsAntisymmetric, int_cmp-IsAntisymmetric}
use Rattle.std.specs.Ordering.{nat_cmp, int_cmp, ordering_then, is_lt, is_eq, is_gt}
use Rattle.std.proofs.lemmas.List.{map-id}
use Rattle.std.proofs.lemmas.Cmp.{nat_list_cmp_total, nat_cmp_total, int_cmp_total, on_total, then_total, upto}
use Rattle.rg_trie.specs.declared.order.Mark.{Mark}
use Rattle.rg_trie.specs.declared.order.Mark.TheVariants.{Start, At, End}
use Rattle.rg_trie.specs.declared.pair.Filed.{Filed}
use Rattle.rg_trie.specs.declared.pair.Pair.{Pair}
use Rattle.rg_trie.specs.Pairs.{Below, entry_order, folded, pair_order}
use Rattle.rg_trie.specs.Sought.{before}

pub entry_total : IsTotalOrder entry_order
entry_total = then_total (on_total (λ (e : Filed). e.id) int_cmp_total) (on_total (λ (e : Filed). e.place) nat_cmp_total)

pub pair_total : IsTotalOrder pair_order
pair_total = then_total (on_total (λ (p : Pair). p.key) nat_list_cmp_total) (on_total (λ (p : Pair). p.entry) entry_total)

pub less_from_lt : (o : Ordering) → is_lt o ≡ true → o ≡ Less
less_from_lt Less e = refl
less_from_lt Equal e = cc
less_from_lt Greater e = cc

pub equal_from_eq : (o : Ordering) → is_eq o ≡ true → o ≡ Equal
equal_from_eq Less e = cc
equal_from_eq Equal e = refl
equal_from_eq Greater e = cc

-- two comparisons of which the first decides before the second both tie where the two together do
both_tie : (o s : Ordering) → ordering_then o s ≡ Equal → (o ≡ Equal) × (s ≡ Equal)
both_tie Less s e = cc
both_tie Equal s e = (refl, e)
both_tie Greater s e = cc

-- keys that tie are the same
pub same_key : (p q : List ℕ) → slice_cmp nat_cmp p q ≡ Equal → p ≡ q
same_key p q e = slice_cmp-IsAntisymmetric nat_cmp-IsAntisymmetric p q e

-- characters that tie are the same
pub same_character : (c d : ℕ) → nat_cmp c d ≡ Equal → c ≡ d
same_character c d e = nat_cmp-IsAntisymmetric c d e

-- entries that tie are the same
pub same_entry : (a b : Filed) → entry_order a b ≡ Equal → a ≡ b
same_entry a b e =
    let parts = both_tie (int_cmp a.id b.id) (nat_cmp a.place b.place) e in
    λ i. record { id = int_cmp-IsAntisymmetric a.id b.id parts.0 i; place = nat_cmp-IsAntisymmetric a.place b.place parts.1 i }

-- pairs that tie are the same
pub same_pair : (p q : Pair) → pair_order p q ≡ Equal → p ≡ q
same_pair p q e =
    let parts = both_tie (slice_cmp nat_cmp p.key q.key) (entry_order p.entry q.entry) e in
    λ i. record { key = same_key p.key q.key parts.0 i; entry = same_entry p.entry q.entry parts.1 i }

-- a text of which the key is below or the same as one that is below
key_below : (p q r : List ℕ) (o : Ordering) (s : Ordering) → slice_cmp nat_cmp p q ≡ o → ordering_then o s ≡ Less → slice_cmp nat_cmp q r ≡ Less → slice_cmp nat_cmp p r ≡ Less
key_below p q r Less s e h l = nat_list_cmp_total.trans p q r e l
key_below p q r Equal s e h l = nat_list_cmp_total.congr p q r e ∙ l
key_below p q r Greater s e h l = cc

pub not_from : {b : Bool} → b ≡ false → not b ≡ true
not_from e = ap not e

pub from_not : (b : Bool) → not b ≡ true → b ≡ false
from_not true e = cc
from_not false e = refl

-- the key of a pair that comes before another isn't the greater one
pub not_greater : (p q : Pair) → Below p q → is_gt (slice_cmp nat_cmp p.key q.key) ≡ false
not_greater p q b = by_case (slice_cmp nat_cmp p.key q.key) b where
  by_case : (o : Ordering) → ordering_then o (entry_order p.entry q.entry) ≡ Less → is_gt o ≡ false
  by_case Less h = refl
  by_case Equal h = refl
  by_case Greater h = cc

-- what comes before a mark is an early part of any list that rises
pub before_early : (text : List ℕ) (mark : Mark) (p q : Pair) → Below p q → before text mark q ≡ true → before text mark p ≡ true
before_early text Start p q b t = ap is_lt (key_below p.key q.key text _ _ refl b (less_from_lt _ t))
before_early text End p q b t = not_from (upto nat_list_cmp_total p.key q.key text (not_greater p q b) (from_not _ t))
before_early text (At e) p q b t = ap is_lt (pair_total.trans p q (record { key = text; entry = e }) b (less_from_lt _ t))

-- nothing is folded where that isn't asked
pub folded_off : (text : List ℕ) → folded false text ≡ text
folded_off text = map-id text

pub ruleset foldings = (folded_off)
