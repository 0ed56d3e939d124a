-- Policies of one type give nothing of another.
use Rattle.std.proofs.Common.{◌≡◌, ◌&&◌, ℕ, ℤ, pos, true, false, cond, None, ap, ◌∙◌, arith}
use Rattle.std.proofs.lemmas.Int.{ints}
use Rattle.std.specs.Ordering.{int_eq}
use Rattle.std.specs.Prelude.{option_map}
use Rattle.rg_policy.specs.declared.policy.Policy.{Policy}
use Rattle.rg_evalr.specs.Effects.{access_of, item_of}
use Rattle.rg_evalr.specs.declared.frame.Effect.TheVariants.{Nothing}
use Rattle.rg_facts.specs.Best.{ranked}
use Rattle.rg_facts.specs.Candidates.{Candidate, Setting, context_of, is_chosen}
use Rattle.rg_facts.specs.Choices.{Choice, items_of, offered, type_of}
use Rattle.rg_facts.specs.Flow.{cell_of, given}
use Rattle.rg_facts.specs.declared.choice.Kind.{Kind}
use Rattle.rg_facts.specs.declared.choice.Kind.TheVariants.{Mask, Filter}
use Rattle.rg_facts.proofs.Taking.{no_cell}

other_offers : (s : Setting) (kind : Kind) (c : Candidate) → int_eq c.source.policy.policy_type (type_of kind) ≡ false → offered s kind c ≡ None
unfolding offered
other_offers s kind c h = ap (λ b. cond (b && is_chosen s c)
    (option_map (λ place. let x : Choice = record { policy = c.source.policy; side = c.source.side; place = place } in x)
    (item_of c.source.frame c.source.side (context_of s c) c.source.policy (items_of kind c.source.policy))) None) h

two_types : (x : ℤ) → int_eq x (pos 2) ≡ true → int_eq x (pos 1) ≡ false
two_types x h = grind (arith, ints)

no_type : (x : ℤ) → int_eq x (pos 0) ≡ true → (int_eq x (pos 1) ≡ false) × (int_eq x (pos 2) ≡ false)
no_type x h = (grind (arith, ints), grind (arith, ints))

-- a policy that filters rows masks nothing
pub filters_alone : (s : Setting) (c : Candidate) → int_eq c.source.policy.policy_type (pos 2) ≡ true → offered s Mask c ≡ None
filters_alone s c h = other_offers s Mask c (two_types c.source.policy.policy_type h)

-- any other filters none
pub no_filter : (s : Setting) (c : Candidate) → int_eq c.source.policy.policy_type (pos 2) ≡ false → offered s Filter c ≡ None
no_filter s c h = other_offers s Filter c h

-- an access policy offers nothing
pub access_alone_mask : (s : Setting) (c : Candidate) → int_eq c.source.policy.policy_type (pos 0) ≡ true → offered s Mask c ≡ None
access_alone_mask s c h = other_offers s Mask c (no_type c.source.policy.policy_type h).0

pub access_alone_filter : (s : Setting) (c : Candidate) → int_eq c.source.policy.policy_type (pos 0) ≡ true → offered s Filter c ≡ None
access_alone_filter s c h = other_offers s Filter c (no_type c.source.policy.policy_type h).1

-- any other stands in no cell
pub no_access : (s : Setting) (c : Candidate) → int_eq c.source.policy.policy_type (pos 0) ≡ false → ranked s c ≡ None
unfolding ranked given
no_access s c h =
    ap (λ e. option_map (λ n. let r : ℕ × Policy = (n, c.source.policy) in r) (cell_of c.source.policy.priority c.source.side e))
    (ap (λ b. cond (b && is_chosen s c) (access_of c.source.frame c.source.side (context_of s c) c.source.policy) Nothing) h)
    ∙ ap (option_map (λ n. let r : ℕ × Policy = (n, c.source.policy) in r)) (no_cell c.source.policy.priority c.source.side)

pub ruleset types = (filters_alone, no_filter, access_alone_mask, access_alone_filter, no_access)
