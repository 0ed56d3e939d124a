-- Faults of a framer as those of a session, and the statuses of bad places.
use Rattle.std.proofs.Common.{◌≡◌, ◌≤◌, ◌<◌, inl, inr, ℕ, sym, subst, arith}
use Rattle.http.specs.StatusCode.{IsStatusCode}
use Rattle.rg_http.specs.Answers.{Counts as FrameCounts, IsRefusal}
use Rattle.rg_http.specs.declared.message.FrameFault.{FrameFault}
use Rattle.rg_http.specs.declared.message.FrameFault.TheVariants as frame
use Rattle.rg_link.specs.declared.report.LinkFault.{LinkFault}
use Rattle.rg_link.specs.Sessions.{Counts, IsFault}

pub counts_as : (f : FrameFault) (l : LinkFault) (before after : ℕ) → IsFault f l → FrameCounts f before after → Counts l before after
counts_as frame.Failed l before after e x = subst (λ k. Counts k before after) (sym e) x
counts_as frame.NoMemory l before after e x = subst (λ k. Counts k before after) (sym e) x

code_at : (s n : ℕ) → s ≡ n → 100 ≤ n → n < 1000 → IsStatusCode s
code_at s n e low high = (omega (arith, e, low), omega (arith, e, high))

pub refusal_code : (s : ℕ) → IsRefusal s → IsStatusCode s
refusal_code s (inl e) = code_at s 400 e (omega arith) (omega arith)
refusal_code s (inr (inl e)) = code_at s 411 e (omega arith) (omega arith)
refusal_code s (inr (inr (inl e))) = code_at s 413 e (omega arith) (omega arith)
refusal_code s (inr (inr (inr (inl e)))) = code_at s 431 e (omega arith) (omega arith)
refusal_code s (inr (inr (inr (inr e)))) = code_at s 501 e (omega arith) (omega arith)

-- what a link's count did in a call and before it
pub counts_after : (l : LinkFault) (first before after : ℕ) → before ≡ first → Counts l before after → Counts l first after
counts_after l first before after e x = subst (λ k. Counts l k after) e x
