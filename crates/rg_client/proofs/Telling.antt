-- No byte that is read is lost on the way to a reply.
use Rattle.std.proofs.Common.{◌≡◌, ◌≤◌, ◌<◌, ◌+◌, ℕ, List, ◌++◌, length, take, drop, Option, Result, Ok, Err, MatchResult, sym, ap, ◌∙◌, subst, append_assoc}
use Rattle.rg_base.specs.Listed.{listed}
use Rattle.rg_http.specs.declared.message.Response.{Response}
use Rattle.rg_http.specs.Places.{Took, Fills}
use Rattle.rg_http.proofs.Sparing.{read_more}
use Rattle.rg_client.specs.declared.fault.ClientFault.{ClientFault}
use Rattle.rg_client.specs.declared.fault.ClientFault.TheVariants.{Failed, Ended, Unreadable, NoMemory}
use Rattle.rg_client.specs.declared.heads.Begun.{Begun}
use Rattle.rg_client.specs.Places.{Begins, Grows, Lacks, Told}
use Rattle.rg_client.specs.Replies.{HasNone, HasReply, IsUnfinished, Leaves}
use Rattle.rg_client.proofs.Finishing.{begins_more, body_unfinished, reply_came}

pub grows_more : (before middle after : Option (List ℕ)) (old held new : List ℕ) → Grows before middle old held → Took middle after held new
    → Grows before after old new
grows_more before middle after old held new g t =
    (g.0 ++ t.0, read_more before middle after g.0 t.0 g.1 t.1, t.2 ∙ (ap (λ xs. xs ++ t.0) g.2 ∙ append_assoc old g.0 t.0))

leaves : (bytes kept : List ℕ) (f : ClientFault) → kept ≡ bytes → Lacks kept f → Leaves bytes f kept
leaves bytes kept Failed e x = e
leaves bytes kept Ended e x = (subst IsUnfinished e x, e)
leaves bytes kept Unreadable e x = (subst HasNone e x, e)
leaves bytes kept NoMemory e x = e

-- a fault where a head or a body is awaited
pub told_fault : (before after : Option (List ℕ)) (old held : List ℕ) (f : ClientFault) → Grows before after old held → Lacks held f
    → Told before after old (Err f) held
told_fault before after old held f g x = (g.0, g.1, leaves (old ++ g.0) held f g.2 x)

-- what is told after more was read
pub told_after : (before middle after : Option (List ℕ)) (old held new : List ℕ) (result : Result Response ClientFault) → Grows before middle old held
    → Told middle after held result new → Told before after old result new
told_after before middle after old held new result g y = (
  g.0 ++ y.0,
  read_more before middle after g.0 y.0 g.1 y.1,
  subst (λ xs. MatchResult result (λ r. HasReply xs r new) (λ f. Leaves xs f new)) (ap (λ xs. xs ++ y.0) g.2 ∙ append_assoc old g.0 y.0) y.2,
)

-- ---- the body

module _ (before after : Option (List ℕ)) (old new : List ℕ) (b : Begun) (x : Begins old b) (f : Fills (b.len + b.body) before after old new) where
  grown : Grows before after old new
  grown = (f.0, f.1, f.2)

  begins : Begins new b
  begins = subst (λ xs. Begins xs b) (sym f.2) (begins_more old f.0 b x)

  pub finished_short : length new < b.len + b.body → Told before after old (Err Ended) new
  finished_short l = told_fault before after old new Ended grown (body_unfinished new b begins l)

  pub finished_whole : b.len + b.body ≤ length new
      → Told before after old (Ok (record { status = b.status; body = listed (take b.body (drop b.len new)); close = b.close })) (drop (b.len + b.body) new)
  finished_whole l =
      let came = reply_came new b begins l in
      let reply : Response = record { status = b.status; body = listed (take b.body (drop b.len new)); close = b.close } in
      (f.0, f.1, subst (λ xs. HasReply xs reply (drop (b.len + b.body) new)) f.2 came)
