-- How much work a report counts.
use Rattle.std.specs.Prelude.{ℕ, ◌≤◌, ◌+◌, ◌*◌, []}
use Rattle.rg_base.specs.Counts.{Counts}
use Rattle.rg_engine.specs.Bounds.{bound_on}
use Rattle.rg_facts.specs.declared.facts.Facts.{Facts}
use Rattle.rg_acl.specs.Rows.{other_asker, request_of}
use Rattle.rg_acl.specs.declared.ask.ReportAsk.{ReportAsk}

-- compiles and edits don't rise
pub record NothingMade (old new : Counts) : Type 0 where
  pub compiles : new.compiles ≤ old.compiles
  pub edits : new.edits ≤ old.edits

-- where there are so many rows now, and there were so many before, at most so many tries were counted for each new one
abbrev pub IsTriedFor : ℕ → ℕ → ℕ → Counts → Counts → Type 0
IsTriedFor each before now old new = new.tries + before * each ≤ old.tries + now * each

-- how many tries one verdict on the ask's resource takes at most, whoever asks
abbrev pub bound_for : Facts → ReportAsk → ℕ
bound_for facts ask = bound_on facts (request_of ask (other_asker []) [])
