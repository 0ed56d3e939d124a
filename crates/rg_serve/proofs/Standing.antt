-- Entries that stand in a history, when it goes on. Each of these is a case of sessions that lead on.
use Rattle.std.proofs.Common.{ℕ, List, [], ◌++◌, None, sym, subst, refl, arith, append-nil}
use mathlib.Core.List.{IsPrefix}
use Rattle.rg_cmd.specs.declared.ask.AdminReply.{AdminReply}
use Rattle.rg_cmd.specs.declared.ask.Ask.{Ask}
use Rattle.rg_turn.specs.declared.rule.Entry.{Entry}
use Rattle.rg_turn.proofs.Histories.{begins_self}
use Rattle.rg_publish.specs.Passes.{new_pass}
use Rattle.rg_link.specs.Workers.{Leads, Stand, Worker, worker_of}
use Rattle.rg_link.proofs.Steps.{leads_trans}
use Rattle.rg_serve.specs.Names.{no_publisher, no_turn}

abbrev H : Type 0
H = List (Entry Ask AdminReply)

-- a worker of which nothing counts but this history and these calls
abbrev calling : H → List ℕ → Worker
calling history calls = worker_of (record { turn = no_turn; history = history; calls = calls }) (new_pass no_publisher) None [] []

-- calls are made while the history goes on
made : (h m : H) (calls places : List ℕ) (own : H) → IsPrefix h m → Stand m places own → Leads (calling h calls) (calling m (calls ++ places)) [] own []
made h m calls places own begins stand = record {
  turn = refl;
  told = λ before e. absurd (cc e);
  made = (places, refl, stand);
  history = begins;
  publisher = refl;
  list = ([], refl);
  rises = omega arith;
  answered = refl;
}

pub stand_on : (h m : H) → IsPrefix h m → (places more : List ℕ) (own later : H) → Stand h places own → Stand m more later → Stand m (places ++ more) (own ++ later)
stand_on h m begins places more own later first second =
    let a = made h h [] places own (begins_self h) first in
    let b = made h m places more later begins second in
    let both = leads_trans (calling h []) (calling h places) (calling m (places ++ more)) [] [] own later [] [] a b in
    subst (λ l. Stand m l (own ++ later)) (sym both.made.1) both.made.2

pub stand_further : (h m : H) → IsPrefix h m → (places : List ℕ) (own : H) → Stand h places own → Stand m places own
stand_further h m begins places own stand =
    subst (λ (l : H). Stand m places l) (append-nil own) (subst (λ l. Stand m l (own ++ [])) (append-nil places) (stand_on h m begins places [] own [] stand refl))
