-- Administrations that steps lead to; their plugin always sees something.
use Rattle.std.proofs.Common.{◌≡◌, ◌∙◌, ◌++◌, ◌∷◌, [], ℕ, List, length, Some, refl, ap, sym}
use Rattle.rg_cmd.specs.declared.ask.AdminReply.{AdminReply}
use Rattle.rg_cmd.specs.declared.ask.Ask.{Ask}
use Rattle.rg_facts.specs.declared.facts.Facts.{Facts}
use Rattle.rg_turn.specs.History.{state_after, state_at}
use Rattle.rg_turn.specs.View.{entry}
use Rattle.rg_turn.specs.declared.rule.Entry.{Entry}
use Rattle.rg_turn.proofs.Histories.{state_after_snoc, state_at_end}
use Rattle.rg_admin_laws.specs.Logs.{Administration}
use Rattle.rg_admin_laws.specs.Starts.{IsStart}
use Rattle.rg_admin_laws.specs.Steps.{step}
use Rattle.rg_admin_laws.specs.Views.{view}
use Rattle.rg_admin_laws.proofs.Lawful.{plugin_after}

module _ {A R X : Type 0} (transition : X → A → X × R) where
  -- a history leads from one state to the other
  pub record Leads (s t : X) : Type 0 where
    pub history : List (Entry A R)
    pub after : state_after transition s history ≡ t

  pub leads_nowhere : (s : X) → Leads s s
  leads_nowhere s = record { history = []; after = refl }

  pub leads_on : (s t : X) → Leads s t → (ask : A) → Leads s (transition t ask).0
  leads_on s t l ask = record {
    history = l.history ++ entry ask (transition t ask).1 ∷ [];
    after = state_after_snoc transition s l.history (entry ask (transition t ask).1) ∙ ap (λ (x : X). (transition x ask).0) l.after;
  }

-- an administration that was started, and asked since
pub record IsReached (a : Administration) : Type 0 where
  pub start : Administration
  pub starts : IsStart start
  pub leads : Leads step start a

pub reached_first : (a : Administration) → IsStart a → IsReached a
reached_first a is = record { start = a; starts = is; leads = leads_nowhere step a }

pub reached_more : (a : Administration) → IsReached a → (ask : Ask) → IsReached (step a ask).0
reached_more a r ask = record { start = r.start; starts = r.starts; leads = leads_on step r.start a r.leads ask }

module _ (viewed : (start : Administration) (h : List (Entry Ask AdminReply)) → IsStart start → (k : ℕ) → (f : Facts) × (view (state_at step start h k) start.state.plugin ≡ Some f)) where
  pub sees : (a : Administration) → IsReached a → (f : Facts) × (view a a.state.plugin ≡ Some f)
  sees a r =
      let s : Administration = r.start in
      let h : List (Entry Ask AdminReply) = r.leads.history in
      let seen = viewed s (h ++ []) r.starts (length h) in (
        seen.0,
        ap (λ (x : Administration). view x x.state.plugin) (sym r.leads.after)
            ∙ ap (view (state_after step s h)) (plugin_after s h)
            ∙ ap (λ (x : Administration). view x s.state.plugin) (sym (state_at_end step s h []))
            ∙ seen.1,
      )
