-- The lines of a script that were worked so far, with hooks.
use Rattle.std.proofs.Common.{◌≡◌, ◌∙◌, ◌+◌, ◌++◌, ◌∷◌, [], ℕ, List, Option, Some, None, option_map, refl, ap, ap₂, sym, append_assoc, append-nil}
use Rattle.rg_base.specs.declared.numbers.Moment.{Moment}
use Rattle.rg_ports.specs.Moments.{Told}
use Rattle.rg_run_script.specs.Lines.{lines_of}
use Rattle.rg_run_script.specs.declared.status.Status.TheVariants.{Done}
use Rattle.rg_run_script.specs.Follow.{Decided, IsWorked, Output, Step, before, worked}
use Rattle.rg_run_script.specs.Hooked.{AreAudited, Hooks, IsAudited}
use Rattle.rg_run_script.specs.Moments.{Gave}
use Rattle.rg_run_script.proofs.Hooks.{IsHeard, audited_none, audited_on}
use Rattle.rg_run_script.proofs.Scripts.{gave_none, gave_one, goes_on, nothing_before}
use Rattle.rg_run_keep.specs.Custody.{ComesTo}

-- the first lines printed and decided this at their moments, whatever follows, and the hooks stand as these decisions leave them
pub record IsFront (S : Type 0) (step : Step S) (start : S) (clock now : Option (List Moment)) (bytes text : List ℕ) (s : S) (n : ℕ) (rest : List ℕ) (h k : Hooks) : Type 0 where
  pub first : List (List ℕ)
  pub moments : List Moment
  pub decided : List Decided
  pub given : Gave clock now moments
  pub lines : lines_of bytes ≡ first ++ lines_of rest
  pub so_far : (others : List (List ℕ)) (later : List Moment) → worked step start 1 (first ++ others) (moments ++ later) ≡ option_map (before text decided) (worked step s n others later)
  pub audited : AreAudited decided h k

module _ {S : Type 0} (step : Step S) (start : S) where
  pub front_set : (clock : Option (List Moment)) (bytes : List ℕ) (h : Hooks) → IsFront S step start clock clock bytes [] start 1 bytes h h
  front_set clock bytes h = record {
    first = [];
    moments = [];
    decided = [];
    given = gave_none clock;
    lines = refl;
    so_far = λ others later. nothing_before (worked step start 1 others later);
    audited = audited_none h;
  }

  module _ (clock now : Option (List Moment)) (bytes text : List ℕ) (s : S) (n : ℕ) (rest : List ℕ) (h k : Hooks) (is : IsFront S step start clock now bytes text s n rest h k) where
    pub front_heard : IsHeard S step start clock now bytes text s n rest h k
    front_heard = record {
      followed = record {
        moments = is.moments;
        decided = is.decided;
        given = is.given;
        so_far = λ later. ap (λ lines. worked step start 1 lines (is.moments ++ later)) is.lines ∙ is.so_far (lines_of rest) later;
      };
      audited = is.audited;
    }

    front_defined : worked step start 1 is.first is.moments ≡ Some (let o : Output S = record { text = text; status = Done; state = s; decided = is.decided } in o)
    front_defined =
        sym (ap₂ (worked step start 1) (append-nil is.first) (append-nil is.moments))
        ∙ is.so_far [] []
        ∙ ap₂ (λ t ds. Some (let o : Output S = record { text = t; status = Done; state = s; decided = ds } in o)) (append-nil text) (append-nil is.decided)

    -- a line is read at the moment m
    module _ (new : Option (List Moment)) (line more : List ℕ) (m : Moment) (first : lines_of rest ≡ line ∷ lines_of more) (told : Told now new m) where
      here : lines_of bytes ≡ is.first ++ line ∷ lines_of more
      here = is.lines ∙ ap (λ lines. is.first ++ lines) first

      pub front_comes : ComesTo S (worked step start 1) bytes clock new line m (record { text = text; status = Done; state = s; decided = is.decided })
      front_comes = record {
        first = is.first;
        rest = lines_of more;
        lines = here;
        moments = is.moments;
        given = gave_one clock now new is.moments m is.given told;
        defined = front_defined;
        done = refl;
      }

      pub front_on : (text' : List ℕ) (s' : S) (l : Hooks) → IsWorked (step s line m) s' text text' → IsAudited (step s line m) k l → IsFront S step start clock new bytes text' s' (n + 1) more h l
      front_on text' s' l =
          elim (step s line m) as (λ o. step s line m ≡ o → IsWorked o s' text text' → IsAudited o k l → IsFront S step start clock new bytes text' s' (n + 1) more h l) [
            | None ↦ λ e no audited. absurd no
            | Some w ↦ λ e so audited. record {
              first = is.first ++ line ∷ [];
              moments = is.moments ++ m ∷ [];
              decided = is.decided ++ w.decided;
              given = gave_one clock now new is.moments m is.given told;
              lines = here ∙ sym (append_assoc is.first (line ∷ []) (lines_of more));
              so_far = λ others later.
                  ap₂ (worked step start 1) (append_assoc is.first (line ∷ []) others) (append_assoc is.moments (m ∷ []) later)
                  ∙ is.so_far (line ∷ others) (m ∷ later)
                  ∙ goes_on step s n line others m later text is.decided w e
                  ∙ ap₂ (λ t u. option_map (before t (is.decided ++ w.decided)) (worked step u (n + 1) others later)) (sym so.1) (sym so.0);
              audited = audited_on is.decided w.decided h k l is.audited audited;
            }
          ] refl
