-- One line more of a script.
use Rattle.std.proofs.Common.{◌≡◌, ◌+◌, ◌++◌, ◌∷◌, [], ℕ, List, Option, Some, None, option_map, pos, refl, ap, ap₂, sym, ◌∙◌, append_assoc, append-nil}
use Rattle.std.specs.Option.{option_map_or}
use Rattle.rg_base.specs.declared.numbers.Moment.{Moment}
use Rattle.rg_ports.specs.Moments.{Told}
use Rattle.rg_script.specs.Lines.{lines_of}
use Rattle.rg_run_script.specs.declared.status.Status.{Status}
use Rattle.rg_run_script.specs.declared.status.Status.TheVariants.{Done, BadLine}
use Rattle.rg_run_script.specs.Follow.{Comes, Decided, IsWorked, Output, Step, Work, bad_line_text, before, ends_bad, worked}
use Rattle.rg_run_script.specs.Moments.{Gave}

-- a clock that gave some moments gives one more
pub gave_one : (old now new : Option (List Moment)) (moments : List Moment) (m : Moment) → Gave old now moments → Told now new m → Gave old new (moments ++ m ∷ [])
gave_one None now new moments m g t = let t' = rw g at t in t'
gave_one (Some old) now new moments m g t = let t' = rw g at t in t' ∙ ap Some (append_assoc old moments (m ∷ []))

pub gave_none : (old : Option (List Moment)) → Gave old old []
gave_none None = refl
gave_none (Some old) = ap Some (sym (append-nil old))

module _ {S : Type 0} where
  before_before : (xs ys : List ℕ) (cs ds : List Decided) (o : Option (Output S))
      → option_map (before xs cs) (option_map (before ys ds) o) ≡ option_map (before (xs ++ ys) (cs ++ ds)) o
  before_before xs ys cs ds None = refl
  before_before xs ys cs ds (Some o) =
      ap₂ (λ t e. Some (let r : Output S = record { text = t; status = o.status; state = o.state; decided = e } in r))
      (sym (append_assoc xs ys o.text)) (sym (append_assoc cs ds o.decided))

  pub nothing_before : (o : Option (Output S)) → o ≡ option_map (before [] []) o
  nothing_before None = refl
  nothing_before (Some o) = refl

  -- a line that was worked: its text, and then the rest
  pub goes_on : (step : Step S) (s : S) (n : ℕ) (line : List ℕ) (lines : List (List ℕ)) (m : Moment) (later : List Moment) (text : List ℕ) (ds : List Decided) (w : Work S)
      → step s line m ≡ Some w
      → option_map (before text ds) (worked step s n (line ∷ lines) (m ∷ later)) ≡ option_map (before (text ++ w.text) (ds ++ w.decided)) (worked step w.state (n + 1) lines later)
  goes_on step s n line lines m later text ds w e =
      ap (λ o. option_map (before text ds) (option_map_or (λ (v : Work S). option_map (before v.text v.decided) (worked step v.state (n + 1) lines later)) o (ends_bad s n later))) e
      ∙ before_before text w.text ds w.decided (worked step w.state (n + 1) lines later)

  -- a bad line ends the script
  pub ends : (step : Step S) (s : S) (n : ℕ) (line : List ℕ) (lines : List (List ℕ)) (m : Moment) (text : List ℕ) (ds : List Decided)
      → step s line m ≡ None
      → option_map (before text ds) (worked step s n (line ∷ lines) (m ∷ [])) ≡ Some (record { text = text ++ bad_line_text n; status = BadLine; state = s; decided = ds ++ [] })
  ends step s n line lines m text ds e =
      ap (λ o. option_map (before text ds) (option_map_or (λ (v : Work S). option_map (before v.text v.decided) (worked step v.state (n + 1) lines [])) o (ends_bad s n []))) e

  -- what comes to an end at some moments
  abbrev pub Ends : Step S → S → ℕ → List (List ℕ) → (List Moment → List Moment) → Type 0
  Ends step s n lines moments = (later : List Moment) × (o : Output S) × (worked step s n lines (moments later) ≡ Some o)

  pub ends_after : (step : Step S) (s : S) (n : ℕ) (line : List ℕ) (lines : List (List ℕ)) (m : Moment)
      → ((t : S) → Ends step t (n + 1) lines (λ later. later)) → Ends step s n (line ∷ lines) (λ later. m ∷ later)
  ends_after step s n line lines m rest =
      elim (step s line m) as (λ o. (later : List Moment) × (out : Output S)
      × (option_map_or (λ (v : Work S). option_map (before v.text v.decided) (worked step v.state (n + 1) lines later)) o (ends_bad s n later) ≡ Some out)) [
        | None ↦ ([], record { text = bad_line_text n; status = BadLine; state = s; decided = [] }, refl)
        | Some w ↦ ((rest w.state).0, before w.text w.decided (rest w.state).1, ap (option_map (before w.text w.decided)) (rest w.state).2)
      ]

  -- every script ends at some moments
  pub ends_somehow : (step : Step S) (s : S) (n : ℕ) (lines : List (List ℕ)) → Ends step s n lines (λ later. later)
  ends_somehow step s n [] = ([], record { text = []; status = Done; state = s; decided = [] }, refl)
  ends_somehow step s n (line ∷ lines) =
      let m : Moment = record { 0 = pos 0 } in
      let r = ends_after step s n line lines m (λ t. ends_somehow step t (n + 1) lines) in
      (m ∷ r.0, r.1, r.2)

-- with the moments given so far, and whichever follow, the script prints and decides what it did so far, and then what the rest does
pub record IsFollowed (S : Type 0) (step : Step S) (start : S) (old now : Option (List Moment)) (bytes text : List ℕ) (s : S) (n : ℕ) (rest : List ℕ) : Type 0 where
  pub moments : List Moment
  pub decided : List Decided
  pub given : Gave old now moments
  pub so_far : (later : List Moment) → worked step start 1 (lines_of bytes) (moments ++ later) ≡ option_map (before text decided) (worked step s n (lines_of rest) later)

module _ {S : Type 0} where
  unfoldable pub begun : (step : Step S) (start : S) (old : Option (List Moment)) (bytes : List ℕ) → IsFollowed S step start old old bytes [] start 1 bytes
  begun step start old bytes = record {
    moments = [];
    decided = [];
    given = gave_none old;
    so_far = λ later. nothing_before (worked step start 1 (lines_of bytes) later);
  }

  -- the script is followed up to a line, which is read at the moment m
  module _ (step : Step S) (start : S) (old now new : Option (List Moment)) (bytes text : List ℕ) (s : S) (n : ℕ) (rest line more : List ℕ) (m : Moment)
      (f : IsFollowed S step start old now bytes text s n rest) (first : lines_of rest ≡ line ∷ lines_of more) (told : Told now new m) where
    pub at_line : (later : List Moment) → worked step start 1 (lines_of bytes) ((f.moments ++ m ∷ []) ++ later)
        ≡ option_map (before text f.decided) (worked step s n (line ∷ lines_of more) (m ∷ later))
    at_line later =
        ap (worked step start 1 (lines_of bytes)) (append_assoc f.moments (m ∷ []) later)
        ∙ f.so_far (m ∷ later)
        ∙ ap (λ lines. option_map (before text f.decided) (worked step s n lines (m ∷ later))) first

    unfoldable pub went_on : (text' : List ℕ) (s' : S) (w : Work S) → step s line m ≡ Some w → s' ≡ w.state → text' ≡ text ++ w.text
        → IsFollowed S step start old new bytes text' s' (n + 1) more
    went_on text' s' w e state printed = record {
      moments = f.moments ++ m ∷ [];
      decided = f.decided ++ w.decided;
      given = gave_one old now new f.moments m f.given told;
      so_far = λ later.
          at_line later
          ∙ goes_on step s n line (lines_of more) m later text f.decided w e
          ∙ ap₂ (λ t u. option_map (before t (f.decided ++ w.decided)) (worked step u (n + 1) (lines_of more) later)) (sym printed) (sym state);
    }

    pub stepped : (text' : List ℕ) (s' : S) → IsWorked (step s line m) s' text text' → IsFollowed S step start old new bytes text' s' (n + 1) more
    stepped text' s' =
        elim (step s line m) as (λ o. step s line m ≡ o → IsWorked o s' text text' → IsFollowed S step start old new bytes text' s' (n + 1) more) [
          | None ↦ λ e no. absurd no
          | Some w ↦ λ e is. went_on text' s' w e is.0 is.1
        ] refl

    unfoldable pub stopped : (text' : List ℕ) (s' : S) (status : Status) → step s line m ≡ None → s' ≡ s → text' ≡ text ++ bad_line_text n → status ≡ BadLine
        → (decided : List Decided) × Comes S (worked step start 1) bytes old new [] (record { text = text'; status = status; state = s'; decided = decided })
    stopped text' s' status bad same printed named = (
      f.decided ++ [],
      record {
        moments = f.moments ++ m ∷ [];
        given = gave_one old now new f.moments m f.given told;
        defined = at_line [] ∙ ends step s n line (lines_of more) m text f.decided bad
            ∙ ap₂ (λ t u. Some (let o : Output S = record { text = t; status = BadLine; state = u; decided = f.decided ++ [] } in o)) (sym printed) (sym same)
            ∙ ap (λ st. Some (let o : Output S = record { text = text'; status = st; state = s'; decided = f.decided ++ [] } in o)) (sym named);
      },
    )

    pub cut_off : (later : List Moment) × (output : Output S) × Comes S (worked step start 1) bytes old new later output
    cut_off =
        let r = ends_after step s n line (lines_of more) m (λ t. ends_somehow step t (n + 1) (lines_of more)) in (
          r.0,
          before text f.decided r.1,
          record {
            moments = f.moments ++ m ∷ [];
            given = gave_one old now new f.moments m f.given told;
            defined = at_line r.0 ∙ ap (option_map (before text f.decided)) r.2;
          },
        )

  unfoldable pub finished : (step : Step S) (start : S) (old now : Option (List Moment)) (bytes text : List ℕ) (s : S) (n : ℕ) (rest : List ℕ)
      → IsFollowed S step start old now bytes text s n rest → rest ≡ []
      → (decided : List Decided) × Comes S (worked step start 1) bytes old now [] (record { text = text; status = Done; state = s; decided = decided })
  finished step start old now bytes text s n rest f none = (
    f.decided ++ [],
    record {
      moments = f.moments;
      given = f.given;
      defined = f.so_far []
          ∙ ap (λ bs. option_map (before text f.decided) (worked step s n (lines_of bs) [])) none
          ∙ ap (λ t. Some (let o : Output S = record { text = t; status = Done; state = s; decided = f.decided ++ [] } in o)) (append-nil text);
    },
  )
