-- A line has a reason to be bad where it stands exactly where the command's step is None; so what is found goes by places alone.
use Rattle.std.proofs.Common.{◌≡◌, ◌+◌, ◌∙◌, ◌∷◌, [], ℕ, List, Option, Some, None, refl, ap, sym}
use Rattle.std.specs.Option.{option_map_or}
use Rattle.rg_base.specs.declared.numbers.Moment.{Moment}
use Rattle.rg_script.specs.declared.cause.Cause.{Cause}
use Rattle.rg_script.specs.declared.cause.Place.{Place}
use Rattle.rg_run_script.specs.Follow.{Step, Work}
use Rattle.rg_check.specs.declared.command.Command.{Command}
use Rattle.rg_check.specs.declared.kind.LineKind.{LineKind}
use Rattle.rg_check.specs.Causes.{cause_text}
use Rattle.rg_check.specs.Checking.{finding, found}
use Rattle.rg_check.specs.Kinds.{place_after}
use Rattle.rg_check.specs.Reasons.{kind_at, reason_at}
use Rattle.rg_check.specs.Walking.{found_from}
use Rattle.rg_check.proofs.Walks.{none_some}

-- a bad line has a reason; behind one that is worked the lines stand where they stand behind a line of its kind, and its state holds
-- what is known of each
abbrev pub Agrees : {S : Type 0} → (S → Place) → (S → Type 0) → Place → Option LineKind → Option Cause → Option (Work S) → Type 0
Agrees place_of Holds place kind reason None = (c : Cause) × (reason ≡ Some c)
Agrees place_of Holds place kind reason (Some w) = (reason ≡ None) × (place_of w.state ≡ place_after place kind) × Holds w.state

module _ {S : Type 0} (command : Command) (step : Step S) (place_of : S → Place) (Holds : S → Type 0) where
  abbrev pub AllAgree : Type 0
  AllAgree = (s : S) → Holds s → (line : List ℕ) (m : Moment) → Agrees place_of Holds (place_of s) (kind_at command line m) (reason_at command (place_of s) line m) (step s line m)

  abbrev FoundByPlace : S → ℕ → List (List ℕ) → List Moment → Type 0
  FoundByPlace s n lines ms = found_from command (place_of s) n lines ms ≡ found command step place_of s n lines ms

  one_line : (s : S) (n : ℕ) (line : List ℕ) (lines : List (List ℕ)) (m : Moment) (ms : List Moment)
      → Holds s → ((t : S) → Holds t → FoundByPlace t (n + 1) lines ms)
      → (cause : Option Cause) (o : Option (Work S)) → Agrees place_of Holds (place_of s) (kind_at command line m) cause o
      → option_map_or (λ c. finding n (cause_text command (place_of s) (kind_at command line m) c) ∷ found_from command (place_of s) (n + 1) lines ms) cause
      (found_from command (place_after (place_of s) (kind_at command line m)) (n + 1) lines ms)
      ≡ option_map_or (λ (w : Work S). found command step place_of w.state (n + 1) lines ms) o
      (finding n (option_map_or (cause_text command (place_of s) (kind_at command line m)) cause []) ∷ found command step place_of s (n + 1) lines ms)
  one_line s n line lines m ms h rest (Some c) None a = ap (λ fs. finding n (cause_text command (place_of s) (kind_at command line m) c) ∷ fs) (rest s h)
  one_line s n line lines m ms h rest None None a = none_some a.1
  one_line s n line lines m ms h rest (Some c) (Some w) a = none_some (sym a.0)
  one_line s n line lines m ms h rest None (Some w) a = ap (λ p. found_from command p (n + 1) lines ms) (sym a.1) ∙ rest w.state a.2

  pub all_lines : AllAgree → (s : S) → Holds s → (n : ℕ) (lines : List (List ℕ)) (ms : List Moment) → FoundByPlace s n lines ms
  all_lines agree s h n [] ms = refl
  all_lines agree s h n (line ∷ lines) [] = refl
  all_lines agree s h n (line ∷ lines) (m ∷ ms) =
      one_line s n line lines m ms h (λ t k. all_lines agree t k (n + 1) lines ms) (reason_at command (place_of s) line m) (step s line m) (agree s h line m)
