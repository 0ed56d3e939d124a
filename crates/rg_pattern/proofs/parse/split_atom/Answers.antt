use Rattle.std.proofs.Common.{false, sym, ap, ◌∙◌, ◌∷◌}
use Rattle.std.specs.Str.{chars}
use Rattle.rg_pattern.specs.Tests.{strip_prefix}
use Rattle.rg_pattern.specs.Reading.{atoms_of}
use Rattle.rg_pattern.proofs.Read.{mark_chars, read_user, user_shorter, read_other}
use Rattle.rg_pattern.proofs.parse.split_atom.Goals as goal

pub returns-in-Some-clause-read : goal.returns-in-Some-clause-read
returns-in-Some-clause-read c = read_user c.args.wild (chars c.args.text.now) (chars c.in-Some.rest.now)
    (ap (λ m. strip_prefix false m (chars c.args.text.now)) (sym mark_chars) ∙ sym c.in-Some.ensures)

pub returns-in-Some-clause-shorter : goal.returns-in-Some-clause-shorter
returns-in-Some-clause-shorter c = user_shorter (chars c.args.text.now) (chars c.in-Some.rest.now)
    (ap (λ m. strip_prefix false m (chars c.args.text.now)) (sym mark_chars) ∙ sym c.in-Some.ensures)

pub returns-in-None-clause-read : goal.returns-in-None-clause-read
returns-in-None-clause-read c =
    read_other c.args.wild (chars c.args.text.now) c.in_ok-c.c (chars c.in_ok-c.rest.now)
    (ap (λ m. strip_prefix false m (chars c.args.text.now)) (sym mark_chars) ∙ sym c.in-None.ensures) c.in_ok-c.ensures
    ∙ ap (λ a. a ∷ atoms_of c.args.wild (chars c.in_ok-c.rest.now)) (sym c.atom_of.ensures)
