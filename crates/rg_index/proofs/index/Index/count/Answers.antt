use Rattle.std.proofs.Common.{Some, length, sym, ap, ◌∙◌}
use Rattle.std.specs.List.{find}
use Rattle.std.specs.Str.{bytes_eq, chars}
use Rattle.rg_index.specs.Filing.{filed}
use Rattle.rg_index.specs.Indexed.{Indexed}
use Rattle.rg_index.specs.Kept.{LevelPairs}
use Rattle.rg_index.proofs.Found.{counted, level_found, level_missed, none_filed}
use Rattle.rg_index.proofs.index.Index.count.Goals as goal

pub returns-in-Some : goal.returns-in-Some
returns-in-Some c =
    let def = c.self.inside.seen.value.def in
    let forms = c.self.inside.seen.value.forms in
    let levels = c.self.inside.levels.items in
    let name = chars c.args.name.now in
    let value = chars c.args.value.now in
    let t = c.in-Some.level.now in
    let found = level_found def forms levels c.self.invariant.1.levels_hold name t (c.in-Some.ensures ∙ ap (find (λ (t : LevelPairs). bytes_eq t.level.name name)) c.deref.ensures.value) in
    let held = c.deref-in-Some.ensures ∙ ap (λ (t : LevelPairs). t.held) c.level.view_is in
    let level = c.deref-in-Some-2.ensures ∙ ap (λ (t : LevelPairs). t.level) c.level.view_is in
    c.count.ensures
    ∙ counted def forms name value c.deref-in-Some-2.result.now (found.0 ∙ ap Some (sym level)) c.self.invariant.1.apart c.deref-in-Some.result.now (held ∙ found.1)
    ∙ ap (λ (x : Indexed). length (filed x.def x.forms name value)) c.self.view_is

pub returns-in-None : goal.returns-in-None
returns-in-None c =
    let def = c.self.inside.seen.value.def in
    let forms = c.self.inside.seen.value.forms in
    let levels = c.self.inside.levels.items in
    let name = chars c.args.name.now in
    let value = chars c.args.value.now in
    let missed = level_missed def forms levels c.self.invariant.1.levels_hold name (c.in-None.ensures ∙ ap (find (λ (t : LevelPairs). bytes_eq t.level.name name)) c.deref.ensures.value) in
    sym (ap length (none_filed def forms name value missed)) ∙ ap (λ (x : Indexed). length (filed x.def x.forms name value)) c.self.view_is
