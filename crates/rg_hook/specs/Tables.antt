-- Pairs that go with users and groups.
use Rattle.std.specs.Prelude.{Option, option_map}
use Rattle.std.specs.Option.{option_or}
use Rattle.std.specs.List.{find}
use Rattle.std.specs.Str.{bytes_eq}
use Rattle.rg_base.specs.Texts.{is_among}
use Rattle.rg_base.specs.declared.pair.Pair.{Pair}
use Rattle.rg_policy.specs.declared.request.AccessRequest.{AccessRequest}
use Rattle.rg_hook.specs.declared.tables.PairRow.{PairRow}
use Rattle.rg_hook.specs.declared.tables.SubjectPairs.{SubjectPairs}

-- the first row of the user's name, else the first row that names one of the groups
abbrev pub row_for : SubjectPairs → AccessRequest → Option PairRow
row_for t request = option_or (find (λ (r : PairRow). bytes_eq r.name request.user) t.users.items)
    (find (λ (r : PairRow). is_among r.name request.groups.items) t.groups.items)

-- its pair
abbrev pub pair_for : SubjectPairs → AccessRequest → Option Pair
pair_for t request = option_map (λ (r : PairRow). r.pair) (row_for t request)
