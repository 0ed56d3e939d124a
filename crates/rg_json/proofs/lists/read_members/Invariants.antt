use Rattle.std.proofs.Common.{◌≡◌, ◌++◌, map, string_bytes}
use Rattle.serde_json.specs.View.{view}
use Rattle.rg_base.specs.Listed.{listed}
use Rattle.rg_json.specs.Own.{EachOf}
use Rattle.rg_json.proofs.lists.read_members.Given as goal

-- what was read, and then the rest, is all
abbrev pub invariant-loop-key : goal.invariant-loop-key
invariant-loop-key g l = record {
  whole : l.read.items ++ map (g.W.MemberReader.member_reading l.reader) (map (λ m. (string_bytes m.0, view m.1)) l.key-iterator)
      ≡ map (g.W.MemberReader.member_reading l.reader) (map (λ m. (string_bytes m.0, view m.1)) l.members.entries);
  spare : l.read ≡ listed l.read.items;
  owned : EachOf g.W.MemberReader.member_owned l.read.items;
}
