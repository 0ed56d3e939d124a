use denote.Param.Send.{IsSync, part_keyless}
use Rattle.rg_trie.specs.contracts.seen.Seen.{the_row}
use Rattle.rg_trie.proofs.seen.Seen.TheSendSync.Send.{send}

pub sync : IsSync the_row
sync = record { shared = λ d b o κ q. part_keyless the_row send q d b o }
