-- Indexes may cross threads.
use denote.Param.Send.{IsSend, IsSync, sendable}
use denote.Param.SendFields.{declared_send, declared_sync}
use Rattle.std.proofs.Crossing.{crosses}
use Rattle.rg_defs.proofs.service_def.Level.TheSendSync as level
use Rattle.rg_trie.proofs.Sent.{trie_send, trie_sync}
use Rattle.rg_index.proofs.seen.Seen.TheSendSync as seen
use Rattle.rg_index.specs.contracts.level_trie.LevelTrie as L
use Rattle.rg_index.specs.contracts.level_trie.LevelTrie.TheInside as LI
use Rattle.rg_index.specs.contracts.index.Index as X
use Rattle.rg_index.specs.contracts.index.Index.TheInside as XI

level_inside_send : IsSend LI.the_row
level_inside_send = declared_send LI.the_type (search (crosses, sendable, level.the_send, level.the_sync) depth 40, (search (crosses, sendable, trie_send, trie_sync) depth 40, tt))

level_inside_sync : IsSync LI.the_row
level_inside_sync = declared_sync LI.the_type (search (crosses, sendable, level.the_send, level.the_sync) depth 40, (search (crosses, sendable, trie_send, trie_sync) depth 40, tt))

level_send : IsSend L.the_row
level_send = search (sendable, level_inside_send) depth 20

level_sync : IsSync L.the_row
level_sync = search (sendable, level_inside_sync) depth 20

inside_send : IsSend XI.the_row
inside_send = declared_send XI.the_type (search (crosses, sendable, level_send) depth 40, (search (sendable, trie_send) depth 20, (search (sendable, seen.the_send) depth 20, tt)))

inside_sync : IsSync XI.the_row
inside_sync = declared_sync XI.the_type (search (crosses, sendable, level_sync) depth 40, (search (sendable, trie_sync) depth 20, (search (sendable, seen.the_sync) depth 20, tt)))

pub index_send : IsSend X.the_row
index_send = search (sendable, inside_send) depth 20

pub index_sync : IsSync X.the_row
index_sync = search (sendable, inside_sync) depth 20
