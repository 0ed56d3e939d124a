-- Tries may cross threads.
use denote.Param.Send.{IsSend, IsSync, sendable}
use denote.Param.SendFields.{declared_send, declared_sync}
use Rattle.rg_tree.proofs.Sent.{tree_send, tree_sync}
use Rattle.rg_trie.proofs.bucket.Bucket.TheSendSync as bucket
use Rattle.rg_trie.proofs.lengths.Lengths.TheSendSync as lengths
use Rattle.rg_trie.proofs.seen.Seen.TheSendSync as seen
use Rattle.rg_trie.specs.contracts.bucket.Bucket as B
use Rattle.rg_trie.specs.contracts.trie.Trie as T
use Rattle.rg_trie.specs.contracts.trie.Trie.TheInside as TI

inside_send : IsSend TI.the_row
inside_send = declared_send TI.the_type (tree_send B.the_row bucket.the_send bucket.the_sync, (search (sendable, lengths.the_send) depth 20, (search sendable depth 20, (search (sendable, seen.the_send) depth 20, tt))))

inside_sync : IsSync TI.the_row
inside_sync = declared_sync TI.the_type (tree_sync B.the_row bucket.the_send bucket.the_sync, (search (sendable, lengths.the_sync) depth 20, (search sendable depth 20, (search (sendable, seen.the_sync) depth 20, tt))))

pub trie_send : IsSend T.the_row
trie_send = search (sendable, inside_send) depth 20

pub trie_sync : IsSync T.the_row
trie_sync = search (sendable, inside_sync) depth 20
