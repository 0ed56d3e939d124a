-- The keeper of a file may cross threads, and so may what the pages see. `search` alone stops at its bounds where the database's layers
-- begin, and where a pass does.
use denote.RattleType.{RattleType}
use denote.Param.Send.{IsSend, IsSync, sendable}
use denote.Param.SendFields.{declared_send, declared_sync}
use Rattle.std.proofs.Crossing.{crosses}
use Rattle.std.proofs.fs.File.TheSendSync as file
use Rattle.sqlite_disk.proofs.modelled.Modelled.TheSendSync as modelled
use Rattle.sqlite_disk.specs.contracts.modelled.Modelled as M
use Rattle.sqlite_disk.specs.contracts.modelled.ModelledDisk.TheImpl as MD
use Rattle.sqlite_disk.specs.contracts.start.Unknown as U
use Rattle.sqlite_disk.specs.contracts.start.UnknownStart.TheImpl as US
use Rattle.sqlite_std_file.specs.contracts.record.Record as E
use Rattle.sqlite_std_file.specs.contracts.host.Host as H
use Rattle.sqlite_std_file.specs.contracts.host.HostCalls.TheImpl as HC
use Rattle.sqlite_store.proofs.store.FileStore.TheSendSync as store
use Rattle.sqlite_store.specs.contracts.store.FileStore as S
use Rattle.sqlite_disk.specs.declared.Disk as disk
use Rattle.rg_record_store.proofs.sql_keeper.SqlKeeper.TheSendSync as sql_keeper
use Rattle.rg_audit_file.proofs.drops.Drops.TheSendSync as drops
use Rattle.rg_metrics.proofs.metrics.Metrics.TheSendSync as metrics
use Rattle.rg_publish.proofs.Sent.{pass_send}
use Rattle.rg_run_kept.specs.contracts.file_keeper.FileKeeper as K
use Rattle.rg_run_kept.specs.contracts.watch.Seen as N
use Rattle.rg_run_kept.specs.contracts.watch.Watch as W
use Rattle.rg_run_kept.specs.contracts.watch.Watching as I

-- what only contracts read owns nothing
record_send : IsSend E.the_row
record_send = record { owned = λ d vs. ((λ vss. (tt, ((λ uss. (tt, tt)), tt))), tt); leaving = λ k f vs. tt }

host_send : IsSend H.the_row
host_send = declared_send H.the_type (file.the_send, (record_send, tt))

abbrev FileRow : RattleType
FileRow = M.the_row H.the_row U.the_row HC.ghosts US.ghosts

file_send : IsSend FileRow
file_send = modelled.the_send H.the_row U.the_row HC.ghosts US.ghosts host_send

abbrev FileGhosts : disk.Ghosts FileRow.Denot
FileGhosts = MD.ghosts H.the_row U.the_row HC.ghosts MD.no_dict US.ghosts MD.no_dict MD.no_dict

abbrev StoreRow : RattleType
StoreRow = S.the_row FileRow FileGhosts

store_send : IsSend StoreRow
store_send = store.the_send FileRow FileGhosts file_send

pub keeper_send : IsSend K.the_row
keeper_send = declared_send K.the_type (search (sendable, sql_keeper.the_send, store_send) depth 20, (search sendable depth 20, (search (crosses, sendable, metrics.the_send, metrics.the_sync) depth 40, tt)))

-- ---- what the pages see

watching_send : IsSend I.the_row
watching_send = declared_send I.the_type (search sendable depth 20, (search (sendable, pass_send) depth 20, (search sendable depth 20, tt)))

watch_send : IsSend W.the_row
watch_send = declared_send W.the_type (search (crosses, sendable, watching_send) depth 40, tt)

watch_sync : IsSync W.the_row
watch_sync = declared_sync W.the_type (search (crosses, sendable, watching_send) depth 40, tt)

pub seen_send : IsSend N.the_row
seen_send = declared_send N.the_type (search (crosses, sendable, drops.the_send, drops.the_sync) depth 40, (search (crosses, sendable, watch_send, watch_sync) depth 40, tt))
