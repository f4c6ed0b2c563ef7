-- The rows may go to another thread: a connection over disks in memory may, and a snapshot owns nothing.
use denote.RattleType.{RattleType}
use denote.Param.Send.{IsSend, sendable}
use Rattle.std.specs.contracts.snapshot.Snapshot as snapshot
use Rattle.s3_tables.proofs.table_file.TableFile.TheSendSync.{the_send as file_send}
use Rattle.sqlite_store.proofs.store.FileStore.TheSendSync.{the_send as store_send}
use Rattle.s3_memory_disk.proofs.memory_disk.MemoryDisk.TheSendSync.{the_send as disk_send}
use Rattle.s3_sql_rows.specs.contracts.sql_rows.SqlRows.{the_row}

snapshot_send : (R : RattleType) → IsSend (snapshot.the_row R)
snapshot_send R = record { owned = λ d vs. ((λ vss. (tt, ((λ uss. (tt, tt)), tt))), tt); leaving = λ k f vs. tt }

pub rows_send : IsSend the_row
rows_send = search (sendable, snapshot_send, file_send, store_send, disk_send) depth 20
