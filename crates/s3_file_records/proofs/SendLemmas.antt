-- Rows in memory and in a file may go to another thread, as a connection may, with the changes that wait for the file.
use denote.Param.Send.{IsSend, sendable}
use denote.Param.SendFields.{variants_send}
use Rattle.std.proofs.Crossing.{crosses}
use Rattle.s3_sql_rows.proofs.SendLemmas.{rows_send}
use Rattle.s3_table_files.proofs.file_tables.FileTables.TheSendSync.{the_send as files_send}
use Rattle.s3_tables.proofs.table_file.TableFile.TheSendSync.{the_send as file_send}
use Rattle.sqlite_store.proofs.store.FileStore.TheSendSync.{the_send as store_send}
use Rattle.sqlite_disk.proofs.modelled.Modelled.TheSendSync.{the_send as disk_send}
use Rattle.sqlite_std_file.specs.contracts.host.Host as host
use Rattle.s3_stored_rows.specs.contracts.rows.StoredBucket as bucket
use Rattle.s3_stored_rows.specs.contracts.rows.StoredVersion as version
use Rattle.s3_stored_rows.specs.contracts.rows.StoredUpload as upload
use Rattle.s3_stored_rows.specs.contracts.rows.StoredPart as part
use Rattle.s3_stored_rows.specs.contracts.rows.StoreNumbers as numbers
use Rattle.s3_stored_rows.specs.contracts.rows.TableName as table
use Rattle.s3_stored_rows.specs.contracts.change.Change as change
use Rattle.s3_file_records.specs.contracts.system_tables.SystemTables as system
use Rattle.s3_mirrored_rows.specs.contracts.mirrored_rows.MirroredRows.{the_row}
use Rattle.s3_table_files.specs.declared.lasting_tables.LastingTables as lasting

pub host_send : IsSend host.the_row
host_send = search (sendable) depth 20

bucket_send : IsSend bucket.the_row
bucket_send = search (sendable, crosses) depth 30

version_send : IsSend version.the_row
version_send = search (sendable, crosses) depth 30

upload_send : IsSend upload.the_row
upload_send = search (sendable, crosses) depth 30

part_send : IsSend part.the_row
part_send = search (sendable, crosses) depth 30

numbers_send : IsSend numbers.the_row
numbers_send = search (sendable) depth 30

table_send : IsSend table.the_row
table_send = search (sendable) depth 30

change_send : IsSend change.the_row
change_send = variants_send change.enum ((bucket_send, tt), ((version_send, tt), ((upload_send, tt), ((part_send, tt), ((numbers_send, tt), ((table_send, (search sendable, tt)), tt))))))

system_send : IsSend system.the_row
system_send = search (sendable, files_send, file_send, store_send, disk_send, host_send) depth 20

pub mirrored_send : (g : lasting.Ghosts system.the_row.Denot) → IsSend (the_row system.the_row g)
mirrored_send g = search (sendable, crosses, rows_send, system_send, change_send) depth 30
