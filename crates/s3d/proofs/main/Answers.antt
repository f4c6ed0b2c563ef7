use denote.Param.Send.{sendable}
use Rattle.s3_table_records.proofs.table_records.TableRecords.TheSendSync.{the_send as records_send}
use Rattle.s3_block_bodies.proofs.block_bodies.BlockBodies.TheSendSync.{the_send as block_bodies_send}
use Rattle.sqlite_disk.proofs.modelled.Modelled.TheSendSync.{the_send as disk_send}
use Rattle.s3_file_records.proofs.SendLemmas.{mirrored_send, host_send}
use Rattle.s3d.proofs.main.Goals as goal

-- records in a folder may go to another thread, as their rows and their bodies may
pub run-requires-send-D-Kept : goal.run-requires-send-D-Kept
run-requires-send-D-Kept c κs = search (sendable, records_send, mirrored_send, block_bodies_send, disk_send, host_send) depth 20
