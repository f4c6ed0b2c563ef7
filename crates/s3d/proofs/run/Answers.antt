use denote.Param.Send.{sendable}
use Rattle.s3_sql_rows.proofs.SendLemmas.{rows_send}
use Rattle.s3_stored_bodies.proofs.memory_bodies.MemoryBodies.TheSendSync.{the_send as bodies_send}
use Rattle.s3_table_records.proofs.table_records.TableRecords.TheSendSync.{the_send as records_send}
use Rattle.s3d.proofs.run.Goals as goal

-- records in tables may go to another thread, as their rows and their bodies may
pub run_words-ran-requires-send-Q-Kept : goal.run_words-ran-requires-send-Q-Kept
run_words-ran-requires-send-Q-Kept g c κs = search (sendable, records_send, rows_send, bodies_send) depth 20

pub serve-requires-send-Q-Kept : goal.serve-requires-send-Q-Kept
serve-requires-send-Q-Kept g c κs = search (sendable, records_send, rows_send, bodies_send) depth 20
