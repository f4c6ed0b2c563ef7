use Rattle.s3_settings.proofs.WriterLemmas.{flushed, unflushed}
use Rattle.s3_settings.proofs.writers.write_flushed.Goals as goal

-- all of the bytes were written before the flush
pub returns-clause-written : goal.returns-clause-written
returns-clause-written g c =
    (flushed c.write_bytes.result c.map_err-2.result _ _ _ _ c.in_ok-map_err.ensures.variant c.write_bytes.ensures.written c.flush.ensures.bytes).0

pub returns-clause-part : goal.returns-clause-part
returns-clause-part g c =
    (flushed c.write_bytes.result c.map_err-2.result _ _ _ _ c.in_ok-map_err.ensures.variant c.write_bytes.ensures.written c.flush.ensures.bytes).1

-- what the failed write took
pub returns-in_err-map_err-clause-part : goal.returns-in_err-map_err-clause-part
returns-in_err-map_err-clause-part g c =
    unflushed c.write_bytes.result c.from_residual.result _ _ _ c.in_err-map_err.ensures.variant c.write_bytes.ensures.part
