use Rattle.s3_settings.proofs.WriterLemmas.{more_taken, taken_so_far, fails_so_far}
use Rattle.s3_settings.proofs.writers.write_bytes.Goals as goal

pub loop-preserved : goal.loop-preserved
loop-preserved g c =
    let (done, split, appended) = c.loop.invariant in
    more_taken _ _ _ _ done _ c.in_ok-count.count split appended c.in_ok-count.ensures.taken

-- the writer stops, and what was written before is a beginning
pub returns-in_err-count-clause-part : goal.returns-in_err-count-clause-part
returns-in_err-count-clause-part g c =
    let (done, split, appended) = c.loop.invariant in
    fails_so_far c.from_residual.result _ _ _ _ done _ split appended c.in_err-count.ensures.refused

pub returns-clause-part : goal.returns-clause-part
returns-clause-part g c =
    let (done, split, appended) = c.loop.invariant in
    taken_so_far _ _ _ done _ split appended
