use Rattle.std.proofs.Common.{sym}
use Rattle.s3_row_steps.proofs.FindingLemmas.{no_version}
use Rattle.s3_row_steps.proofs.finding.version_under.Goals as goal

pub returns-in-None-clause-value : goal.returns-in-None-clause-value
returns-in-None-clause-value g c = sym (no_version (g.R.StoredRows.tables c.args.rows.now) c.requires.small c.args.bucket.now c.args.key.now c.args.id c.in-None.ensures)
