use Rattle.s3_row_changes.proofs.LawLemmas as law
use Rattle.s3_row_changes.proofs.laws.changes_trade_numbers.Goals as goal

pub returns-clause-version_puts : goal.returns-clause-version_puts
returns-clause-version_puts c = law.version_puts

pub returns-clause-version_drops : goal.returns-clause-version_drops
returns-clause-version_drops c = law.version_drops

pub returns-clause-part_puts : goal.returns-clause-part_puts
returns-clause-part_puts c = law.part_puts

pub returns-clause-upload_adds : goal.returns-clause-upload_adds
returns-clause-upload_adds c = law.upload_adds

pub returns-clause-upload_drops : goal.returns-clause-upload_drops
returns-clause-upload_drops c = law.upload_drops
