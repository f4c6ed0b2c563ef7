use Rattle.s3_table_records.specs.Kept.{kept}
use Rattle.s3_table_records.proofs.NumberLemmas.{same_rows, numbered_commit, numbered_lower, numbered_raised}
use Rattle.s3_table_records.proofs.table_records.TableRecordsRecords.commit.Goals as goal

pub invariant_of-self : goal.invariant_of-self
invariant_of-self g c =
    let old = c.self.inside in
    let latest = c.latest-self-inside in
    numbered_commit (g.R.StoredRows.leaves old.rows) (g.R.StoredRows.leaves c.commit_numbered.new.rows) latest.result old.written c.commit_numbered.new.written
    (g.R.StoredRows.tables old.rows) (g.R.StoredRows.tables c.commit_numbered.new.rows) (g.B.StoredBodies.contents old.bodies) (g.B.StoredBodies.contents c.commit_numbered.new.bodies)
    (g.B.StoredBodies.uses old.bodies) (g.B.StoredBodies.uses c.commit_numbered.new.bodies) old.next
    (numbered_raised (g.R.StoredRows.leaves old.rows) old.number latest.result old.written
    (kept (g.R.StoredRows.tables old.rows) (g.B.StoredBodies.contents old.bodies) (g.B.StoredBodies.uses old.bodies) old.next) latest.ensures.number c.self.invariant)
    c.commit_numbered.ensures.tables c.commit_numbered.ensures.contents c.commit_numbered.ensures.uses c.commit_numbered.ensures.says c.commit_numbered.ensures.left

pub returns-clause-numbered : goal.returns-clause-numbered
returns-clause-numbered g c =
    numbered_lower c.commit_numbered.result (g.R.StoredRows.leaves c.commit_numbered.new.rows) c.args.next c.latest-self-inside.result c.latest-self-inside.ensures.other
    c.commit_numbered.ensures.numbered

pub returns-clause-settled : goal.returns-clause-settled
returns-clause-settled g c =
    rw (c.commit_numbered.ensures.contents, same_rows (g.B.StoredBodies.contents c.self.inside.bodies) (g.R.StoredRows.tables c.self.inside.rows) (g.R.StoredRows.tables c.commit_numbered.new.rows) c.commit_numbered.ensures.tables)
    c.commit_numbered.ensures.settled

pub returns-clause-in_doubt : goal.returns-clause-in_doubt
returns-clause-in_doubt g c = rw (← c.self.view_is) c.commit_numbered.ensures.in_doubt

pub returns-clause-same : goal.returns-clause-same
returns-clause-same g c =
    rw (← c.self.view_is, c.commit_numbered.ensures.contents) (same_rows (g.B.StoredBodies.contents c.self.inside.bodies) (g.R.StoredRows.tables c.self.inside.rows) (g.R.StoredRows.tables c.commit_numbered.new.rows) c.commit_numbered.ensures.tables)
