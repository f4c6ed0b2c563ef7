use Rattle.std.proofs.Common.{sym, ◌∙◌, inl, inr}
use Rattle.s3_rows.specs.Meaning.{catalogue_of}
use Rattle.s3_stored_rows.specs.Bodies.{encoding}
use Rattle.s3_table_records.proofs.LeavingLemmas.{stays_known, known_or_now}
use Rattle.s3_table_records.proofs.NumberLemmas.{same_rows, same_names, numbered_alone}
use Rattle.s3_table_records.proofs.numbering.commit_numbered.Goals as goal

pub commit-requires : goal.commit-requires
commit-requires g c = λ n. rw (same_names (g.R.StoredRows.tables c.args.rows.now) (g.R.StoredRows.tables c.write_number.new.rows) c.write_number.ensures.tables) (c.requires.named n)

pub returns-in-Ok-clause-settled : goal.returns-in-Ok-clause-settled
returns-in-Ok-clause-settled g c =
    rw (same_rows (g.B.StoredBodies.contents c.args.bodies.now) (g.R.StoredRows.tables c.args.rows.now) (g.R.StoredRows.tables c.write_number.new.rows) c.write_number.ensures.tables) at c.commit.ensures.settled

pub returns-in-Ok-clause-in_doubt : goal.returns-in-Ok-clause-in_doubt
returns-in-Ok-clause-in_doubt g c = λ known leaves.
    rw (same_rows (g.B.StoredBodies.contents c.args.bodies.now) (g.R.StoredRows.tables c.args.rows.now) (g.R.StoredRows.tables c.write_number.new.rows) c.write_number.ensures.tables) at
    c.commit.ensures.in_doubt known (stays_known c.write_number.ensures.stays (λ n bytes did. did) known leaves)

-- what is left is what could be left before, or the rows as they are
pub returns-in-Ok-clause-left : goal.returns-in-Ok-clause-left
returns-in-Ok-clause-left g c = λ t left. elim (c.commit.ensures.left t left) [
  | inl had ↦ inl (c.write_number.ensures.stays t had)
  | inr now ↦ inr (now ∙ sym c.commit.ensures.tables, c.in-Ok.ensures.reaches)
]

pub returns-in-Err-clause-in_doubt : goal.returns-in-Err-clause-in_doubt
returns-in-Err-clause-in_doubt g c = λ known leaves.
    known_or_now (g.R.StoredRows.leaves c.write_number.new.rows) (g.B.StoredBodies.outlives c.args.bodies.now) (catalogue_of (encoding (g.B.StoredBodies.contents c.args.bodies.now)) (g.R.StoredRows.tables c.args.rows.now)) known
    (stays_known c.write_number.ensures.stays (λ n bytes did. did) known leaves)

pub returns-in-Err-clause-left : goal.returns-in-Err-clause-left
returns-in-Err-clause-left g c = λ t left. inl (c.write_number.ensures.stays t left)

pub returns-in-Ok-clause-numbered : goal.returns-in-Ok-clause-numbered
returns-in-Ok-clause-numbered g c =
    numbered_alone c.commit.result (g.R.StoredRows.leaves c.commit.new.rows) c.args.number c.write_number.new.written (g.R.StoredRows.tables c.write_number.new.rows)
    c.write_number.ensures.says c.in-Ok.ensures.reaches c.commit.ensures.alone
