use Rattle.std.proofs.Common.{ap, ◌∙◌, ℕ}
use Rattle.s3_rows.specs.Meaning.{catalogue_of}
use Rattle.s3_stored_rows.specs.Bodies.{encoding}
use Rattle.s3_table_records.proofs.LeavingLemmas.{stays_known, known_or_now}
use Rattle.s3_table_records.proofs.keeping.commit.Goals as goal

pub commit_settled-requires-clause-named : goal.commit_settled-requires-clause-named
commit_settled-requires-clause-named g c = λ n. ap (λ (uses : ℕ → ℕ). uses n) c.settle.ensures.uses ∙ c.requires n

pub returns-in-Ok-clause-settled : goal.returns-in-Ok-clause-settled
returns-in-Ok-clause-settled g c = rw c.settle.ensures.contents at c.commit_settled.ensures.settled

-- what outlived a crash does so once more does
pub returns-in-Ok-clause-in_doubt : goal.returns-in-Ok-clause-in_doubt
returns-in-Ok-clause-in_doubt g c = λ known leaves.
    rw c.settle.ensures.contents at c.commit_settled.ensures.in_doubt known (stays_known (λ t left. left) c.settle.ensures.outlives known leaves)

pub returns-in-Err-clause-in_doubt : goal.returns-in-Err-clause-in_doubt
returns-in-Err-clause-in_doubt g c = λ known leaves.
    known_or_now (g.R.StoredRows.leaves c.args.rows.now) (g.B.StoredBodies.outlives c.settle.new.self) (catalogue_of (encoding (g.B.StoredBodies.contents c.args.bodies.now)) (g.R.StoredRows.tables c.args.rows.now)) known
    (stays_known (λ t left. left) c.settle.ensures.outlives known leaves)
