use Rattle.std.proofs.Common.{◌∙◌}
use Rattle.s3_rows.specs.Meaning.{catalogue_of}
use Rattle.s3_stored_rows.specs.Bodies.{encoding}
use Rattle.s3_table_records.proofs.LeavingLemmas.{all_settled, still_in_doubt, one_or_known}
use Rattle.s3_table_records.proofs.keeping.commit_settled.Goals as goal

-- a crash leaves the rows as they are, and of the bodies all that these name
pub returns-in-Ok-clause-settled : goal.returns-in-Ok-clause-settled
returns-in-Ok-clause-settled g c =
    all_settled (g.R.StoredRows.tables c.args.rows.now) (g.B.StoredBodies.contents c.args.bodies.now) (g.B.StoredBodies.uses c.args.bodies.now) c.requires.named (g.met.B.StoredBodies.named_where_there c.args.bodies.now)
    (g.R.StoredRows.leaves c.commit_rows.new.rows) (g.B.StoredBodies.outlives c.let_go.new.bodies)
    (λ n bytes there. c.let_go.ensures.outlives n bytes there (c.requires.settled n bytes there))
    (λ s left. c.in-Ok.ensures.settled s left ∙ c.commit_rows.ensures.same)

pub returns-in-Ok-clause-in_doubt : goal.returns-in-Ok-clause-in_doubt
returns-in-Ok-clause-in_doubt g c = λ known leaves.
    one_or_known (g.R.StoredRows.leaves c.commit_rows.new.rows) (g.B.StoredBodies.outlives c.let_go.new.bodies)
    (catalogue_of (encoding (g.B.StoredBodies.contents c.args.bodies.now)) (g.R.StoredRows.tables c.args.rows.now)) known (returns-in-Ok-clause-settled g c)

-- an error leaves it open whether the rows came to the disk
pub returns-in-Err-clause-in_doubt : goal.returns-in-Err-clause-in_doubt
returns-in-Err-clause-in_doubt g c =
    still_in_doubt (g.R.StoredRows.tables c.args.rows.now) (g.B.StoredBodies.contents c.args.bodies.now) (g.B.StoredBodies.uses c.args.bodies.now) c.requires.named (g.met.B.StoredBodies.named_where_there c.args.bodies.now)
    (g.R.StoredRows.leaves c.commit_rows.new.rows) (g.B.StoredBodies.outlives c.args.bodies.now) c.requires.settled
    (g.R.StoredRows.leaves c.args.rows.now) c.commit_rows.ensures.survives

pub returns-in-Ok-clause-alone : goal.returns-in-Ok-clause-alone
returns-in-Ok-clause-alone g c = λ s left. c.in-Ok.ensures.settled s left ∙ c.commit_rows.ensures.same
