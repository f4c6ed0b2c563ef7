use Rattle.std.proofs.Common.{subst}
use Rattle.std.specs.Prelude.{IfSome}
use Rattle.s3_stored_rows.specs.declared.rows.StoredVersion.{StoredVersion}
use Rattle.s3_stored_rows.specs.Bodies.{version_numbers, numbers_named}
use Rattle.s3_stored_rows.specs.Changes.{version_columns}
use Rattle.s3_table_records.proofs.CountedLemmas.{IsAmong, all_counted}
use Rattle.s3_table_records.proofs.reading.version.Goals as goal

pub version_from-requires : goal.version_from-requires
version_from-requires g c =
    let named = numbers_named (g.R.StoredRows.tables c.args.rows.now) in
    record {
      named = all_counted (g.B.StoredBodies.uses c.args.bodies.now) named (version_numbers (version_columns c.in-Some.row)) c.requires.kept.named
          (subst (λ found. IfSome found (λ (v : StoredVersion). IsAmong (version_numbers (version_columns v)) named)) c.in-Some.is c.in_ok-found.ensures.counted);
    }
