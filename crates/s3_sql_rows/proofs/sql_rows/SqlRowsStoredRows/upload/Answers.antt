use Rattle.std.proofs.Common.{refl, to_z-of_z}
use Rattle.std.specs.Prelude.{option_map}
use Rattle.sqlite.specs.Files.{file_state}
use Rattle.s3_stored_rows.specs.Changes.{upload_columns}
use Rattle.s3_stored_rows.specs.Queries as spec
use Rattle.s3_sql_rows.proofs.CleanLemmas.{stays_clean}
use Rattle.s3_sql_rows.proofs.KnownLemmas.{seen, known_still, known_found}
use Rattle.s3_sql_rows.proofs.sql_rows.SqlRowsStoredRows.upload.Goals as goal

pub invariant_of-self : goal.invariant_of-self
invariant_of-self c =
    known_still (file_state c.self.inside.file) (file_state c.upload.new.self) (file_state c.self.inside.known.value) (stays_clean (λ _. refl) c.upload.new.self) c.upload.ensures.reads c.self.invariant

pub returns-clause-value : goal.returns-clause-value
returns-clause-value c =
    let clean = stays_clean (λ _. refl) c.upload.new.self in
    known_found (file_state c.self.inside.file) (file_state c.upload.new.self) c.args.self.now clean c.upload.ensures.reads (seen (file_state c.self.inside.file) (file_state c.self.inside.known.value) c.args.self.now c.self.invariant c.self.view_is)
    (option_map upload_columns) (spec.upload_of_id c.args.bucket.now c.args.key.now c.args.id) c.upload.result c.told.result c.told.ensures (rw (to_z-of_z c.ranges.id) at (c.upload.ensures.value clean)) (c.upload.ensures.stays clean)
