use Rattle.std.proofs.Common.{refl}
use Rattle.std.specs.Prelude.{option_map}
use Rattle.sqlite.specs.Files.{file_state}
use Rattle.s3_stored_rows.specs.Changes.{bucket_columns}
use Rattle.s3_stored_rows.specs.Queries as spec
use Rattle.s3_sql_rows.proofs.CleanLemmas.{stays_clean}
use Rattle.s3_sql_rows.proofs.KnownLemmas.{seen, known_still, known_found}
use Rattle.s3_sql_rows.proofs.sql_rows.SqlRowsStoredRows.bucket.Goals as goal

pub invariant_of-self : goal.invariant_of-self
invariant_of-self c =
    known_still (file_state c.self.inside.file) (file_state c.bucket.new.self) (file_state c.self.inside.known.value) (stays_clean (λ _. refl) c.bucket.new.self) c.bucket.ensures.reads c.self.invariant

pub returns-clause-value : goal.returns-clause-value
returns-clause-value c =
    let clean = stays_clean (λ _. refl) c.bucket.new.self in
    known_found (file_state c.self.inside.file) (file_state c.bucket.new.self) c.args.self.now clean c.bucket.ensures.reads (seen (file_state c.self.inside.file) (file_state c.self.inside.known.value) c.args.self.now c.self.invariant c.self.view_is)
    (option_map bucket_columns) (spec.bucket_named c.args.name.now) c.bucket.result c.told.result c.told.ensures (c.bucket.ensures.value clean) (c.bucket.ensures.stays clean)
