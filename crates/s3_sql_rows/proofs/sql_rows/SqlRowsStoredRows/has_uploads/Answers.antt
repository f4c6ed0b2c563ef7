use Rattle.std.proofs.Common.{refl}
use Rattle.sqlite.specs.Files.{file_state}
use Rattle.s3_stored_rows.specs.Queries as spec
use Rattle.s3_sql_rows.proofs.CleanLemmas.{stays_clean}
use Rattle.s3_sql_rows.proofs.KnownLemmas.{seen, known_still, known_found}
use Rattle.s3_sql_rows.proofs.sql_rows.SqlRowsStoredRows.has_uploads.Goals as goal

pub invariant_of-self : goal.invariant_of-self
invariant_of-self c =
    known_still (file_state c.self.inside.file) (file_state c.has_uploads.new.self) (file_state c.self.inside.known.value) (stays_clean (λ _. refl) c.has_uploads.new.self) c.has_uploads.ensures.reads c.self.invariant

pub returns-clause-value : goal.returns-clause-value
returns-clause-value c =
    let clean = stays_clean (λ _. refl) c.has_uploads.new.self in
    known_found (file_state c.self.inside.file) (file_state c.has_uploads.new.self) c.args.self.now clean c.has_uploads.ensures.reads (seen (file_state c.self.inside.file) (file_state c.self.inside.known.value) c.args.self.now c.self.invariant c.self.view_is)
    (λ found. found) (spec.has_uploads c.args.bucket.now) c.has_uploads.result c.told.result c.told.ensures (c.has_uploads.ensures.value clean) (c.has_uploads.ensures.stays clean)
