use Rattle.std.proofs.Common.{refl}
use Rattle.std.specs.Prelude.{Vec, map, take}
use Rattle.std.specs.declared.alloc.Global.{Global}
use Rattle.s3_stored_rows.specs.declared.rows.StoredUpload.{StoredUpload}
use Rattle.sqlite.specs.Files.{file_state}
use Rattle.s3_stored_rows.specs.Changes.{upload_columns}
use Rattle.s3_stored_rows.specs.Queries as spec
use Rattle.s3_sql_rows.proofs.CleanLemmas.{stays_clean}
use Rattle.s3_sql_rows.proofs.KnownLemmas.{seen, known_still, known_found}
use Rattle.s3_sql_rows.proofs.sql_rows.SqlRowsStoredRows.uploads_behind.Goals as goal

pub invariant_of-self : goal.invariant_of-self
invariant_of-self c =
    known_still (file_state c.self.inside.file) (file_state c.uploads_behind.new.self) (file_state c.self.inside.known.value) (stays_clean (λ _. refl) c.uploads_behind.new.self) c.uploads_behind.ensures.reads c.self.invariant

pub returns-clause-value : goal.returns-clause-value
returns-clause-value c =
    let clean = stays_clean (λ _. refl) c.uploads_behind.new.self in
    known_found (file_state c.self.inside.file) (file_state c.uploads_behind.new.self) c.args.self.now clean c.uploads_behind.ensures.reads (seen (file_state c.self.inside.file) (file_state c.self.inside.known.value) c.args.self.now c.self.invariant c.self.view_is)
    (λ (all : Vec StoredUpload Global). map upload_columns all.items) (λ t. take c.args.most (spec.uploads_behind c.args.bucket.now c.args.key.now t)) c.uploads_behind.result c.told.result c.told.ensures (c.uploads_behind.ensures.value clean) (c.uploads_behind.ensures.stays clean)
