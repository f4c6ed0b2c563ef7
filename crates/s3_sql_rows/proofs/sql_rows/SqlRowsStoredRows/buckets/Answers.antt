use Rattle.std.proofs.Common.{refl}
use Rattle.std.specs.Prelude.{Vec, map}
use Rattle.std.specs.declared.alloc.Global.{Global}
use Rattle.s3_stored_rows.specs.declared.rows.StoredBucket.{StoredBucket}
use Rattle.sqlite.specs.Files.{file_state}
use Rattle.s3_stored_rows.specs.Changes.{bucket_columns}
use Rattle.s3_stored_rows.specs.Queries as spec
use Rattle.s3_sql_rows.proofs.CleanLemmas.{stays_clean}
use Rattle.s3_sql_rows.proofs.KnownLemmas.{seen, known_still, known_found}
use Rattle.s3_sql_rows.proofs.sql_rows.SqlRowsStoredRows.buckets.Goals as goal

pub invariant_of-self : goal.invariant_of-self
invariant_of-self c =
    known_still (file_state c.self.inside.file) (file_state c.buckets.new.self) (file_state c.self.inside.known.value) (stays_clean (λ _. refl) c.buckets.new.self) c.buckets.ensures.reads c.self.invariant

pub returns-clause-value : goal.returns-clause-value
returns-clause-value c =
    let clean = stays_clean (λ _. refl) c.buckets.new.self in
    known_found (file_state c.self.inside.file) (file_state c.buckets.new.self) c.args.self.now clean c.buckets.ensures.reads (seen (file_state c.self.inside.file) (file_state c.self.inside.known.value) c.args.self.now c.self.invariant c.self.view_is)
    (λ (all : Vec StoredBucket Global). map bucket_columns all.items) spec.buckets_by_name c.buckets.result c.told.result c.told.ensures (c.buckets.ensures.value clean) (c.buckets.ensures.stays clean)
