use Rattle.std.proofs.Common.{◌≡◌, map}
use Rattle.std.specs.Prelude.{Vec}
use Rattle.std.specs.declared.alloc.Global.{Global}
use Rattle.sqlite.specs.Held.{state}
use Rattle.s3_stored_rows.specs.declared.rows.StoredBucket.{StoredBucket}
use Rattle.s3_stored_rows.specs.declared.rows.StoredVersion.{StoredVersion}
use Rattle.s3_stored_rows.specs.declared.rows.StoredUpload.{StoredUpload}
use Rattle.s3_stored_rows.specs.declared.rows.StoredPart.{StoredPart}
use Rattle.s3_stored_rows.specs.declared.rows.StoreNumbers.{StoreNumbers}
use Rattle.s3_stored_rows.specs.Changes.{bucket_columns, version_columns, upload_columns, part_columns, store_columns}
use Rattle.s3_tables.specs.Keeping.{tables}
use Rattle.s3_table_files.proofs.ReadingLemmas.{of_ok, all_read, all_stay}
use Rattle.s3_table_files.proofs.reading.read_tables.Goals as goal

pub returns-clause-found : goal.returns-clause-found
returns-clause-found g c =
    let now = state g.S.Store in
    let s0 = now c.args.file.now in
    let s1 = now c.bucket_rows.new.self in
    let s2 = now c.version_rows.new.self in
    let s3 = now c.upload_rows.new.self in
    let s4 = now c.part_rows.new.self in
    let s5 = now c.store_rows.new.self in
    all_read s0 s1 s2 s3 s4 s5 c.bucket_rows.ensures.reads c.version_rows.ensures.reads c.upload_rows.ensures.reads c.part_rows.ensures.reads c.store_rows.ensures.reads _
    (λ clean. of_ok (λ (all : Vec StoredBucket Global). map bucket_columns all.items ≡ (tables s0).buckets) c.bucket_rows.result c.in_ok-buckets.buckets c.in_ok-buckets.ensures.ok (c.bucket_rows.ensures.value clean))
    (λ clean. of_ok (λ (all : Vec StoredVersion Global). map version_columns all.items ≡ (tables s1).versions) c.version_rows.result c.in_ok-versions.versions c.in_ok-versions.ensures.ok (c.version_rows.ensures.value clean))
    (λ clean. of_ok (λ (all : Vec StoredUpload Global). map upload_columns all.items ≡ (tables s2).uploads) c.upload_rows.result c.in_ok-uploads.uploads c.in_ok-uploads.ensures.ok (c.upload_rows.ensures.value clean))
    (λ clean. of_ok (λ (all : Vec StoredPart Global). map part_columns all.items ≡ (tables s3).parts) c.part_rows.result c.in_ok-parts.parts c.in_ok-parts.ensures.ok (c.part_rows.ensures.value clean))
    (λ clean. of_ok (λ (all : Vec StoreNumbers Global). map store_columns all.items ≡ (tables s4).store) c.store_rows.result c.in_ok-store.store c.in_ok-store.ensures.ok (c.store_rows.ensures.value clean))

pub returns-clause-stays : goal.returns-clause-stays
returns-clause-stays g c =
    let now = state g.S.Store in
    all_stay (now c.args.file.now) (now c.bucket_rows.new.self) (now c.version_rows.new.self) (now c.upload_rows.new.self) (now c.part_rows.new.self) (now c.store_rows.new.self)
    c.bucket_rows.ensures.reads c.version_rows.ensures.reads c.upload_rows.ensures.reads c.part_rows.ensures.reads c.store_rows.ensures.reads
