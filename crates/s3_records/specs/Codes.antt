-- How std numbers a catalogue, so that it may be what a keeper is seen as: by its parts. Nothing here is about
-- the server.
use Rattle.std.specs.Prelude.{ℕ, refl}
use Rattle.std.specs.Coded.{Coded, code_by, coded×, coded_ℕ, coded_list}
use Rattle.std.specs.FinMap as map
use Rattle.s3_versions.specs.Codes.{coded_bytes, coded_version, coded_versioning}
use Rattle.s3_versions.specs.declared.version.Versioning.{Versioning}
use Rattle.s3_uploads.specs.UploadCodes.{coded_upload}
use Rattle.s3_records.specs.Catalogue.{Keys, KeyUploads, Uploads, Bucket, Catalogue}

-- the keys of a bucket, as their entries
abbrev pub coded_keys : {B : Type 0} → Coded B → Coded (Keys B)
coded_keys body = map.code coded_bytes (coded_list (coded_version body))

-- the uploads to one key, and to the keys of a bucket, as their entries
abbrev pub coded_key_uploads : {B : Type 0} → Coded B → Coded (KeyUploads B)
coded_key_uploads body = map.code coded_ℕ (coded_upload body)

abbrev pub coded_uploads : {B : Type 0} → Coded B → Coded (Uploads B)
coded_uploads body = map.code coded_bytes (coded_key_uploads body)

-- a bucket, as when it was made, its versioning, its keys and its uploads
abbrev pub coded_bucket : {B : Type 0} → Coded B → Coded (Bucket B)
coded_bucket {B} body =
    code_by (ℕ × (Versioning × (Keys B × Uploads B)))
    (coded× coded_ℕ (coded× coded_versioning (coded× (coded_keys body) (coded_uploads body))))
    (λ b. (b.made, (b.versioning, (b.keys, b.uploads))))
    (λ p. record { made = p.0; versioning = p.1.0; keys = p.1.1.0; uploads = p.1.1.1 })
    (λ _. refl)

-- the buckets, as their entries
abbrev pub coded_catalogue : {B : Type 0} → Coded B → Coded (Catalogue B)
coded_catalogue body = map.code coded_bytes (coded_bucket body)
