-- Rows that stand at one place.
use Rattle.std.proofs.Common.{◌≡◌, ap, ◌∙◌, ℕ, ℤ, true, List}
use Rattle.std.proofs.lemmas.Bool.{and_parts}
use Rattle.sqlite_keyed.proofs.KeyedLemmas.{same_int}
use Rattle.s3_rows.specs.Columns.{BucketColumns, VersionColumns, UploadColumns, PartColumns}
use Rattle.s3_rows.specs.Finding.{same_text, is_named, is_at, is_version, is_upload_to, is_upload, is_sent_to, is_part}
use Rattle.s3_rows.specs.Soundness.{same_name, same_version, same_upload, same_part}
use Rattle.s3_rows.proofs.MeaningLemmas.{same_text-true}

abbrev IsPlace : List ℕ → List ℕ → ℤ → List ℕ → List ℕ → ℤ → Type 0
IsPlace bucket key id b k i = (b ≡ bucket) × (k ≡ key) × (i ≡ id)

pub version_place : (bucket key : List ℕ) (id : ℤ) (v : VersionColumns) → is_version bucket key id v ≡ true → IsPlace bucket key id v.bucket v.key v.id
version_place bucket key id v is =
    let parts = and_parts (is_at bucket key v) _ is in
    let texts = and_parts (same_text v.bucket bucket) _ parts.0 in
    (same_text-true v.bucket bucket texts.0, same_text-true v.key key texts.1, same_int v.id id parts.1)

pub upload_place : (bucket key : List ℕ) (id : ℤ) (u : UploadColumns) → is_upload bucket key id u ≡ true → IsPlace bucket key id u.bucket u.key u.id
upload_place bucket key id u is =
    let parts = and_parts (is_upload_to bucket key u) _ is in
    let texts = and_parts (same_text u.bucket bucket) _ parts.0 in
    (same_text-true u.bucket bucket texts.0, same_text-true u.key key texts.1, same_int u.id id parts.1)

pub buckets_alike : (name : List ℕ) (a b : BucketColumns) → is_named name a ≡ true → is_named name b ≡ true → same_name a b ≡ true
buckets_alike name a b one two = ap (λ n. is_named n a) (same_text-true b.name name two) ∙ one

pub versions_alike : (bucket key : List ℕ) (id : ℤ) (a b : VersionColumns) → is_version bucket key id a ≡ true → is_version bucket key id b ≡ true → same_version a b ≡ true
versions_alike bucket key id a b one two = let place = version_place bucket key id b two in (λ i. is_version (place.0 i) (place.1 i) (place.2 i) a) ∙ one

pub uploads_alike : (bucket key : List ℕ) (id : ℤ) (a b : UploadColumns) → is_upload bucket key id a ≡ true → is_upload bucket key id b ≡ true → same_upload a b ≡ true
uploads_alike bucket key id a b one two = let place = upload_place bucket key id b two in (λ i. is_upload (place.0 i) (place.1 i) (place.2 i) a) ∙ one

pub parts_alike : (upload part : ℤ) (a b : PartColumns) → is_part upload part a ≡ true → is_part upload part b ≡ true → same_part a b ≡ true
parts_alike upload part a b one two =
    let place = and_parts (is_sent_to upload b) _ two in
    let to = same_int b.upload upload place.0 in
    let number = same_int b.part part place.1 in
    (λ i. is_part (to i) (number i) a) ∙ one
