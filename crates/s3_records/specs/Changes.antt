-- What changes do to the catalogue (Amazon S3 API Reference, CreateBucket, DeleteBucket, PutBucketVersioning, PutObject,
-- DeleteObject, CreateMultipartUpload, UploadPart, AbortMultipartUpload and CompleteMultipartUpload).
use Rattle.std.specs.Prelude.{ℕ, ◌==◌, if◌then◌else◌, List, [], ◌∷◌, Option, Some, None, option_map}
use Rattle.std.specs.FinMap as map
use Rattle.s3_versions.specs.declared.version.Version.{Version}
use Rattle.s3_versions.specs.declared.version.VersioningStatus.{VersioningStatus}
use Rattle.s3_versions.specs.Rules.{versioning_set, KeyChange, after_change}
use Rattle.s3_uploads.specs.declared.part.Part.{Part}
use Rattle.s3_uploads.specs.declared.upload.Upload.{Upload}
use Rattle.s3_uploads.specs.Uploads.{with_part}
use Rattle.s3_records.specs.Catalogue.{Keys, KeyUploads, Uploads, Bucket, Catalogue, new_bucket, versions_at}
use Rattle.s3_records.specs.OpenUploads.{uploads_under, upload_under}

-- a change of one bucket: it is made at moment t, it is dropped, its versioning is set, or the versions under a key change;
-- an upload of this id to a key is there, a part is put under its number to one that is there, one is dropped, or one is
-- completed, by which the versions under its key change and it goes
pub data Change (B : Type 0) : Type 0 where
  BucketAdded : (t : ℕ) → Change B
  BucketDropped : Change B
  VersioningSet : VersioningStatus → Change B
  KeyChanged : (key : List ℕ) → KeyChange B → Change B
  UploadAdded : (key : List ℕ) → (id : ℕ) → Upload B → Change B
  PartPut : (key : List ℕ) → (id number : ℕ) → Part B → Change B
  UploadDropped : (key : List ℕ) → (id : ℕ) → Change B
  UploadCompleted : (key : List ℕ) → (id : ℕ) → KeyChange B → Change B

-- the keys, where these are the versions under one: a key without versions is not there
abbrev pub with_versions : {B : Type 0} → Keys B → List ℕ → List (Version B) → Keys B
with_versions keys key [] = map.remove keys key
with_versions keys key (v ∷ vs) = map.insert keys key (v ∷ vs)

-- a bucket whose versioning is set
abbrev pub set_in : {B : Type 0} → VersioningStatus → Bucket B → Bucket B
set_in status b = record b { versioning = versioning_set status }

-- a bucket where the versions under a key changed, by the rules of its versioning
abbrev pub change_in : {B : Type 0} → List ℕ → KeyChange B → Bucket B → Bucket B
change_in key what b = record b { keys = with_versions b.keys key (after_change b.versioning what (versions_at b.keys key)) }

-- the uploads to a key, where this is the one of an id, or none is
abbrev pub with_id : {B : Type 0} → KeyUploads B → ℕ → Option (Upload B) → KeyUploads B
with_id under id None = map.remove under id
with_id under id (Some u) = map.insert under id u

-- the uploads, where these are those to one key: a key without uploads is not there
abbrev pub with_uploads : {B : Type 0} → Uploads B → List ℕ → KeyUploads B → Uploads B
with_uploads uploads key under = if map.len under == 0 then map.remove uploads key else map.insert uploads key under

-- the uploads, where this is the one at a place, or none is
abbrev pub with_upload : {B : Type 0} → Uploads B → List ℕ → ℕ → Option (Upload B) → Uploads B
with_upload uploads key id now = with_uploads uploads key (with_id (uploads_under uploads key) id now)

-- a bucket where the upload at a place became what a rule makes of it
abbrev pub upload_change_in : {B : Type 0} → List ℕ → ℕ → (Option (Upload B) → Option (Upload B)) → Bucket B → Bucket B
upload_change_in key id next b =
    record b { uploads = with_upload b.uploads key id (next (upload_under b.uploads key id)) }

-- what a change makes of a bucket, which is there or not
abbrev pub bucket_after : {B : Type 0} → Change B → Option (Bucket B) → Option (Bucket B)
bucket_after (BucketAdded t) found = Some (new_bucket t)
bucket_after BucketDropped found = None
bucket_after (VersioningSet status) found = option_map (set_in status) found
bucket_after (KeyChanged key what) found = option_map (change_in key what) found
bucket_after (UploadAdded key id u) found = option_map (upload_change_in key id (λ old. Some u)) found
bucket_after (PartPut key id n part) found = option_map (upload_change_in key id (option_map (with_part n part))) found
bucket_after (UploadDropped key id) found = option_map (upload_change_in key id (λ old. None)) found
bucket_after (UploadCompleted key id what) found =
    option_map (upload_change_in key id (λ old. None)) (option_map (change_in key what) found)

-- the catalogue with this bucket of a name, or without one
abbrev pub with_bucket : {B : Type 0} → Catalogue B → List ℕ → Option (Bucket B) → Catalogue B
with_bucket c name None = map.remove c name
with_bucket c name (Some b) = map.insert c name b

-- the catalogue after a change of the bucket of a name
abbrev pub changed : {B : Type 0} → Catalogue B → List ℕ → Change B → Catalogue B
changed c name change = with_bucket c name (bucket_after change (map.get c name))
