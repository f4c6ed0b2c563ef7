-- Rows that are made of values: what their columns say, and that a row is again what it was made of.
use Rattle.std.specs.Prelude.{◌≡◌, ℕ, ℤ, pos, IsTrue, List, []}
use Rattle.std.specs.List.{flat_map}
use Rattle.s3_versions.specs.declared.version.Content.TheVariants.{DeleteMarker, Stored}
use Rattle.s3_versions.specs.declared.version.Data.{Data}
use Rattle.s3_versions.specs.declared.version.Versioning.{Versioning}
use Rattle.s3_versions.specs.Rules.{made, new_id}
use Rattle.s3_uploads.specs.declared.part.Part.{Part}
use Rattle.s3_uploads.specs.declared.upload.Upload.{Upload}
use Rattle.s3_rows.specs.Columns.{BucketColumns, VersionColumns, UploadColumns, PartColumns}
use Rattle.s3_rows.specs.Finding.{id_column}
use Rattle.s3_rows.specs.Meaning.{version_of, part_of}
use Rattle.s3_rows.specs.Soundness.{is_bucket_row, is_version_row, is_upload_row, is_part_row}
use Rattle.s3_rows.specs.UploadLaws.{upload_begun}
use Rattle.s3_columns.specs.Columns.{versioning_in}
use Rattle.s3_stored_bodies.specs.Numbers.{Contents, bytes_under}
use Rattle.s3_stored_rows.specs.Bodies.{encoding, version_numbers, part_numbers}
use Rattle.s3_row_values.specs.declared.described.Described.{Described}
use Rattle.s3_row_values.specs.declared.described.DescribedPart.{DescribedPart}

-- the bytes under these numbers, one behind another
abbrev pub bytes_of : Contents → List ℕ → List ℕ
bytes_of contents numbers = flat_map (bytes_under contents) numbers

-- what a put stored, with the bytes under these numbers
abbrev pub data_with : Contents → List ℕ → Described → Data (List ℕ)
data_with contents numbers d =
    record { tag = d.tag; size = d.size; content_type = d.content_type; metadata = d.metadata; body = bytes_of contents numbers }

-- a part with the bytes under these numbers
abbrev pub part_with : Contents → List ℕ → DescribedPart → Part (List ℕ)
part_with contents numbers p = record { digest = p.digest; moment = p.moment; size = p.size; body = bytes_of contents numbers }

-- the row of a bucket that was made at moment t and has this versioning
pub record IsBucketRow (b : BucketColumns) (row : ℤ) (name : List ℕ) (t : ℕ) (versioning : Versioning) : Type 0 where
  pub row_is : b.row ≡ row
  pub name_is : b.name ≡ name
  pub made_is : b.made ≡ pos t
  pub mode_is : versioning_in b.mode ≡ versioning
  pub fits : IsTrue (is_bucket_row b)

-- the row stands at a place: under a key of a bucket, with the id of what entry n makes
pub record IsPlaced (v : VersionColumns) (row : ℤ) (bucket key : List ℕ) (versioning : Versioning) (n : ℕ) : Type 0 where
  pub row_is : v.row ≡ row
  pub bucket_is : v.bucket ≡ bucket
  pub key_is : v.key ≡ key
  pub id_is : v.id ≡ id_column (new_id versioning n)
  pub fits : IsTrue (is_version_row v)

-- the row of what entry n puts there at moment t, whose bytes stand under these numbers
pub record IsVersionRow (v : VersionColumns) (row : ℤ) (bucket key : List ℕ) (versioning : Versioning) (n t : ℕ) (d : Described) (numbers : List ℕ) : Type 0 where
  pub placed : IsPlaced v row bucket key versioning n
  pub names : version_numbers v ≡ numbers
  pub means : (contents : Contents) → version_of (encoding contents) v ≡ made versioning n t (Stored (data_with contents numbers d))

-- the row of the delete marker that entry n makes there at moment t
pub record IsMarkerRow (v : VersionColumns) (row : ℤ) (bucket key : List ℕ) (versioning : Versioning) (n t : ℕ) : Type 0 where
  pub placed : IsPlaced v row bucket key versioning n
  pub names : version_numbers v ≡ []
  pub means : (contents : Contents) → version_of (encoding contents) v ≡ made versioning n t DeleteMarker

-- the row of an upload that was begun with this media type and metadata
pub record IsUploadRow (u : UploadColumns) (row : ℤ) (bucket key : List ℕ) (id : ℕ) (begun : Upload (List ℕ)) : Type 0 where
  pub row_is : u.row ≡ row
  pub bucket_is : u.bucket ≡ bucket
  pub key_is : u.key ≡ key
  pub id_is : u.id ≡ pos id
  pub fits : IsTrue (is_upload_row u)
  pub means : (contents : Contents) → upload_begun (encoding contents) u ≡ record begun { parts = [] }

-- the row of a part of the upload in a row, whose bytes stand under these numbers
pub record IsPartRow (p : PartColumns) (row upload : ℤ) (number : ℕ) (d : DescribedPart) (numbers : List ℕ) : Type 0 where
  pub row_is : p.row ≡ row
  pub upload_is : p.upload ≡ upload
  pub part_is : p.part ≡ pos number
  pub fits : IsTrue (is_part_row p)
  pub names : part_numbers p ≡ numbers
  pub means : (contents : Contents) → part_of (encoding contents) p ≡ part_with contents numbers d
