-- What the tables keep.
use Rattle.std.specs.Prelude.{ℕ, ℤ, pos, negsuc, int_le, ◌&&◌, ◌||◌, Bool, List}
use Rattle.std.specs.List.{list_any}
use Rattle.std.specs.Ordering.{int_eq}
use Rattle.sqlite_keyed.specs.Keyed.{IsKeyedBy, has_key}
use Rattle.sqlite_keyed.specs.Rules.{AllPass, AreApart}
use Rattle.s3_rows.specs.Columns.{BucketColumns, VersionColumns, UploadColumns, PartColumns, Tables}
use Rattle.s3_rows.specs.Finding.{is_named, is_at, is_version, is_upload, is_part}

-- the rowids
abbrev pub bucket_row : BucketColumns → ℤ
bucket_row b = b.row

abbrev pub version_row : VersionColumns → ℤ
version_row v = v.row

abbrev pub upload_row : UploadColumns → ℤ
upload_row u = u.row

abbrev pub part_row : PartColumns → ℤ
part_row p = p.row

-- two rows that may not stand in one table: buckets of one name, versions of one place with one number, or with one id, uploads
-- of one place, and parts of one upload with one number
abbrev pub same_name : BucketColumns → BucketColumns → Bool
same_name a b = is_named b.name a

abbrev pub same_number : VersionColumns → VersionColumns → Bool
same_number a b = is_at b.bucket b.key a && int_eq a.number b.number

abbrev pub same_version : VersionColumns → VersionColumns → Bool
same_version a b = is_version b.bucket b.key b.id a

abbrev pub same_upload : UploadColumns → UploadColumns → Bool
same_upload a b = is_upload b.bucket b.key b.id a

abbrev pub same_part : PartColumns → PartColumns → Bool
same_part a b = is_part b.upload b.part a

-- not below 0
abbrev pub is_count : ℤ → Bool
is_count n = int_le (pos 0) n

-- the integers of a row are in range
abbrev pub is_bucket_row : BucketColumns → Bool
is_bucket_row b = is_count b.made && (is_count b.mode && int_le b.mode (pos 2))

-- and the id of a version is -1 or its number
abbrev pub has_own_id : VersionColumns → Bool
has_own_id v = int_eq v.id (negsuc 0) || int_eq v.id v.number

abbrev pub is_version_row : VersionColumns → Bool
is_version_row v =
    is_count v.number && (has_own_id v && (is_count v.moment && (is_count v.size && (int_eq v.marker (pos 0) || int_eq v.marker (pos 1)))))

abbrev pub is_upload_row : UploadColumns → Bool
is_upload_row u = is_count u.id && is_count u.moment

abbrev pub is_part_row : PartColumns → Bool
is_part_row p = (int_le (pos 1) p.part && int_le p.part (pos 10000)) && (is_count p.moment && is_count p.size)

-- there is a row of a bucket of this name
abbrev pub has_bucket_row : List BucketColumns → List ℕ → Bool
has_bucket_row bs name = list_any (is_named name) bs

-- of each table the rowids rise, no two rows stand where one may, and integers are in range
pub record AreBuckets (bs : List BucketColumns) : Type 0 where
  pub rise : IsKeyedBy bucket_row bs
  pub names : AreApart same_name bs
  pub fit : AllPass is_bucket_row bs

pub record AreVersions (vs : List VersionColumns) : Type 0 where
  pub rise : IsKeyedBy version_row vs
  pub numbers : AreApart same_number vs
  pub ids : AreApart same_version vs
  pub fit : AllPass is_version_row vs

pub record AreUploads (us : List UploadColumns) : Type 0 where
  pub rise : IsKeyedBy upload_row us
  pub ids : AreApart same_upload us
  pub fit : AllPass is_upload_row us

pub record AreParts (ps : List PartColumns) : Type 0 where
  pub rise : IsKeyedBy part_row ps
  pub numbers : AreApart same_part ps
  pub fit : AllPass is_part_row ps

-- and what a row names is there: the bucket of a version and of an upload, and the upload of a part
pub record AreSound (t : Tables) : Type 0 where
  pub buckets : AreBuckets t.buckets
  pub versions : AreVersions t.versions
  pub uploads : AreUploads t.uploads
  pub parts : AreParts t.parts
  pub version_buckets : AllPass (λ v. has_bucket_row t.buckets v.bucket) t.versions
  pub upload_buckets : AllPass (λ u. has_bucket_row t.buckets u.bucket) t.uploads
  pub part_uploads : AllPass (λ p. has_key upload_row t.uploads p.upload) t.parts
