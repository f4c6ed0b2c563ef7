-- What the documents of replies tell, as facts (Amazon S3 API Reference, the operations that are named).
use Rattle.std.specs.Prelude.{ℕ, Bool, List, []}
use Rattle.s3_terms.specs.declared.code.Code.{Code}
use Rattle.s3_versions.specs.declared.version.Versioning.{Versioning}
use Rattle.s3_prefixes.specs.declared.asked.ObjectsAsked.{ObjectsAsked}
use Rattle.s3_deletions.specs.declared.told.DeletionRow.{DeletionRow}
use Rattle.s3_uploads.specs.declared.part.PartRow.{PartRow}
use Rattle.s3_records.specs.declared.records.ListedBucket.{ListedBucket}
use Rattle.s3_records.specs.declared.rows.UploadRow.{UploadRow}
use Rattle.s3_records.specs.declared.rows.VersionRow.{VersionRow}
use Rattle.s3_listings.specs.declared.asked.PartsAsked.{PartsAsked}
use Rattle.s3_listings.specs.declared.asked.UploadsAsked.{UploadsAsked}
use Rattle.s3_listings.specs.declared.asked.VersionsAsked.{VersionsAsked}
use Rattle.s3_listings.specs.Objects.{ObjectsTold}
use Rattle.s3_listings.specs.Pages.{Page}
use Rattle.s3_listings.specs.Rolled.{RowsTold}
use Rattle.s3_documents.specs.Buckets.{buckets_tree}
use Rattle.s3_documents.specs.Copied.{copied_fields}
use Rattle.s3_documents.specs.Error.{error_fields}
use Rattle.s3_documents.specs.Location.{location_fields}
use Rattle.s3_documents.specs.ObjectList.{objects_tree}
use Rattle.s3_documents.specs.PartList.{parts_tree}
use Rattle.s3_documents.specs.Tree.{Tree, leaves}
use Rattle.s3_documents.specs.Upload.{begun_fields, completed_fields}
use Rattle.s3_documents.specs.UploadList.{uploads_tree}
use Rattle.s3_documents.specs.VersionList.{versions_tree}
use Rattle.s3_documents.specs.Versioning.{versioning_fields}

pub data Document : Type 0 where
  -- ListBuckets: the buckets
  buckets : List ListedBucket → Document
  -- ListObjects and ListObjectsV2, ListObjectVersions and ListMultipartUploads: the bucket, what was asked, and the page
  objects : List ℕ → ObjectsAsked → ObjectsTold → Document
  versions : List ℕ → VersionsAsked → RowsTold VersionRow → Document
  uploads : List ℕ → UploadsAsked → RowsTold UploadRow → Document
  -- ListParts: the bucket, the key and the id of the upload, what was asked, and the page
  parts : (bucket key : List ℕ) → ℕ → PartsAsked → Page PartRow → Document
  -- CreateMultipartUpload: the bucket, the key and the id of the upload
  begun : (bucket key : List ℕ) → ℕ → Document
  -- CompleteMultipartUpload: the bucket, the key, and the tag of the version that was made
  completed : (bucket key tag : List ℕ) → Document
  -- DeleteObjects: whether only faults are told, and a row for each object
  deletions : Bool → List DeletionRow → Document
  -- CopyObject: the tag of the version that was made, and its moment
  copied : List ℕ → ℕ → Document
  -- UploadPartCopy: the tag of the part that was made, and its moment
  part_copied : List ℕ → ℕ → Document
  -- GetBucketVersioning
  versioning : Versioning → Document
  -- GetBucketLocation: the region
  location : List ℕ → Document
  -- GetObjectTagging: no tags
  tags : Document
  -- of a refusal: its code, and the number of the answer
  error : Code → ℕ → Document

-- what a document tells, under the names that JSON documents have for it; the rows of a DeleteObjects and a set of tags are
-- told in XML alone
abbrev pub tree_of : Document → Tree
tree_of (buckets rows) = buckets_tree rows
tree_of (objects name asked page) = objects_tree name asked page
tree_of (versions name asked page) = versions_tree name asked page
tree_of (uploads name asked page) = uploads_tree name asked page
tree_of (parts bucket key id asked page) = parts_tree bucket key id asked page
tree_of (begun bucket key id) = leaves (begun_fields bucket key id)
tree_of (completed bucket key tag) = leaves (completed_fields bucket key tag)
tree_of (deletions is_quiet rows) = []
tree_of (copied tag made) = leaves (copied_fields tag made)
tree_of (part_copied tag made) = leaves (copied_fields tag made)
tree_of (versioning state) = leaves (versioning_fields state)
tree_of (location region) = leaves (location_fields region)
tree_of tags = []
tree_of (error code number) = leaves (error_fields code)
