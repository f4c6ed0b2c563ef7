-- The members of documents, computed.
use Rattle.std.proofs.Common.{refl, ℕ, List, [], ◌∷◌, ◌++◌, map, Option, Some, None, option_map, is_some, codes}
use Rattle.std.specs.Prelude.{is_none}
use Rattle.std.specs.List.{All}
use Rattle.std.proofs.lemmas.List.Elements.{All-nil, All-cons, All-append}
use Rattle.s3_versions.specs.declared.version.Versioning.{Versioning}
use Rattle.s3_versions.specs.declared.version.Versioning.TheVariants.{Unversioned, Enabled, Suspended}
use Rattle.s3_names.specs.Ids.{version_id_text, upload_id_text}
use Rattle.s3_listings.specs.Pages.{next_of}
use Rattle.s3_listings.specs.Rolled.{next_row}
use Rattle.s3_documents.specs.Buckets.{bucket_row}
use Rattle.s3_documents.specs.Copied.{copied_fields}
use Rattle.s3_documents.specs.Document.{buckets, objects, versions, uploads, parts, begun, completed, deletions, copied, part_copied, versioning, location, tags, error}
use Rattle.s3_documents.specs.Error.{error_fields}
use Rattle.s3_documents.specs.Location.{location_fields}
use Rattle.s3_documents.specs.NextPage.{next_key}
use Rattle.s3_documents.specs.ObjectList.{object_row, prefix_row, objects_fields, key_count, token_told, delimiter_told}
use Rattle.s3_documents.specs.PartList.{part_fields, parts_fields, upload_named, number_of_part}
use Rattle.s3_documents.specs.Printed.{told}
use Rattle.s3_documents.specs.Tree.{Value, text, encodable, number, truth, moment, Fields, Branch, leaf, rows, leaves}
use Rattle.s3_documents.specs.Upload.{begun_fields, completed_fields}
use Rattle.s3_documents.specs.UploadList.{upload_fields, uploads_fields, upload_marker_told, key_of_upload, id_of_upload}
use Rattle.s3_documents.specs.VersionList.{version_fields, versions_fields, tag_of_facts, size_of_facts, marker_told, key_of_row, id_of_row}
use Rattle.s3_documents.specs.Versioning.{versioning_fields}
use Rattle.s3_rule_laws.specs.Members.{MemberNamesRise, RowsRise, MembersRise}

-- ---- rows

abbrev Within : List ℕ × Branch → Type 0
Within member = RowsRise member.1

rows_rise : {X : Type 0} (row : X → Fields) → ((x : X) → MemberNamesRise (row x)) → (xs : List X) → All MemberNamesRise (map row xs)
rows_rise row rise [] = All-nil MemberNamesRise
rows_rise row rise (x ∷ xs) = All-cons MemberNamesRise (row x) (map row xs) (rise x) (rows_rise row rise xs)

leaves_rise : (fields : Fields) → All Within (leaves fields)
leaves_rise [] = All-nil Within
leaves_rise (field ∷ fields) = All-cons Within (field.0, leaf field.1) (leaves fields) tt (leaves_rise fields)

between_rise : (before : Fields) (name : List ℕ) (list : List Fields) (behind : Fields) → All MemberNamesRise list → All Within (leaves before ++ (name, rows list) ∷ leaves behind)
between_rise before name list behind all =
    All-append Within (leaves before) ((name, rows list) ∷ leaves behind) (leaves_rise before)
    (All-cons Within (name, rows list) (leaves behind) all (leaves_rise behind))

-- ---- those that may be left out

version_row : (d l k m i : Value) (tag size : Option Value)
    → MemberNamesRise ((codes "DeleteMarker", d) ∷ told (codes "ETag") tag ++ (codes "IsLatest", l) ∷ (codes "Key", k) ∷ (codes "LastModified", m) ∷ told (codes "Size") size ++ (codes "VersionId", i) ∷ [])
version_row d l k m i None None = refl
version_row d l k m i None (Some size) = refl
version_row d l k m i (Some tag) None = refl
version_row d l k m i (Some tag) (Some size) = refl

versions_top : (t k m n p i : Value) (next id : Option Value) (list : List Fields)
    → MemberNamesRise (
    leaves (
    (codes "IsTruncated", t)
    ∷ (codes "KeyMarker", k)
    ∷ (codes "MaxKeys", m)
    ∷ (codes "Name", n)
    ∷ told (codes "NextKeyMarker") next
    ++ told (codes "NextVersionIdMarker") id
    ++ (codes "Prefix", p)
    ∷ (codes "VersionIdMarker", i)
    ∷ [])
    ++ (codes "Versions", rows list)
    ∷ leaves [])
versions_top t k m n p i None None list = refl
versions_top t k m n p i None (Some id) list = refl
versions_top t k m n p i (Some next) None list = refl
versions_top t k m n p i (Some next) (Some id) list = refl

uploads_top : (b t k m p i : Value) (next id : Option Value) (list : List Fields)
    → MemberNamesRise (
    leaves (
    (codes "Bucket", b)
    ∷ (codes "IsTruncated", t)
    ∷ (codes "KeyMarker", k)
    ∷ (codes "MaxUploads", m)
    ∷ told (codes "NextKeyMarker") next
    ++ told (codes "NextUploadIdMarker") id
    ++ (codes "Prefix", p)
    ∷ (codes "UploadIdMarker", i)
    ∷ [])
    ++ (codes "Uploads", rows list)
    ∷ leaves [])
uploads_top b t k m p i None None list = refl
uploads_top b t k m p i None (Some id) list = refl
uploads_top b t k m p i (Some next) None list = refl
uploads_top b t k m p i (Some next) (Some id) list = refl

parts_top : (b t k m p i : Value) (next : Option Value) (list : List Fields)
    → MemberNamesRise (
    leaves (
    (codes "Bucket", b)
    ∷ (codes "IsTruncated", t)
    ∷ (codes "Key", k)
    ∷ (codes "MaxParts", m)
    ∷ told (codes "NextPartNumberMarker") next
    ++ (codes "PartNumberMarker", p)
    ∷ [])
    ++ (codes "Parts", rows list)
    ∷ leaves ((codes "UploadId", i) ∷ []))
parts_top b t k m p i None list = refl
parts_top b t k m p i (Some next) list = refl

objects_top : (t c m n p : Value) (token delimiter next start : Option Value) (prefixes contents : List Fields)
    → MemberNamesRise (
    (codes "CommonPrefixes", rows prefixes)
    ∷ (codes "Contents", rows contents)
    ∷ leaves (
    told (codes "ContinuationToken") token
    ++ told (codes "Delimiter") delimiter
    ++ (codes "IsTruncated", t)
    ∷ (codes "KeyCount", c)
    ∷ (codes "MaxKeys", m)
    ∷ (codes "Name", n)
    ∷ []
    ++ told (codes "NextContinuationToken") next
    ++ (codes "Prefix", p)
    ∷ told (codes "StartAfter") start))
objects_top t c m n p None None None None prefixes contents = refl
objects_top t c m n p None None None (Some s) prefixes contents = refl
objects_top t c m n p None None (Some e) None prefixes contents = refl
objects_top t c m n p None None (Some e) (Some s) prefixes contents = refl
objects_top t c m n p None (Some d) None None prefixes contents = refl
objects_top t c m n p None (Some d) None (Some s) prefixes contents = refl
objects_top t c m n p None (Some d) (Some e) None prefixes contents = refl
objects_top t c m n p None (Some d) (Some e) (Some s) prefixes contents = refl
objects_top t c m n p (Some k) None None None prefixes contents = refl
objects_top t c m n p (Some k) None None (Some s) prefixes contents = refl
objects_top t c m n p (Some k) None (Some e) None prefixes contents = refl
objects_top t c m n p (Some k) None (Some e) (Some s) prefixes contents = refl
objects_top t c m n p (Some k) (Some d) None None prefixes contents = refl
objects_top t c m n p (Some k) (Some d) None (Some s) prefixes contents = refl
objects_top t c m n p (Some k) (Some d) (Some e) None prefixes contents = refl
objects_top t c m n p (Some k) (Some d) (Some e) (Some s) prefixes contents = refl

versioning_top : (state : Versioning) → MemberNamesRise (leaves (versioning_fields state))
versioning_top Unversioned = refl
versioning_top Enabled = refl
versioning_top Suspended = refl

-- ---- documents

pub members_rise : MembersRise
members_rise (buckets list) = record {
  top = refl;
  within = All-cons Within (codes "Buckets", rows (map bucket_row list)) [] (rows_rise bucket_row (λ bucket. refl) list) (All-nil Within);
}
members_rise (objects name asked page) = record {
  top = objects_top (truth (is_some page.next)) (number (key_count page)) (number asked.max_keys) (text name) (encodable asked.prefix)
      (option_map token_told asked.token) (delimiter_told asked.delimiter) (option_map token_told page.next) (option_map encodable asked.start_after)
      (map prefix_row page.prefixes) (map object_row page.contents);
  within =
      All-cons Within (codes "CommonPrefixes", rows (map prefix_row page.prefixes)) ((codes "Contents", rows (map object_row page.contents)) ∷ leaves (objects_fields name asked page))
      (rows_rise prefix_row (λ prefix. refl) page.prefixes)
      (All-cons Within (codes "Contents", rows (map object_row page.contents)) (leaves (objects_fields name asked page))
      (rows_rise object_row (λ object. refl) page.contents) (leaves_rise (objects_fields name asked page)));
}
members_rise (versions name asked page) = record {
  top = versions_top (truth (is_some page.next)) (encodable asked.key_marker) (number asked.max_keys) (text name) (encodable asked.prefix) (text (marker_told asked.id_marker))
      (next_key key_of_row page) (option_map id_of_row (next_row page)) (map version_fields page.rows);
  within = between_rise (versions_fields name asked page) (codes "Versions") (map version_fields page.rows) []
      (rows_rise version_fields (λ row.
      version_row (truth (is_none row.facts)) (truth row.is_latest) (encodable row.key) (moment row.moment) (text (version_id_text row.id))
      (option_map tag_of_facts row.facts) (option_map size_of_facts row.facts)) page.rows);
}
members_rise (uploads name asked page) = record {
  top = uploads_top (text name) (truth (is_some page.next)) (encodable asked.key_marker) (number asked.max_uploads) (encodable asked.prefix) (text (upload_marker_told asked.id_marker))
      (next_key key_of_upload page) (option_map id_of_upload (next_row page)) (map upload_fields page.rows);
  within = between_rise (uploads_fields name asked page) (codes "Uploads") (map upload_fields page.rows) [] (rows_rise upload_fields (λ row. refl) page.rows);
}
members_rise (parts bucket key id asked page) = record {
  top = parts_top (text bucket) (truth page.is_truncated) (text key) (number asked.max_parts) (number asked.marker) (text (upload_id_text id))
      (option_map number_of_part (next_of page)) (map part_fields page.given);
  within = between_rise (parts_fields bucket key asked page) (codes "Parts") (map part_fields page.given) (upload_named id) (rows_rise part_fields (λ row. refl) page.given);
}
members_rise (begun bucket key id) = record { top = refl; within = leaves_rise (begun_fields bucket key id) }
members_rise (completed bucket key tag) = record { top = refl; within = leaves_rise (completed_fields bucket key tag) }
members_rise (deletions is_quiet list) = record { top = refl; within = All-nil Within }
members_rise (copied tag made) = record { top = refl; within = leaves_rise (copied_fields tag made) }
members_rise (part_copied tag made) = record { top = refl; within = leaves_rise (copied_fields tag made) }
members_rise (versioning state) = record { top = versioning_top state; within = leaves_rise (versioning_fields state) }
members_rise (location region) = record { top = refl; within = leaves_rise (location_fields region) }
members_rise tags = record { top = refl; within = All-nil Within }
members_rise (error code n) = record { top = refl; within = leaves_rise (error_fields code) }
