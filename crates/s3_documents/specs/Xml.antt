-- What documents tell in XML, element by element in the order of the Amazon S3 API Reference; what it names beside that
-- is left out. One owner has all: whoever runs the server. Where `encoding-type=url` is asked, keys and what keys are
-- compared with are told UriEncoded; where `fetch-owner=true` is, objects are told with their owner.
use Rattle.std.specs.Prelude.{ℕ, ◌==◌, Bool, true, false, not, if◌then◌else◌, List, [], ◌∷◌, ◌++◌, length, codes, decimal, Option, Some, None, option_map, is_some, is_none}
use Rattle.std.specs.List.{flat_map}
use Rattle.std.specs.Option.{unwrap_or}
use Rattle.s3_canonical.specs.Encoding.{encode_path}
use Rattle.s3_names.specs.Ids.{upload_id_text, version_id_text}
use Rattle.s3_deletions.specs.declared.told.DeletionRow.{DeletionRow}
use Rattle.s3_deletions.specs.declared.told.DeletionRow.TheVariants.{Deleted, Fault}
use Rattle.s3_prefixes.specs.declared.asked.ListVersion.{ListVersion}
use Rattle.s3_prefixes.specs.declared.asked.ListVersion.TheVariants.{First, Second}
use Rattle.s3_prefixes.specs.declared.asked.ObjectsAsked.{ObjectsAsked}
use Rattle.s3_uploads.specs.declared.part.PartRow.{PartRow}
use Rattle.s3_records.specs.declared.records.ListedBucket.{ListedBucket}
use Rattle.s3_records.specs.declared.rows.UploadRow.{UploadRow}
use Rattle.s3_records.specs.declared.rows.VersionRow.{VersionRow}
use Rattle.s3_listings.specs.declared.asked.PartsAsked.{PartsAsked}
use Rattle.s3_listings.specs.declared.asked.UploadsAsked.{UploadsAsked}
use Rattle.s3_listings.specs.declared.asked.VersionsAsked.{VersionsAsked}
use Rattle.s3_listings.specs.declared.object_page.ListedObject.{ListedObject}
use Rattle.s3_listings.specs.Objects.{ObjectsTold}
use Rattle.s3_listings.specs.Pages.{Page, next_of}
use Rattle.s3_listings.specs.Rolled.{RowsTold, next_row}
use Rattle.s3_documents.specs.Buckets.{bucket_row}
use Rattle.s3_documents.specs.Copied.{tag_told, copied_fields}
use Rattle.s3_documents.specs.Deleted.{deleted_fields, fault_fields}
use Rattle.s3_documents.specs.Document.{Document, buckets, objects, versions, uploads, parts, begun, completed, deletions, copied, part_copied, versioning, location, tags, error}
use Rattle.s3_documents.specs.Error.{error_elements}
use Rattle.s3_documents.specs.Location.{constraint_told}
use Rattle.s3_documents.specs.NextPage.{next_key}
use Rattle.s3_documents.specs.ObjectList.{prefix_row, key_count, token_told, delimiter_told}
use Rattle.s3_documents.specs.PartList.{part_fields, number_of_part}
use Rattle.s3_documents.specs.Printed.{told}
use Rattle.s3_documents.specs.Timestamp.{timestamp}
use Rattle.s3_documents.specs.Tree.{Value, text, encodable, number, truth, moment, Fields}
use Rattle.s3_documents.specs.Upload.{begun_fields}
use Rattle.s3_documents.specs.UploadList.{upload_marker_told, key_of_upload, id_of_upload}
use Rattle.s3_documents.specs.VersionList.{marker_told, key_of_row, id_of_row, tag_of_facts, size_of_facts}
use Rattle.s3_documents.specs.Versioning.{versioning_fields}
use Rattle.s3_documents.specs.declared.xml.Manner.{Manner}
use Rattle.s3_xml.specs.Events.{Event, element}
use Rattle.s3_xml.specs.Events as xml
use Rattle.s3_xml.specs.Writer.{is_special}

-- a byte that stands in a text as it is, whatever stands behind it
abbrev pub is_plain : ℕ → Bool
is_plain b = not (is_special b)

-- ---- what is asked of the form

-- nothing
abbrev pub plain : Manner
plain = record { is_url_encoded = false; tells_owner = false }

-- of ListObjects and ListObjectsV2; and of ListObjectVersions and ListMultipartUploads, whose rows have an owner always
abbrev pub objects_manner : ObjectsAsked → Manner
objects_manner asked = record { is_url_encoded = asked.is_url_encoded; tells_owner = asked.tells_owner }

abbrev pub owned_manner : Bool → Manner
owned_manner is_url_encoded = record { is_url_encoded = is_url_encoded; tells_owner = true }

-- a key, and what keys are compared with, as it is told: UriEncoded (AWS Signature Version 4), slashes kept, or as it is
abbrev pub key_told : Bool → List ℕ → List ℕ
key_told is_url_encoded key = if is_url_encoded then encode_path key else key

-- that keys are told so
abbrev pub encoding_told : Bool → Option Value
encoding_told is_url_encoded = if is_url_encoded then Some (text (codes "url")) else None

-- ---- fields and rows

-- the text of a value
abbrev pub content_of : Manner → Value → List ℕ
content_of manner (text s) = s
content_of manner (encodable s) = key_told manner.is_url_encoded s
content_of manner (number n) = decimal n
content_of manner (truth b) = if b then codes "true" else codes "false"
content_of manner (moment m) = timestamp m

-- fields, each as an element
abbrev pub fields_events : Manner → Fields → List Event
fields_events manner fields = flat_map (λ f. xml.leaf f.0 (content_of manner f.1)) fields

-- an element of fields
abbrev pub element_of : Manner → List ℕ → Fields → List Event
element_of manner name fields = element name (fields_events manner fields)

-- whom all belongs to
abbrev pub owner_fields : Fields
owner_fields = (codes "ID", text (codes "s3d")) ∷ []

abbrev pub owner : List Event
owner = element_of plain (codes "Owner") owner_fields

-- an element of fields between which an owner stands, where it is told
abbrev pub owner_in : Manner → List Event
owner_in manner = if manner.tells_owner then owner else []

abbrev pub owned : Manner → List ℕ → (before behind : Fields) → List Event
owned manner name before behind = element name (fields_events manner before ++ owner_in manner ++ fields_events manner behind)

-- how all is stored
abbrev pub standard : Value
standard = text (codes "STANDARD")

-- a row of ListBuckets
abbrev pub bucket_events : Manner → ListedBucket → List Event
bucket_events manner bucket = element_of manner (codes "Bucket") (bucket_row bucket)

-- rows of ListObjects and ListObjectsV2: an object's, and a common prefix's
abbrev pub object_before : ListedObject → Fields
object_before object =
    (codes "ETag", text (tag_told object.facts.tag))
    ∷ (codes "Key", encodable object.key)
    ∷ (codes "LastModified", moment object.facts.moment)
    ∷ []

abbrev pub object_behind : ListedObject → Fields
object_behind object = (codes "Size", number object.facts.size) ∷ (codes "StorageClass", standard) ∷ []

abbrev pub object_events : Manner → ListedObject → List Event
object_events manner object = owned manner (codes "Contents") (object_before object) (object_behind object)

abbrev pub prefix_events : Manner → List ℕ → List Event
prefix_events manner prefix = element_of manner (codes "CommonPrefixes") (prefix_row prefix)

-- a row of ListObjectVersions: a version's, or a delete marker's, which has no tag, no size and no class
abbrev pub version_name : VersionRow → List ℕ
version_name row = if is_none row.facts then codes "DeleteMarker" else codes "Version"

abbrev pub version_before : VersionRow → Fields
version_before row =
    told (codes "ETag") (option_map tag_of_facts row.facts)
    ++ (codes "IsLatest", truth row.is_latest)
    ∷ (codes "Key", encodable row.key)
    ∷ (codes "LastModified", moment row.moment)
    ∷ []

abbrev pub version_behind : VersionRow → Fields
version_behind row =
    told (codes "Size") (option_map size_of_facts row.facts)
    ++ told (codes "StorageClass") (option_map (λ facts. standard) row.facts)
    ++ (codes "VersionId", text (version_id_text row.id))
    ∷ []

abbrev pub version_events : Manner → VersionRow → List Event
version_events manner row = owned manner (version_name row) (version_before row) (version_behind row)

-- a row of ListMultipartUploads
abbrev pub begun_before : UploadRow → Fields
begun_before row = (codes "Initiated", moment row.moment) ∷ (codes "Key", encodable row.key) ∷ []

abbrev pub begun_behind : UploadRow → Fields
begun_behind row = (codes "StorageClass", standard) ∷ (codes "UploadId", text (upload_id_text row.id)) ∷ []

abbrev pub upload_events : Manner → UploadRow → List Event
upload_events manner row = owned manner (codes "Upload") (begun_before row) (begun_behind row)

-- a row of ListParts
abbrev pub part_events : Manner → PartRow → List Event
part_events manner row = element_of manner (codes "Part") (part_fields row)

-- a row of DeleteObjects: what is gone, which isn't told where only faults are, and what can't be deleted
abbrev pub deletion_events : Bool → DeletionRow → List Event
deletion_events is_quiet (Deleted key version marker) =
    if is_quiet then [] else element_of plain (codes "Deleted") (deleted_fields key version marker)
deletion_events is_quiet (Fault fault) = element_of plain (codes "Error") (fault_fields fault)

-- ---- what stands beside the rows

-- what only the first version of a list of objects tells, and what only the second one does
abbrev pub in_first : ListVersion → Option Value → Option Value
in_first First value = value
in_first Second value = None

abbrev pub in_second : ListVersion → Option Value → Option Value
in_second First value = None
in_second Second value = value

-- the marker behind which a list goes on; empty where none was asked for
abbrev pub marker_asked : Option (List ℕ) → Value
marker_asked marker = encodable (unwrap_or marker [])

-- the marker of the next page, if there is one: told only where a delimiter was asked for
abbrev pub next_marker : List ℕ → Option (List ℕ) → Option Value
next_marker delimiter next = if length delimiter == 0 then None else option_map encodable next

-- of ListObjects and ListObjectsV2: in front of the objects, between them and the common prefixes, and behind these
abbrev pub objects_before : ObjectsAsked → ObjectsTold → Fields
objects_before asked page =
    (codes "IsTruncated", truth (is_some page.next))
    ∷ told (codes "Marker") (in_first asked.version (Some (marker_asked asked.token)))
    ++ told (codes "NextMarker") (in_first asked.version (next_marker asked.delimiter page.next))

abbrev pub objects_between : List ℕ → ObjectsAsked → Fields
objects_between name asked =
    (codes "Name", text name)
    ∷ (codes "Prefix", encodable asked.prefix)
    ∷ told (codes "Delimiter") (delimiter_told asked.delimiter)
    ++ (codes "MaxKeys", number asked.max_keys)
    ∷ []

abbrev pub objects_behind : ObjectsAsked → ObjectsTold → Fields
objects_behind asked page =
    told (codes "EncodingType") (encoding_told asked.is_url_encoded)
    ++ told (codes "KeyCount") (in_second asked.version (Some (number (key_count page))))
    ++ told (codes "ContinuationToken") (in_second asked.version (option_map token_told asked.token))
    ++ told (codes "NextContinuationToken") (in_second asked.version (option_map token_told page.next))
    ++ told (codes "StartAfter") (in_second asked.version (option_map encodable asked.start_after))

-- of ListObjectVersions: in front of the rows, between them and the common prefixes, and behind these
abbrev pub versions_before : VersionsAsked → RowsTold VersionRow → Fields
versions_before asked page =
    (codes "IsTruncated", truth (is_some page.next))
    ∷ (codes "KeyMarker", encodable asked.key_marker)
    ∷ (codes "VersionIdMarker", text (marker_told asked.id_marker))
    ∷ told (codes "NextKeyMarker") (next_key key_of_row page)
    ++ told (codes "NextVersionIdMarker") (option_map id_of_row (next_row page))

abbrev pub versions_between : List ℕ → VersionsAsked → Fields
versions_between name asked =
    (codes "Name", text name)
    ∷ (codes "Prefix", encodable asked.prefix)
    ∷ told (codes "Delimiter") (delimiter_told asked.delimiter)
    ++ (codes "MaxKeys", number asked.max_keys)
    ∷ []

abbrev pub versions_behind : VersionsAsked → Fields
versions_behind asked = told (codes "EncodingType") (encoding_told asked.is_url_encoded)

-- of ListMultipartUploads: in front of the rows, and behind the common prefixes, which follow them
abbrev pub uploads_before : List ℕ → UploadsAsked → RowsTold UploadRow → Fields
uploads_before name asked page =
    (codes "Bucket", text name)
    ∷ (codes "KeyMarker", encodable asked.key_marker)
    ∷ (codes "UploadIdMarker", text (upload_marker_told asked.id_marker))
    ∷ told (codes "NextKeyMarker") (next_key key_of_upload page)
    ++ (codes "Prefix", encodable asked.prefix)
    ∷ told (codes "Delimiter") (delimiter_told asked.delimiter)
    ++ told (codes "NextUploadIdMarker") (option_map id_of_upload (next_row page))
    ++ (codes "MaxUploads", number asked.max_uploads)
    ∷ (codes "IsTruncated", truth (is_some page.next))
    ∷ []

abbrev pub uploads_behind : UploadsAsked → Fields
uploads_behind asked = told (codes "EncodingType") (encoding_told asked.is_url_encoded)

-- of ListParts, in front of the rows
abbrev pub parts_before : (bucket key : List ℕ) → ℕ → PartsAsked → Page PartRow → Fields
parts_before bucket key id asked page =
    (codes "Bucket", text bucket)
    ∷ (codes "Key", text key)
    ∷ (codes "UploadId", text (upload_id_text id))
    ∷ (codes "PartNumberMarker", number asked.marker)
    ∷ told (codes "NextPartNumberMarker") (option_map number_of_part (next_of page))
    ++ (codes "MaxParts", number asked.max_parts)
    ∷ (codes "IsTruncated", truth page.is_truncated)
    ∷ []

-- and behind them and the owner
abbrev pub parts_behind : Fields
parts_behind = (codes "StorageClass", standard) ∷ []

-- ---- documents

-- where an object is: behind its bucket, with its key UriEncoded (AWS Signature Version 4), slashes kept
abbrev pub location_told : (bucket key : List ℕ) → List ℕ
location_told bucket key = (codes "/" ++ bucket ++ codes "/") ++ encode_path key

abbrev pub completed_elements : (bucket key tag : List ℕ) → Fields
completed_elements bucket key tag =
    (codes "Location", text (location_told bucket key))
    ∷ (codes "Bucket", text bucket)
    ∷ (codes "Key", text key)
    ∷ (codes "ETag", text (tag_told tag))
    ∷ []

-- the name of a document's root
abbrev pub root_of : Document → List ℕ
root_of (buckets list) = codes "ListAllMyBucketsResult"
root_of (objects name asked page) = codes "ListBucketResult"
root_of (versions name asked page) = codes "ListVersionsResult"
root_of (uploads name asked page) = codes "ListMultipartUploadsResult"
root_of (parts bucket key id asked page) = codes "ListPartsResult"
root_of (begun bucket key id) = codes "InitiateMultipartUploadResult"
root_of (completed bucket key tag) = codes "CompleteMultipartUploadResult"
root_of (deletions is_quiet rows) = codes "DeleteResult"
root_of (copied tag made) = codes "CopyObjectResult"
root_of (part_copied tag made) = codes "CopyPartResult"
root_of (versioning state) = codes "VersioningConfiguration"
root_of (location region) = codes "LocationConstraint"
root_of tags = codes "Tagging"
root_of (error code answer) = codes "Error"

-- the namespace of S3
abbrev pub namespace : List ℕ
namespace = codes "http://s3.amazonaws.com/doc/2006-03-01/"

-- the namespace of a document's root: that of a refusal has none
abbrev pub namespace_of : Document → List ℕ
namespace_of (buckets list) = namespace
namespace_of (objects name asked page) = namespace
namespace_of (versions name asked page) = namespace
namespace_of (uploads name asked page) = namespace
namespace_of (parts bucket key id asked page) = namespace
namespace_of (begun bucket key id) = namespace
namespace_of (completed bucket key tag) = namespace
namespace_of (deletions is_quiet rows) = namespace
namespace_of (copied tag made) = namespace
namespace_of (part_copied tag made) = namespace
namespace_of (versioning state) = namespace
namespace_of (location region) = namespace
namespace_of tags = namespace
namespace_of (error code answer) = []

-- rows, with fields in front of them and behind them
abbrev pub listed : Manner → Fields → List Event → Fields → List Event
listed manner before list behind = fields_events manner before ++ list ++ fields_events manner behind

-- and with the owner between the rows and what stands behind them
abbrev pub listed_owned : Manner → Fields → List Event → Fields → List Event
listed_owned manner before list behind = fields_events manner before ++ list ++ owner ++ fields_events manner behind

-- what stands in it
abbrev pub events_of : Document → List Event
events_of (buckets list) = element (codes "Buckets") (flat_map (bucket_events plain) list) ++ owner
events_of (objects name asked page) =
    let manner = objects_manner asked in
    fields_events manner (objects_before asked page)
    ++ flat_map (object_events manner) page.contents
    ++ listed manner (objects_between name asked) (flat_map (prefix_events manner) page.prefixes) (objects_behind asked page)
events_of (versions name asked page) =
    let manner = owned_manner asked.is_url_encoded in
    fields_events manner (versions_before asked page)
    ++ flat_map (version_events manner) page.rows
    ++ listed manner (versions_between name asked) (flat_map (prefix_events manner) page.prefixes) (versions_behind asked)
events_of (uploads name asked page) =
    let manner = owned_manner asked.is_url_encoded in
    fields_events manner (uploads_before name asked page)
    ++ flat_map (upload_events manner) page.rows
    ++ listed manner [] (flat_map (prefix_events manner) page.prefixes) (uploads_behind asked)
events_of (parts bucket key id asked page) =
    listed_owned plain (parts_before bucket key id asked page) (flat_map (part_events plain) page.given) parts_behind
events_of (begun bucket key id) = fields_events plain (begun_fields bucket key id)
events_of (completed bucket key tag) = fields_events plain (completed_elements bucket key tag)
events_of (deletions is_quiet rows) = flat_map (deletion_events is_quiet) rows
events_of (copied tag made) = fields_events plain (copied_fields tag made)
events_of (part_copied tag made) = fields_events plain (copied_fields tag made)
events_of (versioning state) = fields_events plain (versioning_fields state)
events_of (location region) = xml.text_in (constraint_told region)
events_of tags = element (codes "TagSet") []
events_of (error code answer) = fields_events plain (error_elements code answer)
