-- Documents in XML are read back.
use Rattle.std.proofs.Common.{◌≡◌, refl, ◌≤◌, Bool, true, false, if◌then◌else◌, ℕ, suc, length, List, [], ◌∷◌, ◌++◌, codes, is_none, is_some, Option, Some, None, option_map, arith}
use Rattle.std.specs.List.{flat_map, list_all}
use Rattle.std.proofs.lemmas.Bool.{and_parts, lt-ltb}
use Rattle.s3_versions.specs.declared.version.Versioning.TheVariants.{Unversioned, Enabled, Suspended}
use Rattle.s3_versions.specs.declared.version.Versioning.{Versioning}
use Rattle.s3_names.specs.Ids.{upload_id_text, version_id_text}
use Rattle.s3_deletions.specs.declared.told.DeletionRow.{DeletionRow}
use Rattle.s3_deletions.specs.declared.told.DeletionRow.TheVariants.{Deleted, Fault}
use Rattle.s3_names.specs.declared.ids.VersionId.{VersionId}
use Rattle.s3_records.specs.declared.rows.VersionRow.{VersionRow}
use Rattle.s3_listings.specs.Pages.{next_of}
use Rattle.s3_listings.specs.Rolled.{next_row}
use Rattle.s3_xml.specs.Documents.{goes_on, is_document, document_of}
use Rattle.s3_xml.specs.Events.{Event, leaf, element, text_in}
use Rattle.s3_xml.specs.Events as xml
use Rattle.s3_xml.specs.Laws.{is_name, is_namespace, is_plain, Fits, ContentsFit, DocumentsAreReadBack}
use Rattle.s3_documents.specs.Document.{Document, buckets, objects, versions, uploads, parts, begun, completed, deletions, copied, part_copied, versioning, location, tags, error}
use Rattle.s3_documents.specs.Laws.{XmlIsReadBack}
use Rattle.s3_documents.specs.Location.{constraint_told}
use Rattle.s3_documents.specs.Printed.{told}
use Rattle.s3_documents.specs.Buckets.{bucket_row}
use Rattle.s3_documents.specs.Copied.{copied_fields}
use Rattle.s3_documents.specs.Deleted.{deleted_fields, fault_fields}
use Rattle.s3_documents.specs.Error.{error_elements}
use Rattle.s3_documents.specs.NextPage.{next_key}
use Rattle.s3_documents.specs.ObjectList.{prefix_row, key_count, token_told, delimiter_told}
use Rattle.s3_documents.specs.PartList.{part_fields, number_of_part}
use Rattle.s3_documents.specs.Spelling.{document_text}
use Rattle.s3_documents.specs.Tree.{Value, text, encodable, number, truth, moment, Fields}
use Rattle.s3_documents.specs.Upload.{begun_fields}
use Rattle.s3_documents.specs.UploadList.{upload_marker_told, key_of_upload, id_of_upload}
use Rattle.s3_documents.specs.VersionList.{key_of_row, id_of_row, tag_of_facts, size_of_facts}
use Rattle.s3_documents.specs.Versioning.{versioning_fields}
use Rattle.s3_documents.specs.Xml.{in_first, in_second, marker_asked, next_marker, standard, encoding_told, completed_elements, plain, objects_manner, owned_manner, content_of, fields_events, element_of, owner, owner_fields, owner_in, owned, listed, bucket_events, object_before, object_behind, object_events, prefix_events, version_name, version_before, version_behind, version_events, begun_before, begun_behind, upload_events, part_events, deletion_events, objects_before, objects_between, objects_behind, versions_before, versions_between, versions_behind, uploads_before, uploads_behind, parts_before, parts_behind, root_of, namespace, namespace_of, events_of}
use Rattle.s3_documents.specs.declared.xml.Manner.{Manner}
use Rattle.s3_terms.specs.Code.{name_of, message_of}
use Rattle.s3_terms.specs.declared.dialect.Dialect.TheVariants.{S3}

-- ---- fields whose names are names

abbrev IsNamed : Fields → Type 0
IsNamed fields = list_all (λ f. is_name f.0) fields ≡ true

told_named : (name : List ℕ) (value : Option Value) → is_name name ≡ true → IsNamed (told name value)
told_named name None is = refl
told_named name (Some value) is = rw is refl

joined : (xs ys : Fields) → IsNamed xs → IsNamed ys → IsNamed (xs ++ ys)
joined [] ys h k = k
joined (x ∷ xs) ys h k =
    let parts = and_parts (is_name x.0) (list_all (λ f. is_name f.0) xs) h in
    rw (parts.0) (joined xs ys parts.1 k)

version_named : (is_marker : Bool) → is_name (if is_marker then codes "DeleteMarker" else codes "Version") ≡ true
version_named true = refl
version_named false = refl

versioning_named : (state : Versioning) → IsNamed (versioning_fields state)
versioning_named Unversioned = refl
versioning_named Enabled = refl
versioning_named Suspended = refl

-- what stands in rows and beside them
version_before_named : (tag : Option Value) (latest key made : Value)
    → IsNamed (told (codes "ETag") tag ++ (codes "IsLatest", latest) ∷ (codes "Key", key) ∷ (codes "LastModified", made) ∷ [])
version_before_named None latest key made = refl
version_before_named (Some tag) latest key made = refl

version_behind_named : (size class : Option Value) (id : Value)
    → IsNamed (told (codes "Size") size ++ told (codes "StorageClass") class ++ (codes "VersionId", id) ∷ [])
version_behind_named None None id = refl
version_behind_named None (Some class) id = refl
version_behind_named (Some size) None id = refl
version_behind_named (Some size) (Some class) id = refl

between_named : (name prefix most : Value) (delimiter : Option Value)
    → IsNamed ((codes "Name", name) ∷ (codes "Prefix", prefix) ∷ told (codes "Delimiter") delimiter ++ (codes "MaxKeys", most) ∷ [])
between_named name prefix most None = refl
between_named name prefix most (Some delimiter) = refl

two_named : (one two : List ℕ) (x y : Option Value) → is_name one ≡ true → is_name two ≡ true → IsNamed (told one x ++ told two y)
two_named one two x y first second = joined (told one x) (told two y) (told_named one x first) (told_named two y second)

objects_behind_named : (encoding count token next start : Option Value)
    → IsNamed (
    told (codes "EncodingType") encoding
    ++ told (codes "KeyCount") count
    ++ told (codes "ContinuationToken") token
    ++ told (codes "NextContinuationToken") next
    ++ told (codes "StartAfter") start
    )
objects_behind_named encoding count token next start =
    let first = told (codes "EncodingType") encoding ++ told (codes "KeyCount") count in
    let second = first ++ told (codes "ContinuationToken") token in
    joined (second ++ told (codes "NextContinuationToken") next) (told (codes "StartAfter") start)
    (joined second (told (codes "NextContinuationToken") next)
    (joined first (told (codes "ContinuationToken") token)
    (two_named (codes "EncodingType") (codes "KeyCount") encoding count refl refl) (told_named (codes "ContinuationToken") token refl))
    (told_named (codes "NextContinuationToken") next refl))
    (told_named (codes "StartAfter") start refl)

uploads_before_named : (bucket key id prefix most more : Value) (next_key delimiter next_id : Option Value)
    → IsNamed (
    (codes "Bucket", bucket)
    ∷ (codes "KeyMarker", key)
    ∷ (codes "UploadIdMarker", id)
    ∷ told (codes "NextKeyMarker") next_key
    ++ (codes "Prefix", prefix)
    ∷ told (codes "Delimiter") delimiter
    ++ told (codes "NextUploadIdMarker") next_id
    ++ (codes "MaxUploads", most)
    ∷ (codes "IsTruncated", more)
    ∷ []
    )
uploads_before_named bucket key id prefix most more None None None = refl
uploads_before_named bucket key id prefix most more None None (Some next_id) = refl
uploads_before_named bucket key id prefix most more None (Some delimiter) None = refl
uploads_before_named bucket key id prefix most more None (Some delimiter) (Some next_id) = refl
uploads_before_named bucket key id prefix most more (Some next_key) None None = refl
uploads_before_named bucket key id prefix most more (Some next_key) None (Some next_id) = refl
uploads_before_named bucket key id prefix most more (Some next_key) (Some delimiter) None = refl
uploads_before_named bucket key id prefix most more (Some next_key) (Some delimiter) (Some next_id) = refl

parts_before_named : (bucket key id marker most more : Value) (next : Option Value)
    → IsNamed (
    (codes "Bucket", bucket)
    ∷ (codes "Key", key)
    ∷ (codes "UploadId", id)
    ∷ (codes "PartNumberMarker", marker)
    ∷ told (codes "NextPartNumberMarker") next
    ++ (codes "MaxParts", most)
    ∷ (codes "IsTruncated", more)
    ∷ []
    )
parts_before_named bucket key id marker most more None = refl
parts_before_named bucket key id marker most more (Some next) = refl

deleted_named : (key : List ℕ) (version marker : Option VersionId) → IsNamed (deleted_fields key version marker)
deleted_named key None None = refl
deleted_named key None (Some marker) = refl
deleted_named key (Some version) None = refl
deleted_named key (Some version) (Some marker) = refl

fault_named : (code key message : Value) (version : Option Value)
    → IsNamed ((codes "Code", code) ∷ (codes "Key", key) ∷ (codes "Message", message) ∷ told (codes "VersionId") version)
fault_named code key message None = refl
fault_named code key message (Some version) = refl

-- ---- what fits, by what is known of that

module _ (law : ContentsFit) where
  fields_fit : (manner : Manner) (fields : Fields) → IsNamed fields → Fits 1 (fields_events manner fields)
  fields_fit manner [] named = law.deeper 0 1 [] (omega arith) law.nothing
  fields_fit manner (f ∷ fields) named =
      let parts = and_parts (is_name f.0) (list_all (λ f. is_name f.0) fields) named in
      law.several 1 (leaf f.0 (content_of manner f.1)) (fields_events manner fields)
      (law.leaves f.0 (content_of manner f.1) parts.0) (fields_fit manner fields parts.1)

  fields_within : (manner : Manner) (levels : ℕ) (fields : Fields) → 1 ≤ levels → IsNamed fields → Fits levels (fields_events manner fields)
  fields_within manner levels fields less named = law.deeper 1 levels (fields_events manner fields) less (fields_fit manner fields named)

  element_fits : (manner : Manner) (name : List ℕ) (fields : Fields) → is_name name ≡ true → IsNamed fields → Fits 2 (element_of manner name fields)
  element_fits manner name fields is named = law.elements name 1 (fields_events manner fields) is (fields_fit manner fields named)

  owner_fits : Fits 2 owner
  owner_fits = element_fits plain (codes "Owner") owner_fields refl refl

  owner_in_fits : (tells_owner : Bool) → Fits 2 (if tells_owner then owner else [])
  owner_in_fits true = owner_fits
  owner_in_fits false = law.deeper 0 2 [] (omega arith) law.nothing

  owned_fits : (manner : Manner) (name : List ℕ) (before behind : Fields) → is_name name ≡ true → IsNamed before → IsNamed behind
      → Fits 3 (owned manner name before behind)
  owned_fits manner name before behind is first last =
      law.elements name 2 (fields_events manner before ++ owner_in manner ++ fields_events manner behind) is
      (law.several 2 (fields_events manner before ++ owner_in manner) (fields_events manner behind)
      (law.several 2 (fields_events manner before) (owner_in manner) (fields_within manner 2 before (omega arith) first) (owner_in_fits manner.tells_owner))
      (fields_within manner 2 behind (omega arith) last))

  rows_fit : {A : Type 0} (levels : ℕ) (events : A → List Event) → ((x : A) → Fits levels (events x)) → (xs : List A) → Fits levels (flat_map events xs)
  rows_fit levels events each [] = law.deeper 0 levels [] (omega arith) law.nothing
  rows_fit levels events each (x ∷ xs) = law.several levels (events x) (flat_map events xs) (each x) (rows_fit levels events each xs)

  listed_fits : (manner : Manner) (before behind : Fields) (list : List Event) → IsNamed before → Fits 3 list → IsNamed behind
      → Fits 3 (listed manner before list behind)
  listed_fits manner before behind list first rows last =
      law.several 3 (fields_events manner before ++ list) (fields_events manner behind)
      (law.several 3 (fields_events manner before) list (fields_within manner 3 before (omega arith) first) rows)
      (fields_within manner 3 behind (omega arith) last)

  version_fits : (manner : Manner) (row : VersionRow) → Fits 3 (version_events manner row)
  version_fits manner row =
      owned_fits manner (version_name row) (version_before row) (version_behind row) (version_named (is_none row.facts))
      (version_before_named (option_map tag_of_facts row.facts) (truth row.is_latest) (encodable row.key) (moment row.moment))
      (version_behind_named (option_map size_of_facts row.facts) (option_map (λ facts. standard) row.facts) (text (version_id_text row.id)))

  deletion_fits : (is_quiet : Bool) (row : DeletionRow) → Fits 2 (deletion_events is_quiet row)
  deletion_fits true (Deleted key version marker) = law.deeper 0 2 [] (omega arith) law.nothing
  deletion_fits false (Deleted key version marker) =
      element_fits plain (codes "Deleted") (deleted_fields key version marker) refl (deleted_named key version marker)
  deletion_fits is_quiet (Fault fault) =
      element_fits plain (codes "Error") (fault_fields fault) refl
      (fault_named (text (name_of fault.code)) (text fault.key) (text (message_of fault.code)) (option_map text fault.version))

  deletions_fit : (is_quiet : Bool) (rows : List DeletionRow) → Fits 3 (events_of (deletions is_quiet rows))
  deletions_fit is_quiet rows =
      law.deeper 2 3 (events_of (deletions is_quiet rows)) (omega arith) (rows_fit 2 (deletion_events is_quiet) (deletion_fits is_quiet) rows)

  buckets_fit : (list : _) → Fits 3 (events_of (buckets list))
  buckets_fit list =
      law.several 3 (element (codes "Buckets") (flat_map (bucket_events plain) list)) owner
      (law.elements (codes "Buckets") 2 (flat_map (bucket_events plain) list) refl
      (rows_fit 2 (bucket_events plain) (λ bucket. element_fits plain (codes "Bucket") (bucket_row bucket) refl refl) list))
      (law.deeper 2 3 owner (omega arith) owner_fits)

  -- rows and common prefixes, with fields in front of them, between them and behind them
  rolled_fit : {A : Type 0} (manner : Manner) (events : A → List Event) (before between behind : Fields) (rows : List A) (prefixes : List (List ℕ))
      → IsNamed before → ((row : A) → Fits 3 (events row)) → IsNamed between → IsNamed behind
      → Fits 3 (fields_events manner before ++ flat_map events rows ++ listed manner between (flat_map (prefix_events manner) prefixes) behind)
  rolled_fit manner events before between behind rows prefixes first each middle last =
      law.several 3 (fields_events manner before ++ flat_map events rows) (listed manner between (flat_map (prefix_events manner) prefixes) behind)
      (law.several 3 (fields_events manner before) (flat_map events rows) (fields_within manner 3 before (omega arith) first) (rows_fit 3 events each rows))
      (listed_fits manner between behind (flat_map (prefix_events manner) prefixes) middle
      (rows_fit 3 (prefix_events manner) (λ prefix. law.deeper 2 3 (prefix_events manner prefix) (omega arith) (element_fits manner (codes "CommonPrefixes") (prefix_row prefix) refl refl)) prefixes)
      last)

  objects_fit : (name : List ℕ) (asked : _) (page : _) → Fits 3 (events_of (objects name asked page))
  objects_fit name asked page =
      let manner = objects_manner asked in
      rolled_fit manner (object_events manner) (objects_before asked page) (objects_between name asked) (objects_behind asked page) page.contents page.prefixes
      (two_named (codes "Marker") (codes "NextMarker") (in_first asked.version (Some (marker_asked asked.token)))
      (in_first asked.version (next_marker asked.delimiter page.next)) refl refl)
      (λ object. owned_fits manner (codes "Contents") (object_before object) (object_behind object) refl refl refl)
      (between_named (text name) (encodable asked.prefix) (number asked.max_keys) (delimiter_told asked.delimiter))
      (objects_behind_named (encoding_told asked.is_url_encoded) (in_second asked.version (Some (number (key_count page))))
      (in_second asked.version (option_map token_told asked.token)) (in_second asked.version (option_map token_told page.next))
      (in_second asked.version (option_map encodable asked.start_after)))

  versions_fit : (name : List ℕ) (asked : _) (page : _) → Fits 3 (events_of (versions name asked page))
  versions_fit name asked page =
      let manner = owned_manner asked.is_url_encoded in
      rolled_fit manner (version_events manner) (versions_before asked page) (versions_between name asked) (versions_behind asked) page.rows page.prefixes
      (two_named (codes "NextKeyMarker") (codes "NextVersionIdMarker") (next_key key_of_row page) (option_map id_of_row (next_row page)) refl refl)
      (version_fits manner)
      (between_named (text name) (encodable asked.prefix) (number asked.max_keys) (delimiter_told asked.delimiter))
      (told_named (codes "EncodingType") (encoding_told asked.is_url_encoded) refl)

  uploads_fit : (name : List ℕ) (asked : _) (page : _) → Fits 3 (events_of (uploads name asked page))
  uploads_fit name asked page =
      let manner = owned_manner asked.is_url_encoded in
      rolled_fit manner (upload_events manner) (uploads_before name asked page) [] (uploads_behind asked) page.rows page.prefixes
      (uploads_before_named (text name) (encodable asked.key_marker) (text (upload_marker_told asked.id_marker)) (encodable asked.prefix)
      (number asked.max_uploads) (truth (is_some page.next)) (next_key key_of_upload page) (delimiter_told asked.delimiter) (option_map id_of_upload (next_row page)))
      (λ row. owned_fits manner (codes "Upload") (begun_before row) (begun_behind row) refl refl refl) refl
      (told_named (codes "EncodingType") (encoding_told asked.is_url_encoded) refl)

  parts_fit : (bucket key : List ℕ) (id : ℕ) (asked : _) (page : _) → Fits 3 (events_of (parts bucket key id asked page))
  parts_fit bucket key id asked page =
      let before = fields_events plain (parts_before bucket key id asked page) in
      let list = flat_map (part_events plain) page.given in
      law.several 3 (before ++ list ++ owner) (fields_events plain parts_behind)
      (law.several 3 (before ++ list) owner
      (law.several 3 before list
      (fields_within plain 3 (parts_before bucket key id asked page) (omega arith)
      (parts_before_named (text bucket) (text key) (text (upload_id_text id)) (number asked.marker) (number asked.max_parts) (truth page.is_truncated)
      (option_map number_of_part (next_of page))))
      (rows_fit 3 (part_events plain) (λ row. law.deeper 2 3 (part_events plain row) (omega arith) (element_fits plain (codes "Part") (part_fields row) refl refl)) page.given))
      (law.deeper 2 3 owner (omega arith) owner_fits))
      (fields_within plain 3 parts_behind (omega arith) refl)

root_named : (document : Document) → is_name (root_of document) ≡ true
root_named (buckets list) = refl
root_named (objects name asked page) = refl
root_named (versions name asked page) = refl
root_named (uploads name asked page) = refl
root_named (parts bucket key id asked page) = refl
root_named (begun bucket key id) = refl
root_named (completed bucket key tag) = refl
root_named (deletions is_quiet rows) = refl
root_named (copied tag made) = refl
root_named (part_copied tag made) = refl
root_named (versioning state) = refl
root_named (location region) = refl
root_named tags = refl
root_named (error code answer) = refl

namespace_fits : (document : Document) → is_namespace (namespace_of document) ≡ true
namespace_fits (buckets list) = refl
namespace_fits (objects name asked page) = refl
namespace_fits (versions name asked page) = refl
namespace_fits (uploads name asked page) = refl
namespace_fits (parts bucket key id asked page) = refl
namespace_fits (begun bucket key id) = refl
namespace_fits (completed bucket key tag) = refl
namespace_fits (deletions is_quiet rows) = refl
namespace_fits (copied tag made) = refl
namespace_fits (part_copied tag made) = refl
namespace_fits (versioning state) = refl
namespace_fits (location region) = refl
namespace_fits tags = refl
namespace_fits (error code answer) = refl

-- a text alone fits in a root, though not in front of another one
text_plain : (s : List ℕ) → is_plain false (text_in s) ≡ true
text_plain [] = refl
text_plain (b ∷ s) = rw (lt-ltb 0 (suc (length s)) (omega arith)) refl

text_closed : (region : List ℕ) → is_document (element (codes "LocationConstraint") (text_in region)) ≡ true
unfolding goes_on
text_closed [] = refl
text_closed (b ∷ region) = refl

-- ---- documents

abbrev IsReadBack : Document → Type 0
IsReadBack document = document_of (document_text S3 document) ≡ Some (xml.text (10 ∷ []) ∷ element (root_of document) (events_of document))

fitting : ContentsFit → (document : Document) → Fits 3 (events_of document) → IsReadBack document
fitting law document fits =
    law.documents (root_of document) (namespace_of document) (events_of document) (root_named document) (namespace_fits document)
    (law.deeper 3 15 (events_of document) (omega arith) fits)

fields_read_back : ContentsFit → (document : Document) (fields : Fields) → events_of document ≡ fields_events plain fields → IsNamed fields → IsReadBack document
fields_read_back law document fields are named =
    fitting law document (rw are (fields_within law plain 3 fields (omega arith) named))

pub xml_read_back : DocumentsAreReadBack → ContentsFit → XmlIsReadBack
xml_read_back read law (buckets list) = fitting law (buckets list) (buckets_fit law list)
xml_read_back read law (objects name asked page) = fitting law (objects name asked page) (objects_fit law name asked page)
xml_read_back read law (versions name asked page) = fitting law (versions name asked page) (versions_fit law name asked page)
xml_read_back read law (uploads name asked page) = fitting law (uploads name asked page) (uploads_fit law name asked page)
xml_read_back read law (parts bucket key id asked page) = fitting law (parts bucket key id asked page) (parts_fit law bucket key id asked page)
xml_read_back read law (begun bucket key id) = fields_read_back law (begun bucket key id) (begun_fields bucket key id) refl refl
xml_read_back read law (completed bucket key tag) = fields_read_back law (completed bucket key tag) (completed_elements bucket key tag) refl refl
xml_read_back read law (deletions is_quiet rows) = fitting law (deletions is_quiet rows) (deletions_fit law is_quiet rows)
xml_read_back read law (copied tag made) = fields_read_back law (copied tag made) (copied_fields tag made) refl refl
xml_read_back read law (part_copied tag made) = fields_read_back law (part_copied tag made) (copied_fields tag made) refl refl
xml_read_back read law (versioning state) = fields_read_back law (versioning state) (versioning_fields state) refl (versioning_named state)
xml_read_back read law (location region) =
    read (codes "LocationConstraint") namespace (text_in (constraint_told region)) refl refl (text_plain (constraint_told region))
    (text_closed (constraint_told region))
xml_read_back read law tags = fitting law tags (law.deeper 2 3 (events_of tags) (omega arith) (element_fits law plain (codes "TagSet") [] refl refl))
xml_read_back read law (error code answer) = fields_read_back law (error code answer) (error_elements code answer) refl refl
