-- The state of a server, and one step of it (Amazon S3 API Reference, the operations that are named; Amazon S3 User
-- Guide, "Using versioning in S3 buckets" and "Uploading and copying objects using multipart upload").
use Rattle.std.specs.Prelude.{ℕ, ◌+◌, Bool, true, false, not, ◌&&◌, nat_le, nat_lt, List, [], ◌++◌, length, take, drop, codes, decimal, Option, Some, None, is_some, option_and_then, find, Result, Ok, Err, ok_or}
use Rattle.std.specs.Option.{option_map, option_map_or, unwrap_or}
use Rattle.md5.specs.Md5.{md5}
use Rattle.s3_bodies.specs.Payload.{tag_of}
use Rattle.s3_terms.specs.declared.code.Code.{Code}
use Rattle.s3_terms.specs.declared.code.Code.TheVariants.{NoSuchBucket, BucketAlreadyOwnedByYou, BucketNotEmpty, InvalidArgument, InvalidRequest, MethodNotAllowed, NoSuchKey, NoSuchUpload, PreconditionFailed}
use Rattle.s3_names.specs.declared.ids.VersionId.{VersionId}
use Rattle.s3_conditions.specs.declared.conditions.Conditions.{Conditions}
use Rattle.s3_conditions.specs.declared.conditions.Selection.{Selection}
use Rattle.s3_conditions.specs.declared.conditions.Selection.TheVariants.{Whole, Outside}
use Rattle.s3_conditions.specs.Conditions.{judged}
use Rattle.s3_conditions.specs.Tags.{matches}
use Rattle.s3_versions.specs.declared.picking.Facts.{Facts}
use Rattle.s3_versions.specs.declared.picking.Refusal.{Refusal}
use Rattle.s3_versions.specs.declared.version.Data.{Data}
use Rattle.s3_versions.specs.declared.version.Version.{Version}
use Rattle.s3_versions.specs.declared.version.Versioning.{Versioning}
use Rattle.s3_versions.specs.declared.version.Versioning.TheVariants.{Unversioned, Enabled, Suspended}
use Rattle.s3_versions.specs.Metadata.{Entry}
use Rattle.s3_versions.specs.Rules.{id_of, is_under, stored, is_delete_marker, current, pick, facts_of, new_id, VersionPut, KeyDeleted, VersionDropped}
use Rattle.s3_deletions.specs.Deletions.{rows_told}
use Rattle.s3_uploads.specs.Completion.{completed}
use Rattle.s3_uploads.specs.Parts.{part_sent, part_tag}
use Rattle.s3_uploads.specs.declared.part.Part.{Part}
use Rattle.s3_uploads.specs.declared.upload.Upload.{Upload}
use Rattle.s3_records.specs.Catalogue.{Catalogue, has_bucket, listed_buckets, is_empty_bucket, versions_of, versioning_of}
use Rattle.s3_records.specs.Rows.{key_rows}
use Rattle.s3_records.specs.Changes.{BucketAdded, BucketDropped, VersioningSet, KeyChanged, UploadAdded, PartPut, UploadDropped, UploadCompleted, changed}
use Rattle.s3_records.specs.Deletions.{all_deleted, markers_of}
use Rattle.s3_records.specs.OpenUploads.{upload_at}
use Rattle.s3_listings.specs.Objects.{objects_told}
use Rattle.s3_listings.specs.Parts.{parts_page}
use Rattle.s3_listings.specs.Uploads.{uploads_told}
use Rattle.s3_listings.specs.Versions.{versions_told}
use Rattle.s3_documents.specs.Document as documents
use Rattle.s3_machine.specs.declared.command.BucketCommand.{BucketCommand}
use Rattle.s3_machine.specs.declared.command.BucketCommand.TheVariants as bucket_commands
use Rattle.s3_machine.specs.declared.command.Command.{Command}
use Rattle.s3_machine.specs.declared.command.Command.TheVariants as commands
use Rattle.s3_machine.specs.declared.command.KeyCommand.{KeyCommand}
use Rattle.s3_machine.specs.declared.command.KeyCommand.TheVariants as key_commands
use Rattle.s3_machine.specs.declared.command.CopyRange.{CopyRange}
use Rattle.s3_machine.specs.declared.command.Description.{Description}
use Rattle.s3_machine.specs.declared.command.ObjectCopy.{ObjectCopy}
use Rattle.s3_machine.specs.declared.command.ObjectPut.{ObjectPut}
use Rattle.s3_machine.specs.declared.command.Source.{Source}
use Rattle.s3_machine.specs.declared.command.UploadCommand.{UploadCommand}
use Rattle.s3_machine.specs.declared.command.UploadCommand.TheVariants as upload_commands
use Rattle.s3_machine.specs.declared.command.WriteCondition.{WriteCondition}
use Rattle.s3_machine.specs.declared.command.WriteCondition.TheVariants as write_conditions
use Rattle.s3_machine.specs.declared.command.Found.{Found}
use Rattle.s3_machine.specs.declared.command.Outcome.{Outcome}
use Rattle.s3_machine.specs.declared.command.Outcome.TheVariants as outcomes
use Rattle.s3_machine.specs.declared.rules.Rules.{Rules}
use Rattle.s3_terms.specs.Fault.{◌>>◌, ◌>>=◌}
use Rattle.s3_machine.specs.Configuration.{absence_of}
use Rattle.s3_machine.specs.Fault.{refuse, as_refusal}

-- the buckets, with their keys and the versions under these, and with the uploads that are open, with their bytes
abbrev pub State : Type 0
State = Catalogue (List ℕ)

-- the state after a step, and what came of the command
abbrev pub Stepped : Type 0
Stepped = State × Outcome

-- the id that a reply shows: none where versioning never was set
abbrev pub shown_in : Versioning → VersionId → Option VersionId
shown_in Unversioned id = None
shown_in Enabled id = Some id
shown_in Suspended id = Some id

-- a DELETE that names no version makes a delete marker where versioning was ever set
abbrev pub makes_marker : Versioning → Bool
makes_marker Unversioned = false
makes_marker Enabled = true
makes_marker Suspended = true

-- the version of an id is a delete marker
abbrev pub is_marker_under : {B : Type 0} → VersionId → List (Version B) → Bool
is_marker_under id vs = unwrap_or (option_map is_delete_marker (find (is_under id) vs)) false

-- a key has an object: it has a current version, and that is no delete marker
abbrev pub is_taken : State → List ℕ → List ℕ → Bool
is_taken s name key = is_some (option_and_then stored (current (versions_of s name key)))

-- the tag of the object that a key has
abbrev pub tag_at : State → List ℕ → List ℕ → Option (List ℕ)
tag_at s name key = option_map (λ (what : Data (List ℕ)). what.tag) (option_and_then stored (current (versions_of s name key)))

-- a write with this condition is kept from storing where the key has an object of this tag, or none (Amazon S3 API Reference,
-- PutObject, `If-None-Match` and `If-Match`)
abbrev pub is_barred : WriteCondition → Option (List ℕ) → Bool
is_barred write_conditions.Unconditional found = false
is_barred write_conditions.IfAbsent found = is_some found
is_barred (write_conditions.IfMatch tags) found = not (option_map_or (matches tags) found false)

-- and is refused for it: where there is no object, none can match
abbrev pub barred_code : Option (List ℕ) → Code
barred_code None = NoSuchKey
barred_code (Some tag) = PreconditionFailed

-- what a put stores
abbrev pub data_of : ObjectPut → Data (List ℕ)
data_of put =
    record {
      tag = tag_of put.payload;
      content_type = put.content_type;
      metadata = put.metadata;
      size = length put.payload;
      body = put.payload;
    }

-- what is told of a version that is read, and what it stores
abbrev pub found_in : {B : Type 0} → Versioning → Version B × Data B → Found B
found_in versioning read =
    record { shown = shown_in versioning (id_of read.0); moment = read.0.moment; stored = read.1 }

-- a copy of what can't be read is refused as the read is, but it never tells of a delete marker: that an id names one is
-- a fault of the request (Amazon S3 User Guide, "Working with delete markers")
abbrev pub source_code : Code → Code
source_code MethodNotAllowed = InvalidRequest
source_code other = other

abbrev pub read_for_copy : {B : Type 0} → Result (Version B × Data B) Refusal → Result (Version B × Data B) Refusal
read_for_copy (Ok read) = Ok read
read_for_copy (Err refusal) = Err (record { code = source_code refusal.code; is_delete_marker = false })

-- all of a version is shown
abbrev pub shows_all : Result Selection Code → Bool
shows_all (Ok Whole) = true
shows_all (Ok other) = false
shows_all (Err code) = false

-- a version may be copied where a read by the same conditions would show all of it (Amazon S3 API Reference, CopyObject,
-- `x-amz-copy-source-if-match` and its like)
abbrev pub may_be_copied : Conditions → Facts → Bool
may_be_copied conditions facts = shows_all (judged conditions facts.moment facts.tag facts.size)

-- the version that a copy is from: the one that a read of the source picks, where that meets the conditions
unfoldable pub source_found : State → Source → Result (Found (List ℕ)) Refusal
source_found s source = do
  refuse (not (has_bucket s source.bucket)) NoSuchBucket
  read ← read_for_copy (pick source.version (versions_of s source.bucket source.key))
  refuse (not (may_be_copied source.conditions (facts_of read))) PreconditionFailed
  Ok (found_in (versioning_of s source.bucket) read)

-- what is stored of a source, by what is said of the copy: where nothing is, all that its source has
abbrev pub described : {B : Type 0} → Option Description → Data B → Data B
described None what = what
described (Some said) what = record what { content_type = said.content_type; metadata = said.metadata }

-- what a copy stores
unfoldable pub copied : State → ObjectCopy → Result (Data (List ℕ)) Refusal
copied s copy = do
  found ← source_found s copy.source
  Ok (described copy.description found.stored)

-- the range lies in so many bytes; where none is named, all do
abbrev pub lies_in : Option CopyRange → ℕ → Bool
lies_in None size = true
lies_in (Some range) size = nat_le range.first range.last && nat_lt range.last size

-- the bytes of the range
abbrev pub cut : Option CopyRange → List ℕ → List ℕ
cut None bytes = bytes
cut (Some range) bytes = drop range.first (take (range.last + 1) bytes)

-- the range, as a request spells it
abbrev pub range_text : Option CopyRange → List ℕ
range_text None = []
range_text (Some range) = codes "bytes=" ++ decimal range.first ++ codes "-" ++ decimal range.last

-- the part that is copied at moment t: its digest is the MD5 of its source's tag and of the range, so that no byte is hashed again
abbrev pub part_copied : ℕ → Option CopyRange → Data (List ℕ) → Part (List ℕ)
part_copied t range what =
    record {
      digest = md5 (what.tag ++ range_text range);
      moment = t;
      size = length (cut range what.body);
      body = cut range what.body;
    }

-- what comes of a read by what is shown of the version, and what is to be said of it: where no byte of it is in the range, how many
-- bytes it has
abbrev pub outcome_shown : Found (List ℕ) → List Entry → Selection → Outcome
outcome_shown found overrides Outside = outcomes.OutOfRange found.stored.size
outcome_shown found overrides other = outcomes.Got found other overrides

-- what is shown of a version by the conditions of a read
abbrev pub shown_by : Conditions → Facts → Result Selection Refusal
shown_by conditions facts = as_refusal (judged conditions facts.moment facts.tag facts.size)

-- what a command on a bucket does at moment t
unfoldable pub bucket_done : Rules → State → ℕ → List ℕ → BucketCommand → Result Stepped Refusal
bucket_done rules s t name bucket_commands.Create = do
  refuse (has_bucket s name) BucketAlreadyOwnedByYou
  Ok (changed s name (BucketAdded t), outcomes.BucketMade name)
bucket_done rules s t name bucket_commands.Head = do
  refuse (not (has_bucket s name)) NoSuchBucket
  Ok (s, outcomes.BucketFound rules.region)
bucket_done rules s t name bucket_commands.Delete = do
  refuse (not (has_bucket s name)) NoSuchBucket
  refuse (not (is_empty_bucket s name)) BucketNotEmpty
  Ok (changed s name BucketDropped, outcomes.BucketDropped)
bucket_done rules s t name (bucket_commands.PutVersioning status) = do
  refuse (not (has_bucket s name)) NoSuchBucket
  Ok (changed s name (VersioningSet status), outcomes.VersioningSet)
bucket_done rules s t name bucket_commands.GetVersioning = do
  refuse (not (has_bucket s name)) NoSuchBucket
  Ok (s, outcomes.BucketVersioning (versioning_of s name))
bucket_done rules s t name bucket_commands.GetLocation = do
  refuse (not (has_bucket s name)) NoSuchBucket
  Ok (s, outcomes.Told (documents.location rules.region))
bucket_done rules s t name (bucket_commands.GetConfiguration which) = do
  refuse (not (has_bucket s name)) NoSuchBucket
  as_refusal (Err (absence_of which))
bucket_done rules s t name (bucket_commands.ListObjects asked) = do
  refuse (not (has_bucket s name)) NoSuchBucket
  Ok (s, outcomes.Told (documents.objects name asked (objects_told asked (key_rows s name))))
bucket_done rules s t name (bucket_commands.ListVersions asked) = do
  refuse (not (has_bucket s name)) NoSuchBucket
  Ok (s, outcomes.Told (documents.versions name asked (versions_told asked s name)))
bucket_done rules s t name (bucket_commands.ListUploads asked) = do
  refuse (not (has_bucket s name)) NoSuchBucket
  Ok (s, outcomes.Told (documents.uploads name asked (uploads_told asked s name)))

-- the upload that begins at moment t
abbrev pub upload_begun : ℕ → Description → Upload (List ℕ)
upload_begun t begin =
    record { moment = t; content_type = begin.content_type; metadata = begin.metadata; parts = [] }

-- what a delete does that names no version, as entry n at moment t
abbrev pub delete_step : State → ℕ → ℕ → List ℕ → List ℕ → Stepped
delete_step s n t name key = (
  changed s name (KeyChanged key (KeyDeleted n t)),
  outcomes.Deleted (shown_in (versioning_of s name) (new_id (versioning_of s name) n)) (makes_marker (versioning_of s name)),
)

-- what a command on a key does, as entry n at moment t, in a bucket that is there
unfoldable pub key_done : State → ℕ → ℕ → List ℕ → List ℕ → KeyCommand → Result Stepped Refusal
key_done s n t name key (key_commands.Put put) = do
  refuse (is_barred put.condition (tag_at s name key)) (barred_code (tag_at s name key))
  Ok (
    changed s name (KeyChanged key (VersionPut n t (data_of put))),
    outcomes.Put (tag_of put.payload) (shown_in (versioning_of s name) (new_id (versioning_of s name) n)),
  )
key_done s n t name key (key_commands.Copy copy) = do
  stored ← copied s copy
  Ok (
    changed s name (KeyChanged key (VersionPut n t stored)),
    outcomes.Copied stored.tag t (shown_in (versioning_of s name) (new_id (versioning_of s name) n)),
  )
key_done s n t name key (key_commands.Read asked) = do
  read ← pick asked.version (versions_of s name key)
  selection ← shown_by asked.conditions (facts_of read)
  Ok (s, outcome_shown (found_in (versioning_of s name) read) asked.overrides selection)
key_done s n t name key (key_commands.ReadTags version) = do
  read ← pick version (versions_of s name key)
  Ok (s, outcomes.NoTags (shown_in (versioning_of s name) (id_of read.0)))
key_done s n t name key (key_commands.Delete None) = Ok (delete_step s n t name key)
key_done s n t name key (key_commands.Delete (Some id)) =
    Ok (
      changed s name (KeyChanged key (VersionDropped id)),
      outcomes.Deleted (shown_in (versioning_of s name) id) (is_marker_under id (versions_of s name key)),
    )
key_done s n t name key (key_commands.DeleteMatching tags) = do
  refuse (is_barred (write_conditions.IfMatch tags) (tag_at s name key)) (barred_code (tag_at s name key))
  Ok (delete_step s n t name key)
key_done s n t name key (key_commands.Begin begin) =
    Ok (changed s name (UploadAdded key n (upload_begun t begin)), outcomes.Told (documents.begun name key n))

-- the upload of an id to a key, where it is open
abbrev pub open_upload : State → List ℕ → List ℕ → ℕ → Result (Upload (List ℕ)) Refusal
open_upload s name key id = as_refusal (ok_or (upload_at s name key id) NoSuchUpload)

-- what a command on an upload does, as entry n at moment t, in a bucket that is there
unfoldable pub upload_done : Rules → State → ℕ → ℕ → List ℕ → List ℕ → ℕ → UploadCommand → Result Stepped Refusal
upload_done rules s n t name key id (upload_commands.PutPart number payload) = do
  _ ← open_upload s name key id
  Ok (changed s name (PartPut key id number (part_sent t payload)), outcomes.PartPut (tag_of payload))
upload_done rules s n t name key id (upload_commands.CopyPart number copy) = do
  _ ← open_upload s name key id
  found ← source_found s copy.source
  refuse (not (lies_in copy.range found.stored.size)) InvalidArgument
  Ok (
    changed s name (PartPut key id number (part_copied t copy.range found.stored)),
    outcomes.PartCopied (part_tag (part_copied t copy.range found.stored)) t found.shown,
  )
upload_done rules s n t name key id (upload_commands.Complete listed condition) = do
  upload ← open_upload s name key id
  refuse (is_barred condition (tag_at s name key)) (barred_code (tag_at s name key))
  stored ← as_refusal (completed rules.least_part listed upload)
  Ok (
    changed s name (UploadCompleted key id (VersionPut n t stored)),
    outcomes.Completed
        (documents.completed name key stored.tag) stored.tag (shown_in (versioning_of s name) (new_id (versioning_of s name) n)),
  )
upload_done rules s n t name key id upload_commands.Abort = do
  _ ← open_upload s name key id
  Ok (changed s name (UploadDropped key id), outcomes.UploadDropped)
upload_done rules s n t name key id (upload_commands.ListParts asked) = do
  upload ← open_upload s name key id
  Ok (s, outcomes.Told (documents.parts name key id asked (parts_page asked upload.parts)))

-- what a command does, as entry n at moment t: the first refusal, or the change and what came of it
unfoldable pub done : Rules → State → ℕ → ℕ → Command → Result Stepped Refusal
done rules s n t commands.ListBuckets = Ok (s, outcomes.Told (documents.buckets (listed_buckets s)))
done rules s n t (commands.Bucket name asked) = bucket_done rules s t name asked
done rules s n t (commands.Key name key asked) = do
  refuse (not (has_bucket s name)) NoSuchBucket
  key_done s n t name key asked
done rules s n t (commands.Upload name key id asked) = do
  refuse (not (has_bucket s name)) NoSuchBucket
  upload_done rules s n t name key id asked
done rules s n t (commands.DeleteObjects name deletion) = do
  refuse (not (has_bucket s name)) NoSuchBucket
  Ok (
    all_deleted s name n t deletion.objects,
    outcomes.Told
        (documents.deletions deletion.is_quiet (rows_told deletion.objects (markers_of s name n t deletion.objects))),
  )

-- a refusal leaves the state as it was
abbrev pub stepped : State → Result Stepped Refusal → Stepped
stepped s (Ok result) = result
stepped s (Err refusal) = (s, outcomes.Refused refusal.code refusal.is_delete_marker)

-- one step
abbrev pub step : Rules → State → ℕ → ℕ → Command → Stepped
step rules s n t command = stepped s (done rules s n t command)
