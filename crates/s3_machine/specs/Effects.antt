-- What a command asks for, and what came of it, in words that every operation shares.
use Rattle.std.specs.Prelude.{ℕ, Bool, true, false, if◌then◌else◌, List, [], ◌∷◌, filter_map, Option, Some, None, option_map, Result, Ok, Err}
use Rattle.std.specs.Option.{option_or, unwrap_or}
use Rattle.std.specs.Result.{result_ok}
use Rattle.std.specs.Str.{bytes_eq}
use Rattle.s3_names.specs.declared.ids.VersionId.{VersionId}
use Rattle.s3_names.specs.declared.ids.VersionId.TheVariants.{Null}
use Rattle.s3_conditions.specs.declared.conditions.Conditions.{Conditions}
use Rattle.s3_conditions.specs.declared.conditions.Selection.{Selection}
use Rattle.s3_conditions.specs.declared.conditions.Selection.TheVariants.{Whole, Unchanged, Outside}
use Rattle.s3_conditions.specs.Conditions.{plain}
use Rattle.s3_versions.specs.declared.picking.Facts.{Facts}
use Rattle.s3_versions.specs.declared.picking.Refusal.{Refusal}
use Rattle.s3_versions.specs.declared.version.Data.{Data}
use Rattle.s3_versions.specs.declared.version.Versioning.{Versioning}
use Rattle.s3_versions.specs.Metadata.{Entry}
use Rattle.s3_versions.specs.Rules.{new_id}
use Rattle.s3_deletions.specs.declared.named.Deletion.{Deletion}
use Rattle.s3_deletions.specs.declared.named.NamedObject.{NamedObject}
use Rattle.s3_deletions.specs.declared.named.NamedObject.TheVariants as named
use Rattle.s3_deletions.specs.declared.told.DeletionRow.{DeletionRow}
use Rattle.s3_deletions.specs.declared.told.DeletionRow.TheVariants as rows
use Rattle.s3_uploads.specs.Completion.{parts_listed, joined_data}
use Rattle.s3_uploads.specs.Parts.{part_at, part_sent}
use Rattle.s3_uploads.specs.declared.listed.ListedPart.{ListedPart}
use Rattle.s3_uploads.specs.declared.part.Part.{Part}
use Rattle.s3_uploads.specs.declared.upload.Upload.{Upload}
use Rattle.s3_records.specs.Catalogue.{versioning_of}
use Rattle.s3_records.specs.OpenUploads.{upload_at, parts_at}
use Rattle.s3_documents.specs.Document as documents
use Rattle.s3_machine.specs.declared.command.BucketCommand.{BucketCommand}
use Rattle.s3_machine.specs.declared.command.BucketCommand.TheVariants as bucket_commands
use Rattle.s3_machine.specs.declared.command.Command.{Command}
use Rattle.s3_machine.specs.declared.command.Command.TheVariants as commands
use Rattle.s3_machine.specs.declared.command.KeyCommand.{KeyCommand}
use Rattle.s3_machine.specs.declared.command.KeyCommand.TheVariants as key_commands
use Rattle.s3_machine.specs.declared.command.CopyRange.{CopyRange}
use Rattle.s3_machine.specs.declared.command.PartCopy.{PartCopy}
use Rattle.s3_machine.specs.declared.command.Source.{Source}
use Rattle.s3_machine.specs.declared.command.ObjectRead.{ObjectRead}
use Rattle.s3_machine.specs.declared.command.Found.{Found}
use Rattle.s3_machine.specs.declared.command.Outcome.{Outcome}
use Rattle.s3_machine.specs.declared.command.Outcome.TheVariants as outcomes
use Rattle.s3_machine.specs.declared.command.Description.{Description}
use Rattle.s3_machine.specs.declared.command.UploadCommand.{UploadCommand}
use Rattle.s3_machine.specs.declared.command.UploadCommand.TheVariants as upload_commands
use Rattle.s3_machine.specs.declared.command.WriteCondition.{WriteCondition}
use Rattle.s3_machine.specs.declared.command.WriteCondition.TheVariants as write_conditions
use Rattle.s3_machine.specs.Step.{State, copied, data_of, makes_marker, outcome_shown, part_copied, shown_by, source_found}

-- a key of a bucket
pub record Address : Type 0 where
  pub bucket : List ℕ
  pub key : List ℕ

-- an upload: the key under which it is to store an object, and its id
pub record UploadPlace : Type 0 where
  pub address : Address
  pub id : ℕ

-- the same, by its parts
abbrev pub place_of : List ℕ → List ℕ → ℕ → UploadPlace
place_of bucket key id = record { address = record { bucket = bucket; key = key }; id = id }

-- what the upload has, if it is open
abbrev pub open_at : State → UploadPlace → Option (Upload (List ℕ))
open_at s upload = upload_at s upload.address.bucket upload.address.key upload.id

-- a part of an upload, by its number
pub record PartPlace : Type 0 where
  pub upload : UploadPlace
  pub number : ℕ

-- the part that stands there, if one does
abbrev pub part_in : State → PartPlace → Option (Part (List ℕ))
part_in s part = part_at part.number (parts_at s part.upload.address.bucket part.upload.address.key part.upload.id)

-- the addresses whose versions a command may change
abbrev pub key_written : Address → KeyCommand → List Address
key_written address (key_commands.Put put) = address ∷ []
key_written address (key_commands.Copy copy) = address ∷ []
key_written address (key_commands.Delete asked) = address ∷ []
key_written address (key_commands.DeleteMatching tags) = address ∷ []
key_written address other = []

abbrev pub upload_written : Address → UploadCommand → List Address
upload_written address (upload_commands.Complete listed condition) = address ∷ []
upload_written address other = []

-- the address of an object that is named to be deleted
abbrev pub address_named : List ℕ → NamedObject → Option Address
address_named bucket (named.Object d) = Some (record { bucket = bucket; key = d.key })
address_named bucket (named.Fault fault) = None

abbrev pub writes : Command → List Address
writes (commands.Key bucket key asked) = key_written (record { bucket = bucket; key = key }) asked
writes (commands.Upload bucket key id asked) = upload_written (record { bucket = bucket; key = key }) asked
writes (commands.DeleteObjects bucket deletion) = filter_map (address_named bucket) deletion.objects
writes other = []

-- the objects that a command deletes together, and in which bucket
abbrev pub deletes : Command → Option (List ℕ × Deletion)
deletes (commands.DeleteObjects bucket deletion) = Some (bucket, deletion)
deletes other = None

-- the address that a command deletes, naming no version: where versioning was ever set, a delete marker is to hide it
abbrev pub key_hidden : Address → KeyCommand → Option Address
key_hidden address (key_commands.Delete None) = Some address
key_hidden address (key_commands.DeleteMatching tags) = Some address
key_hidden address other = None

abbrev pub hides : Command → Option Address
hides (commands.Key bucket key asked) = key_hidden (record { bucket = bucket; key = key }) asked
hides other = None

-- the address under which a command stores only where no object is
abbrev pub where_absent : WriteCondition → Address → Option Address
where_absent write_conditions.IfAbsent address = Some address
where_absent other address = None

abbrev pub key_absent : Address → KeyCommand → Option Address
key_absent address (key_commands.Put put) = where_absent put.condition address
key_absent address other = None

abbrev pub upload_absent : Address → UploadCommand → Option Address
upload_absent address (upload_commands.Complete listed condition) = where_absent condition address
upload_absent address other = None

abbrev pub wants_absent : Command → Option Address
wants_absent (commands.Key bucket key asked) = key_absent (record { bucket = bucket; key = key }) asked
wants_absent (commands.Upload bucket key id asked) = upload_absent (record { bucket = bucket; key = key }) asked
wants_absent other = None

-- the address at which a command writes only where the object has one of some tags, and these
abbrev pub where_matching : WriteCondition → Address → Option (Address × List ℕ)
where_matching (write_conditions.IfMatch tags) address = Some (address, tags)
where_matching other address = None

abbrev pub key_matching : Address → KeyCommand → Option (Address × List ℕ)
key_matching address (key_commands.Put put) = where_matching put.condition address
key_matching address (key_commands.DeleteMatching tags) = Some (address, tags)
key_matching address other = None

abbrev pub upload_matching : Address → UploadCommand → Option (Address × List ℕ)
upload_matching address (upload_commands.Complete listed condition) = where_matching condition address
upload_matching address other = None

abbrev pub wants_matching : Command → Option (Address × List ℕ)
wants_matching (commands.Key bucket key asked) = key_matching (record { bucket = bucket; key = key }) asked
wants_matching (commands.Upload bucket key id asked) = upload_matching (record { bucket = bucket; key = key }) asked
wants_matching other = None

-- the data that a command brings along, to be stored as they are
abbrev pub key_brought : KeyCommand → Option (Data (List ℕ))
key_brought (key_commands.Put put) = Some (data_of put)
key_brought other = None

abbrev pub brought : Command → Option (Data (List ℕ))
brought (commands.Key bucket key asked) = key_brought asked
brought other = None

-- the bytes that it brings
abbrev pub brings : Command → Option (List ℕ)
brings command = option_map (λ (what : Data (List ℕ)). what.body) (brought command)

-- what is stored: where, as the version of which id, when, and which data
pub record Object : Type 0 where
  pub address : Address
  pub id : VersionId
  pub moment : ℕ
  pub stored : Data (List ℕ)

-- these data, as entry n stores them at moment t
abbrev pub object_of : State → ℕ → ℕ → Address → Data (List ℕ) → Object
object_of s n t address stored =
    record { address = address; id = new_id (versioning_of s address.bucket) n; moment = t; stored = stored }

-- the data that a command stores under its key, where it isn't refused in this state
abbrev pub key_stored : State → Address → KeyCommand → Option (Data (List ℕ))
key_stored s address (key_commands.Put put) = Some (data_of put)
key_stored s address (key_commands.Copy copy) = result_ok (copied s copy)
key_stored s address other = None

-- the same of a command on this upload, if it is open
abbrev pub upload_stored : Option (Upload (List ℕ)) → UploadCommand → Option (Data (List ℕ))
upload_stored found (upload_commands.Complete listed condition) =
    option_map (λ (u : Upload (List ℕ)). joined_data u (parts_listed listed u.parts)) found
upload_stored found other = None

-- the object that it stores as entry n at moment t
abbrev pub stored_at : State → ℕ → ℕ → Address → KeyCommand → Option Object
stored_at s n t address asked = option_map (object_of s n t address) (key_stored s address asked)

abbrev pub joined_at : State → ℕ → ℕ → UploadPlace → UploadCommand → Option Object
joined_at s n t upload asked = option_map (object_of s n t upload.address) (upload_stored (open_at s upload) asked)

abbrev pub stored_by : State → ℕ → ℕ → Command → Option Object
stored_by s n t (commands.Key bucket key asked) = stored_at s n t (record { bucket = bucket; key = key }) asked
stored_by s n t (commands.Upload bucket key id asked) = joined_at s n t (place_of bucket key id) asked
stored_by s n t other = None

-- where a command begins an upload, and with what; the upload's id is the number of the entry
abbrev pub key_begins : Address → KeyCommand → Option (Address × Description)
key_begins address (key_commands.Begin begin) = Some (address, begin)
key_begins address other = None

abbrev pub begins : Command → Option (Address × Description)
begins (commands.Key bucket key asked) = key_begins (record { bucket = bucket; key = key }) asked
begins other = None

-- as which part of an upload a command puts bytes: those that it sends, or those of a source
abbrev pub upload_sends : UploadPlace → UploadCommand → Option PartPlace
upload_sends upload (upload_commands.PutPart number payload) = Some (record { upload = upload; number = number })
upload_sends upload (upload_commands.CopyPart number copy) = Some (record { upload = upload; number = number })
upload_sends upload other = None

abbrev pub sends : Command → Option PartPlace
sends (commands.Upload bucket key id asked) = upload_sends (place_of bucket key id) asked
sends other = None

-- the bytes that it sends
abbrev pub upload_sent : UploadCommand → Option (List ℕ)
upload_sent (upload_commands.PutPart number payload) = Some payload
upload_sent other = None

abbrev pub sent : Command → Option (List ℕ)
sent (commands.Upload bucket key id asked) = upload_sent asked
sent other = None

-- the part that a copy makes at moment t, of a version that was found
abbrev pub copied_part : ℕ → PartCopy → Found (List ℕ) → Part (List ℕ)
copied_part t copy found = part_copied t copy.range found.stored

-- the part that it puts at moment t, where it isn't refused in this state
abbrev pub upload_puts : State → ℕ → UploadCommand → Option (Part (List ℕ))
upload_puts s t (upload_commands.PutPart number payload) = Some (part_sent t payload)
upload_puts s t (upload_commands.CopyPart number copy) = option_map (copied_part t copy) (result_ok (source_found s copy.source))
upload_puts s t other = None

abbrev pub puts_part : State → ℕ → Command → Option (Part (List ℕ))
puts_part s t (commands.Upload bucket key id asked) = upload_puts s t asked
puts_part s t other = None

-- the upload that a command completes, and the parts that it lists
abbrev pub upload_completes : UploadPlace → UploadCommand → Option (UploadPlace × List ListedPart)
upload_completes upload (upload_commands.Complete listed condition) = Some (upload, listed)
upload_completes upload other = None

abbrev pub completes : Command → Option (UploadPlace × List ListedPart)
completes (commands.Upload bucket key id asked) = upload_completes (place_of bucket key id) asked
completes other = None

-- the upload that it is to end
abbrev pub upload_ends : UploadPlace → UploadCommand → Option UploadPlace
upload_ends upload (upload_commands.Complete listed condition) = Some upload
upload_ends upload upload_commands.Abort = Some upload
upload_ends upload other = None

abbrev pub ends : Command → Option UploadPlace
ends (commands.Upload bucket key id asked) = upload_ends (place_of bucket key id) asked
ends other = None

-- what a command reads: an address, the version that it names, if it names one, and by which conditions
pub record Read : Type 0 where
  pub address : Address
  pub version : Option VersionId
  pub conditions : Conditions

-- a plain read, which is shown all of it
abbrev pub whole : Address → Option VersionId → Read
whole address version = record { address = address; version = version; conditions = plain }

-- the read that is asked for at an address
abbrev pub read_at : Address → ObjectRead → Read
read_at address asked = record { address = address; version = asked.version; conditions = asked.conditions }

abbrev pub key_read : Address → KeyCommand → Option Read
key_read address (key_commands.Read asked) = Some (read_at address asked)
key_read address other = None

abbrev pub reads : Command → Option Read
reads (commands.Key bucket key asked) = key_read (record { bucket = bucket; key = key }) asked
reads other = None

-- what its reply is to say of what is read
abbrev pub key_overrides : KeyCommand → List Entry
key_overrides (key_commands.Read asked) = asked.overrides
key_overrides other = []

abbrev pub overrides_of : Command → List Entry
overrides_of (commands.Key bucket key asked) = key_overrides asked
overrides_of other = []

-- what is said of a version that is handed out
abbrev pub said_of : Outcome → List Entry
said_of (outcomes.Got found selection overrides) = overrides
said_of other = []

-- what a copy is from: what a read by its conditions is shown
abbrev pub source_read : Source → Read
source_read source =
    record {
      address = record { bucket = source.bucket; key = source.key };
      version = source.version;
      conditions = source.conditions;
    }

-- what a command copies to a key, and what it says of it
abbrev pub key_copies : KeyCommand → Option (Read × Option Description)
key_copies (key_commands.Copy copy) = Some (source_read copy.source, copy.description)
key_copies other = None

abbrev pub copies : Command → Option (Read × Option Description)
copies (commands.Key bucket key asked) = key_copies asked
copies other = None

-- what a command copies to a part, and which bytes of it
abbrev pub upload_copies : UploadCommand → Option (Read × Option CopyRange)
upload_copies (upload_commands.CopyPart number copy) = Some (source_read copy.source, copy.range)
upload_copies other = None

abbrev pub copies_part : Command → Option (Read × Option CopyRange)
copies_part (commands.Upload bucket key id asked) = upload_copies asked
copies_part other = None

-- the command only reads
abbrev pub only_reads_bucket : BucketCommand → Bool
only_reads_bucket bucket_commands.Create = false
only_reads_bucket bucket_commands.Delete = false
only_reads_bucket (bucket_commands.PutVersioning status) = false
only_reads_bucket other = true

abbrev pub only_reads_key : KeyCommand → Bool
only_reads_key (key_commands.Read asked) = true
only_reads_key (key_commands.ReadTags version) = true
only_reads_key other = false

abbrev pub only_reads_upload : UploadCommand → Bool
only_reads_upload (upload_commands.ListParts asked) = true
only_reads_upload other = false

abbrev pub only_reads : Command → Bool
only_reads commands.ListBuckets = true
only_reads (commands.Bucket name asked) = only_reads_bucket asked
only_reads (commands.Key name key asked) = only_reads_key asked
only_reads (commands.Upload name key id asked) = only_reads_upload asked
only_reads (commands.DeleteObjects name deletion) = false

-- the command may take memory: it makes a bucket, a version, a delete marker, an upload or a part, hands out what is kept, or
-- tells of it, or of what it deletes, in a list
abbrev pub takes_room_in_bucket : BucketCommand → Bool
takes_room_in_bucket bucket_commands.Head = false
takes_room_in_bucket bucket_commands.Delete = false
takes_room_in_bucket (bucket_commands.PutVersioning status) = false
takes_room_in_bucket bucket_commands.GetVersioning = false
takes_room_in_bucket (bucket_commands.GetConfiguration which) = false
takes_room_in_bucket other = true

abbrev pub takes_room_at_key : Versioning → KeyCommand → Bool
takes_room_at_key versioning (key_commands.Delete None) = makes_marker versioning
takes_room_at_key versioning (key_commands.Delete (Some id)) = false
takes_room_at_key versioning (key_commands.DeleteMatching tags) = makes_marker versioning
takes_room_at_key versioning other = true

abbrev pub takes_room_in_upload : UploadCommand → Bool
takes_room_in_upload upload_commands.Abort = false
takes_room_in_upload other = true

abbrev pub takes_room : State → Command → Bool
takes_room s (commands.Bucket name asked) = takes_room_in_bucket asked
takes_room s (commands.Key name key asked) = takes_room_at_key (versioning_of s name) asked
takes_room s (commands.Upload name key id asked) = takes_room_in_upload asked
takes_room s other = true

-- the machine refuses
abbrev pub is_refused : Outcome → Bool
is_refused (outcomes.Refused code is_delete_marker) = true
is_refused (outcomes.OutOfRange size) = true
is_refused other = false

-- something of a version is shown, and not that it is as the reader knows it
abbrev pub shows_bytes : Selection → Bool
shows_bytes Unchanged = false
shows_bytes Outside = false
shows_bytes other = true

-- the command succeeds: the machine doesn't refuse, and what was read isn't as the reader knows it (RFC 9110, section 15.4.5)
abbrev pub succeeds : Outcome → Bool
succeeds (outcomes.Refused code is_delete_marker) = false
succeeds (outcomes.OutOfRange size) = false
succeeds (outcomes.Got found selection overrides) = shows_bytes selection
succeeds other = true

-- the version whose bytes are handed out, all of them or a part
abbrev pub given : Outcome → Option (Found (List ℕ))
given (outcomes.Got found selection overrides) = if shows_bytes selection then Some found else None
given other = None

-- the version that is handed out with all its bytes
abbrev pub given_whole : Outcome → Option (Found (List ℕ))
given_whole (outcomes.Got found Whole overrides) = Some found
given_whole other = None

-- what comes of a version that was found, by the judgement of the conditions of a read
abbrev pub shown_as : Found (List ℕ) → List Entry → Result Selection Refusal → Outcome
shown_as found overrides (Ok selection) = outcome_shown found overrides selection
shown_as found overrides (Err refusal) = outcomes.Refused refusal.code refusal.is_delete_marker

-- what is known of a version that was found
abbrev pub facts_found : Found (List ℕ) → Facts
facts_found found = record { moment = found.moment; tag = found.stored.tag; size = found.stored.size }

-- what comes of a read by conditions, where this comes of the plain one
abbrev pub by_conditions : Conditions → Outcome → Outcome
by_conditions conditions (outcomes.Got found selection overrides) = shown_as found overrides (shown_by conditions (facts_found found))
by_conditions conditions other = other

-- what was found of a version of this id
abbrev pub found_object : Address → VersionId → Found (List ℕ) → Object
found_object address id found = record { address = address; id = id; moment = found.moment; stored = found.stored }

-- the tag under which something is stored
abbrev pub acknowledged : Outcome → Option (List ℕ)
acknowledged (outcomes.Put tag shown) = Some tag
acknowledged (outcomes.Copied tag moment shown) = Some tag
acknowledged (outcomes.Completed document tag shown) = Some tag
acknowledged other = None

-- an id that is shown or not: it isn't where versioning was never set, where all versions are `null`
abbrev pub told : Option VersionId → VersionId
told shown = unwrap_or shown Null

abbrev pub told_ids : Outcome → List VersionId
told_ids (outcomes.Put tag shown) = told shown ∷ []
told_ids (outcomes.Copied tag moment shown) = told shown ∷ []
told_ids (outcomes.Completed document tag shown) = told shown ∷ []
told_ids (outcomes.Deleted shown is_delete_marker) = told shown ∷ []
told_ids other = []

-- the id of the delete marker that a row tells of a key that was named without a version, if it tells one
abbrev pub marker_in_row : List ℕ → DeletionRow → Option VersionId
marker_in_row key (rows.Deleted k None marker) = if bytes_eq k key then marker else None
marker_in_row key other = None

-- that of the first row that tells one
abbrev pub marker_in_rows : List ℕ → List DeletionRow → Option VersionId
marker_in_rows key [] = None
marker_in_rows key (row ∷ rest) = option_or (marker_in_row key row) (marker_in_rows key rest)

-- the id that an object touches of a key: that of the version that it names, or else of the delete marker that is told of the
-- key, or `null`, where none is
abbrev pub id_named : List ℕ → List DeletionRow → NamedObject → Option VersionId
id_named key told_rows (named.Object d) =
    if bytes_eq d.key key then Some (unwrap_or d.version (told (marker_in_rows key told_rows))) else None
id_named key told_rows (named.Fault fault) = None

-- the ids whose versions a command made, replaced or deleted under an address that it writes: the one that a delete named, or
-- the one that it was told, and those of all objects that were deleted together
abbrev pub touched : Command → Outcome → Address → List VersionId
touched (commands.Key bucket key (key_commands.Delete (Some id))) outcome address = id ∷ []
touched (commands.DeleteObjects bucket deletion) (outcomes.Told (documents.deletions is_quiet told_rows)) address =
    filter_map (id_named address.key told_rows) deletion.objects
touched other outcome address = told_ids outcome
