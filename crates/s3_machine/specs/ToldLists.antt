-- Lists as they are told: those of the objects and of the versions of a bucket show what reads are given, one of all uploads those
-- that are open, and one of all parts of an upload those that stand in it (Amazon S3 API Reference, ListObjectsV2,
-- ListObjectVersions, ListMultipartUploads and ListParts).
use Rattle.std.specs.Prelude.{◌≡◌, ◌≢◌, ◌⊎◌, ◌↔◌, ℕ, ◌<◌, Bool, false, IsTrue, List, [], ◌∷◌, ◌++◌, Contains, Some, None, is_some, option_map}
use Rattle.s3_names.specs.declared.ids.VersionId.{VersionId}
use Rattle.s3_versions.specs.declared.picking.Facts.{Facts}
use Rattle.s3_uploads.specs.declared.part.PartRow.{PartRow}
use Rattle.s3_records.specs.Catalogue.{has_bucket}
use Rattle.s3_records.specs.declared.rows.UploadRow.{UploadRow}
use Rattle.s3_records.specs.declared.rows.VersionRow.{VersionRow}
use Rattle.s3_listings.specs.declared.asked.PartsAsked.{PartsAsked}
use Rattle.s3_listings.specs.declared.asked.UploadsAsked.{UploadsAsked}
use Rattle.s3_listings.specs.declared.asked.VersionsAsked.{VersionsAsked}
use Rattle.s3_prefixes.specs.declared.asked.ObjectsAsked.{ObjectsAsked}
use Rattle.s3_prefixes.specs.Items.{Object, is_asked, is_behind_token}
use Rattle.s3_listings.specs.Objects.{ObjectsTold}
use Rattle.s3_listings.specs.Pages.{Page}
use Rattle.s3_listings.specs.Rolled.{RowsTold}
use Rattle.s3_documents.specs.Document as documents
use Rattle.s3_machine.specs.declared.command.BucketCommand.TheVariants as bucket_commands
use Rattle.s3_machine.specs.declared.command.Command.TheVariants as commands
use Rattle.s3_machine.specs.declared.command.Description.{Description}
use Rattle.s3_machine.specs.declared.command.Outcome.TheVariants as outcomes
use Rattle.s3_machine.specs.declared.command.UploadCommand.TheVariants as upload_commands
use Rattle.s3_machine.specs.declared.rules.Rules.{Rules}
use Rattle.s3_machine.specs.Effects.{Address, UploadPlace, open_at, given_whole, facts_found}
use Rattle.s3_machine.specs.History.{Entry, after}
use Rattle.s3_machine.specs.Kept.{LeavesKey, SparesVersion, ReadsKey, ReadsVersion}
use Rattle.s3_machine.specs.Laws.{asking}
use Rattle.s3_machine.specs.Step.{State}
use Rattle.s3_machine.specs.Uploads.{WasBegun, StayedOpen}
use Rattle.s3_machine.specs.UploadsKept.{all_uploads, all_parts, TellsOfSent, TellsOfStayed}

-- the entry lists the objects of the bucket that are asked for, each by itself, and is told this page, behind which there are no
-- more
pub record ListsObjects (bucket : List ℕ) (asked : ObjectsAsked) (page : ObjectsTold) (e : Entry) : Type 0 where
  pub asks : e.command ≡ commands.Bucket bucket (bucket_commands.ListObjects asked)
  pub delimiter : asked.delimiter ≡ []
  pub some : 0 < asked.max_keys
  pub told : e.answer.outcome ≡ outcomes.Told (documents.objects bucket asked page)
  pub is_last : page.next ≡ None

-- the list is asked for an object of this key: the key begins with the prefix and is behind the token, or, where there is none,
-- behind the key that the list is to start after
abbrev pub IsWanted : ObjectsAsked → List ℕ → Facts → Type 0
IsWanted asked key facts = IsTrue (is_asked asked key) × IsTrue (is_behind_token asked (Object key facts))

-- a list of all versions of a bucket
abbrev pub all_versions : VersionsAsked
all_versions = record { prefix = []; delimiter = []; key_marker = []; id_marker = None; max_keys = 1000; is_url_encoded = false }

-- the entry lists all versions of the bucket, and is told this page, behind which there are no more
pub record ListsVersions (bucket : List ℕ) (page : RowsTold VersionRow) (e : Entry) : Type 0 where
  pub asks : e.command ≡ commands.Bucket bucket (bucket_commands.ListVersions all_versions)
  pub told : e.answer.outcome ≡ outcomes.Told (documents.versions bucket all_versions page)
  pub is_last : page.next ≡ None

-- what is told of a version that is an object with these facts
abbrev pub told_row : List ℕ → VersionId → Bool → Facts → VersionRow
told_row key id is_latest facts =
    record { key = key; id = id; is_latest = is_latest; moment = facts.moment; facts = Some facts }

-- the same of all uploads
pub record ListsUploads (bucket : List ℕ) (page : RowsTold UploadRow) (e : Entry) : Type 0 where
  pub asks : e.command ≡ commands.Bucket bucket (bucket_commands.ListUploads all_uploads)
  pub told : e.answer.outcome ≡ outcomes.Told (documents.uploads bucket all_uploads page)
  pub is_last : page.next ≡ None

-- and of all parts of an upload
pub record ListsParts (upload : UploadPlace) (page : Page PartRow) (e : Entry) : Type 0 where
  pub asks : e.command ≡ asking upload (upload_commands.ListParts all_parts)
  pub told : e.answer.outcome ≡ outcomes.Told (documents.parts upload.address.bucket upload.address.key upload.id all_parts page)
  pub is_last : page.is_truncated ≡ false

-- The laws, of a history that begins at a state.
module _ (rules : Rules) (s : State) (entries : List Entry) where
  -- A list of the objects of a bucket that is there is told as a page of it, by what was asked,
  abbrev pub ObjectListsAreTold : Type 0
  ObjectListsAreTold =
      (before later : List Entry) (list : Entry) (name : List ℕ) (asked : ObjectsAsked)
      → entries ≡ before ++ list ∷ later
      → list.command ≡ commands.Bucket name (bucket_commands.ListObjects asked)
      → IsTrue (has_bucket (after rules s before) name)
      → (page : ObjectsTold) × (list.answer.outcome ≡ outcomes.Told (documents.objects name asked page))

  -- so is one of its versions,
  abbrev pub VersionListsAreTold : Type 0
  VersionListsAreTold =
      (before later : List Entry) (list : Entry) (name : List ℕ) (asked : VersionsAsked)
      → entries ≡ before ++ list ∷ later
      → list.command ≡ commands.Bucket name (bucket_commands.ListVersions asked)
      → IsTrue (has_bucket (after rules s before) name)
      → (page : RowsTold VersionRow) × (list.answer.outcome ≡ outcomes.Told (documents.versions name asked page))

  -- and of its uploads,
  abbrev pub UploadListsAreTold : Type 0
  UploadListsAreTold =
      (before later : List Entry) (list : Entry) (name : List ℕ) (asked : UploadsAsked)
      → entries ≡ before ++ list ∷ later
      → list.command ≡ commands.Bucket name (bucket_commands.ListUploads asked)
      → IsTrue (has_bucket (after rules s before) name)
      → (page : RowsTold UploadRow) × (list.answer.outcome ≡ outcomes.Told (documents.uploads name asked page))

  -- and one of the parts of an upload that is open.
  abbrev pub PartListsAreTold : Type 0
  PartListsAreTold =
      (before later : List Entry) (list : Entry) (upload : UploadPlace) (asked : PartsAsked)
      → entries ≡ before ++ list ∷ later
      → list.command ≡ asking upload (upload_commands.ListParts asked)
      → IsTrue (has_bucket (after rules s before) upload.address.bucket)
      → IsTrue (is_some (open_at (after rules s before) upload))
      → (page : Page PartRow)
      × (list.answer.outcome ≡ outcomes.Told (documents.parts upload.address.bucket upload.address.key upload.id asked page))

  -- A key is told in a list of objects of its bucket, with a moment, a tag and a size, exactly where the list is asked for it and a
  -- plain read of it is given a version with these, before an entry changes the versions of the key.
  abbrev pub ObjectsAreToldAsRead : Type 0
  ObjectsAreToldAsRead =
      (before between later : List Entry) (list read : Entry) (address : Address) (asked : ObjectsAsked) (page : ObjectsTold) (facts : Facts)
      → entries ≡ before ++ list ∷ between ++ read ∷ later
      → ListsObjects address.bucket asked page list
      → LeavesKey address between
      → ReadsKey address read
      → Contains page.contents (record { key = address.key; facts = facts })
      ↔ ((option_map facts_found (given_whole read.answer.outcome) ≡ Some facts) × IsWanted asked address.key facts)

  -- From a sound base a version is told in a list of all versions of its bucket, as an object with a moment, a tag and a size, exactly
  -- where a plain read of it by its id is given a version with these, before an entry touches it (no key is empty).
  abbrev pub VersionsAreToldAsRead : Type 0
  VersionsAreToldAsRead =
      (before between later : List Entry) (list read : Entry) (address : Address) (id : VersionId) (page : RowsTold VersionRow) (facts : Facts)
      → entries ≡ before ++ list ∷ between ++ read ∷ later
      → ListsVersions address.bucket page list
      → address.key ≢ []
      → SparesVersion address id between
      → ReadsVersion address id read
      → ((is_latest : Bool) × Contains page.rows (told_row address.key id is_latest facts))
      ↔ (option_map facts_found (given_whole read.answer.outcome) ≡ Some facts)

  -- From a sound base an upload is told in a list of all uploads of its bucket, with the moment at which it was begun, exactly
  -- where it is open (no key is empty).
  abbrev pub UploadsAreToldWhileOpen : Type 0
  UploadsAreToldWhileOpen =
      (before later : List Entry) (list : Entry) (upload : UploadPlace) (page : RowsTold UploadRow) (t : ℕ)
      → entries ≡ before ++ list ∷ later
      → ListsUploads upload.address.bucket page list
      → upload.address.key ≢ []
      → Contains page.rows (record { key = upload.address.key; id = upload.id; moment = t })
      ↔ ((asked : Description) × (WasBegun before upload t asked ⊎ StayedOpen s before upload t asked))

  -- So is a part in a list of all parts of its upload, exactly where it stands (no number is 0).
  abbrev pub PartsAreToldWhileStanding : Type 0
  PartsAreToldWhileStanding =
      (before later : List Entry) (list : Entry) (upload : UploadPlace) (page : Page PartRow) (row : PartRow)
      → entries ≡ before ++ list ∷ later
      → ListsParts upload page list
      → 0 < row.number
      → Contains page.given row ↔ (TellsOfSent rules s before upload row ⊎ TellsOfStayed s before upload row)
