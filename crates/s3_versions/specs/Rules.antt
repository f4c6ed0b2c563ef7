-- The versions of one key, newest first (Amazon S3 User Guide, "Using versioning in S3 buckets").
use Rattle.std.specs.Prelude.{ℕ, Bool, true, false, not, ◌&&◌, ◌==◌, nat_lt, if◌then◌else◌, List, [], ◌∷◌, filter, find, Option, Some, None, Result, Ok, Err}
use Rattle.std.specs.List.{list_all}
use Rattle.s3_terms.specs.declared.code.Code.TheVariants.{NoSuchKey, NoSuchVersion, MethodNotAllowed}
use Rattle.s3_names.specs.declared.ids.VersionId.{VersionId}
use Rattle.s3_names.specs.declared.ids.VersionId.TheVariants.{Null, Numbered}
use Rattle.s3_versions.specs.declared.picking.Facts.{Facts}
use Rattle.s3_versions.specs.declared.picking.Refusal.{Refusal}
use Rattle.s3_versions.specs.declared.version.Content.{Content}
use Rattle.s3_versions.specs.declared.version.Content.TheVariants.{DeleteMarker, Stored}
use Rattle.s3_versions.specs.declared.version.Data.{Data}
use Rattle.s3_versions.specs.declared.version.Version.{Version}
use Rattle.s3_versions.specs.declared.version.Versioning.{Versioning}
use Rattle.s3_versions.specs.declared.version.VersioningStatus.{VersioningStatus}
use Rattle.s3_versions.specs.declared.version.VersioningStatus.TheVariants as status
use Rattle.s3_versions.specs.declared.version.Versioning.TheVariants.{Unversioned, Enabled, Suspended}

-- the versioning of a bucket where a status was set (Amazon S3 API Reference, PutBucketVersioning)
abbrev pub versioning_set : VersioningStatus → Versioning
versioning_set status.Enabled = Enabled
versioning_set status.Suspended = Suspended

-- a version's id: `null`, or the number of the entry that made it
abbrev pub id_of : {B : Type 0} → Version B → VersionId
id_of v = if v.is_null then Null else Numbered v.number

-- the id is the version's
abbrev pub is_under : {B : Type 0} → VersionId → Version B → Bool
is_under Null v = v.is_null
is_under (Numbered number) v = not v.is_null && v.number == number

-- what a put stored, unless the version is a delete marker
abbrev pub stored_in : {B : Type 0} → Content B → Option (Data B)
stored_in DeleteMarker = None
stored_in (Stored stored) = Some stored

abbrev pub stored : {B : Type 0} → Version B → Option (Data B)
stored v = stored_in v.content

-- the version is a delete marker
abbrev pub is_marker : {B : Type 0} → Content B → Bool
is_marker DeleteMarker = true
is_marker (Stored stored) = false

abbrev pub is_delete_marker : {B : Type 0} → Version B → Bool
is_delete_marker v = is_marker v.content

-- the current version: the newest
abbrev pub current : {B : Type 0} → List (Version B) → Option (Version B)
current [] = None
current (v ∷ vs) = Some v

-- the version that a request asks for: that under its id, or the current one where it names none
abbrev pub asked_for : {B : Type 0} → Option VersionId → List (Version B) → Option (Version B)
asked_for None vs = current vs
asked_for (Some id) vs = find (is_under id) vs

-- a version that is read, with what it stores; a delete marker is refused
abbrev pub read_as : {B : Type 0} → Refusal → Version B → Content B → Result (Version B × Data B) Refusal
read_as refusal v DeleteMarker = Err refusal
read_as refusal v (Stored stored) = Ok (v, stored)

-- a GET whose current version is a delete marker is answered as if the object were not there, and one that
-- names a delete marker's id with 405, "Method Not Allowed"; both tell that it is a delete marker ("Working
-- with delete markers")
abbrev pub judged : {B : Type 0} → Option VersionId → Option (Version B) → Result (Version B × Data B) Refusal
judged None None = Err (record { code = NoSuchKey; is_delete_marker = false })
judged None (Some v) = read_as (record { code = NoSuchKey; is_delete_marker = true }) v v.content
judged (Some id) None = Err (record { code = NoSuchVersion; is_delete_marker = false })
judged (Some id) (Some v) = read_as (record { code = MethodNotAllowed; is_delete_marker = true }) v v.content

-- the version that a request reads, with what it stores, or the refusal
abbrev pub pick : {B : Type 0} → Option VersionId → List (Version B) → Result (Version B × Data B) Refusal
pick asked vs = judged asked (asked_for asked vs)

-- what is known of a version that is read beside what its put sent
abbrev pub facts_of : {B : Type 0} → Version B × Data B → Facts
facts_of read = record { moment = read.0.moment; tag = read.1.tag; size = read.1.size }

-- the same of what a request reads
abbrev pub facts_read : {B : Type 0} → Result (Version B × Data B) Refusal → Result Facts Refusal
facts_read (Ok read) = Ok (facts_of read)
facts_read (Err refusal) = Err refusal

-- the versions without the one under an id
unfoldable pub without : {B : Type 0} → VersionId → List (Version B) → List (Version B)
without id vs = filter (λ v. not (is_under id v)) vs

-- what an entry makes has an id of its own where versioning is enabled, else `null` ("Adding objects to
-- versioning-enabled buckets" and "to versioning-suspended buckets")
abbrev pub makes_null : Versioning → Bool
makes_null Enabled = false
makes_null Unversioned = true
makes_null Suspended = true

-- the version that entry n makes at moment t
abbrev pub made : {B : Type 0} → Versioning → ℕ → ℕ → Content B → Version B
made versioning n t content = record { is_null = makes_null versioning; number = n; moment = t; content = content }

-- its id
abbrev pub new_id : Versioning → ℕ → VersionId
new_id versioning n = if makes_null versioning then Null else Numbered n

-- it goes in front, in the place of the version with its id, if there is one: where versioning is enabled there is none,
-- since its number is new, and elsewhere it overwrites the version `null`
abbrev pub after_adding : {B : Type 0} → Versioning → ℕ → ℕ → Content B → List (Version B) → List (Version B)
after_adding versioning n t content vs = made versioning n t content ∷ without (new_id versioning n) vs

-- a change of a key's versions: a PUT by entry n at moment t, a DELETE that names no version, and one that names one
pub data KeyChange (B : Type 0) : Type 0 where
  VersionPut : (n t : ℕ) → Data B → KeyChange B
  KeyDeleted : (n t : ℕ) → KeyChange B
  VersionDropped : VersionId → KeyChange B

-- a DELETE that names no version: where versioning is enabled it adds a delete marker and removes nothing
-- ("Deleting object versions from a versioning-enabled bucket"); where it is suspended it removes the
-- version `null` alone, if there is one, and adds a delete marker `null` ("Deleting objects from
-- versioning-suspended buckets"); where it never was enabled it removes the object
abbrev pub after_delete : {B : Type 0} → Versioning → ℕ → ℕ → List (Version B) → List (Version B)
after_delete Enabled n t vs = after_adding Enabled n t DeleteMarker vs
after_delete Suspended n t vs = after_adding Suspended n t DeleteMarker vs
after_delete Unversioned n t vs = without Null vs

-- the versions after a change: a PUT adds what it stores, and a DELETE that names a version removes it, for good, and no
-- other ("Deleting object versions from a versioning-enabled bucket")
abbrev pub after_change : {B : Type 0} → Versioning → KeyChange B → List (Version B) → List (Version B)
after_change versioning (VersionPut n t stored) vs = after_adding versioning n t (Stored stored) vs
after_change versioning (KeyDeleted n t) vs = after_delete versioning n t vs
after_change versioning (VersionDropped id) vs = without id vs

-- the version that a PUT, or a DELETE that names no version, takes away
abbrev pub replaced : {B : Type 0} → Versioning → ℕ → List (Version B) → Option (Version B)
replaced versioning n vs = find (is_under (new_id versioning n)) vs

-- one version may stand before another: it is newer, and not both are `null`
abbrev pub may_precede : {B : Type 0} → Version B → Version B → Bool
may_precede v w = nat_lt w.number v.number && not (v.is_null && w.is_null)

-- versions of one key: newest first, and at most one is `null`
unfoldable pub are_versions : {B : Type 0} → List (Version B) → Bool
are_versions [] = true
are_versions (v ∷ vs) = list_all (may_precede v) vs && are_versions vs

-- a number is above those of all entries that made a version
unfoldable pub is_new_number : {B : Type 0} → ℕ → List (Version B) → Bool
is_new_number n vs = list_all (λ v. nat_lt v.number n) vs
