-- Bases: the states that a history may begin at, and what the laws of histories ask of one. What is found in a folder makes such a
-- state (`IsSoundCatalogue` of `s3_keepers`), or is refused.
use Rattle.std.specs.Prelude.{◌≡◌, ◌≢◌, ℕ, ◌+◌, ◌<◌, IsTrue, List, [], length, Some, is_some}
use Rattle.s3_names.specs.declared.ids.VersionId.TheVariants.{Null}
use Rattle.s3_versions.specs.declared.version.Versioning.TheVariants.{Unversioned}
use Rattle.s3_versions.specs.Rules.{without}
use Rattle.s3_uploads.specs.Parts.{rises, numbers_of}
use Rattle.s3_uploads.specs.declared.part.Part.{Part}
use Rattle.s3_records.specs.Catalogue.{opening, versions_of, versioning_of}
use Rattle.s3_records.specs.Laws.{AreCatalogued, AreFilled}
use Rattle.s3_records.specs.OpenUploads.{upload_at, parts_at}
use Rattle.s3_records.specs.Places.{AreBelow}
use Rattle.s3_machine.specs.declared.command.Description.{Description}
use Rattle.s3_machine.specs.declared.rules.Rules.{Rules}
use Rattle.s3_machine.specs.Effects.{Object, UploadPlace, PartPlace, part_in}
use Rattle.s3_machine.specs.History.{Entry, Legal, after}
use Rattle.s3_machine.specs.Kept.{Stands}
use Rattle.s3_machine.specs.Step.{State}
use Rattle.s3_machine.specs.Uploads.{IsOpen}

-- a number is above the ids of all uploads that are open
abbrev pub UploadsAreBelow : ℕ → State → Type 0
UploadsAreBelow n s = (name key : List ℕ) (id : ℕ) → IsTrue (is_some (upload_at s name key id)) → id < n

-- the numbers of the parts of each upload rise
abbrev pub PartsRise : State → Type 0
PartsRise s = (name key : List ℕ) (id : ℕ) → IsTrue (rises (numbers_of (parts_at s name key id)))

-- in a bucket whose versioning was never set no version has another id than `null`
abbrev pub UnversionedAreNull : State → Type 0
UnversionedAreNull s = (name key : List ℕ) → versioning_of s name ≡ Unversioned → without Null (versions_of s name key) ≡ []

-- A base is sound for entries from number n on: n is above the numbers of all versions and above the ids of all uploads that are
-- open; each key's versions are in their order, and are `null` where versioning was never set; the numbers of each upload's parts
-- rise; and no key is there that has nothing.
pub record IsSoundBase (s : State) (n : ℕ) : Type 0 where
  pub versions : AreBelow n s
  pub uploads : UploadsAreBelow n s
  pub ordered : AreCatalogued s
  pub null : UnversionedAreNull s
  pub parts : PartsRise s
  pub filled : AreFilled s

-- What holds of all legal histories that begin at a sound base.
abbrev pub EverySoundHistory : (Rules → State → List Entry → Type 0) → Type 0
EverySoundHistory Law =
    (rules : Rules) (s : State) (n : ℕ) (entries : List Entry) → IsSoundBase s n → Legal rules s n entries → Law rules s entries

-- The opening state is a sound base, whichever number comes first,
abbrev pub OpeningIsSound : Type 0
OpeningIsSound = (names : List (List ℕ)) (n : ℕ) → IsSoundBase (opening names) n

-- and so is what a legal history leaves that begins at one, for the number that comes next.
abbrev pub HistoriesLeaveSound : Type 0
HistoriesLeaveSound =
    (rules : Rules) (s : State) (n : ℕ) (entries : List Entry)
    → IsSoundBase s n → Legal rules s n entries → IsSoundBase (after rules s entries) (n + length entries)

-- In the opening state no object stands, no upload is open and no part stands: what a law says of those that stayed is of none.
pub record HasNothing (s : State) : Type 0 where
  pub objects : (object : Object) → ¬ Stands s object
  pub uploads : (upload : UploadPlace) (t : ℕ) (asked : Description) → ¬ IsOpen s upload t asked
  pub parts : (part : PartPlace) (what : Part (List ℕ)) → part_in s part ≢ Some what

abbrev pub OpeningHasNothing : Type 0
OpeningHasNothing = (names : List (List ℕ)) → HasNothing (opening names)
