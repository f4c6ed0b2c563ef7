-- What the catalogue keeps, whatever is changed.
use Rattle.std.specs.Prelude.{◌≡◌, ◌≢◌, ◌↔◌, ◌⊎◌, ℕ, false, IsTrue, List, [], ◌∷◌, ◌++◌, map as each, Some, None, IfSome, option_map}
use Rattle.std.specs.List.{list_any, Contains}
use Rattle.std.specs.Str.{bytes_eq}
use Rattle.std.specs.FinMap as map
use Rattle.s3_text.specs.Order.{rises}
use Rattle.s3_versions.specs.declared.version.Version.{Version}
use Rattle.s3_versions.specs.declared.version.Versioning.TheVariants.{Unversioned}
use Rattle.s3_versions.specs.declared.version.VersioningStatus.{VersioningStatus}
use Rattle.s3_versions.specs.Rules.{versioning_set, KeyChange, after_change, are_versions, is_new_number}
use Rattle.s3_versions.specs.Laws.{number_of}
use Rattle.s3_records.specs.Catalogue.{Bucket, Catalogue, opening, has_bucket, facts_in, versions_of, versioning_of, is_empty_bucket}
use Rattle.s3_uploads.specs.declared.upload.Upload.{Upload}
use Rattle.s3_records.specs.Changes.{Change, VersioningSet, KeyChanged, UploadDropped, UploadCompleted, changed}
use Rattle.s3_records.specs.OpenUploads.{upload_at, upload_rows, uploads_from}
use Rattle.s3_records.specs.declared.rows.UploadRow.{UploadRow}
use Rattle.s3_records.specs.declared.rows.UploadStart.TheVariants.{BehindUpload}
use Rattle.s3_records.specs.Rows.{held_in, key_rows}

-- every bucket but one is as it was
abbrev pub SameElsewhere : {B : Type 0} → List ℕ → Catalogue B → Catalogue B → Type 0
SameElsewhere name c d = (other : List ℕ) → other ≢ name → map.get d other ≡ map.get c other

-- a change leaves every other bucket as it was
abbrev pub ChangesAreLocal : Type 0 → Type 0
ChangesAreLocal B = (c : Catalogue B) (name : List ℕ) (change : Change B) → SameElsewhere name c (changed c name change)

-- every other key of a bucket has the versions that it had, and the bucket its moment and its versioning
pub record OneKeyChanges {B : Type 0} (c d : Catalogue B) (name key : List ℕ) : Type 0 where
  pub others : (other : List ℕ) → other ≢ key → versions_of d name other ≡ versions_of c name other
  pub facts : facts_in d name ≡ facts_in c name

-- a change of a key leaves them so
abbrev pub ChangesNameOneKey : Type 0 → Type 0
ChangesNameOneKey B =
    (c : Catalogue B) (name key : List ℕ) (what : KeyChange B) → OneKeyChanges c (changed c name (KeyChanged key what)) name key

-- the key itself has the versions that the rules of its bucket's versioning give
abbrev pub ChangesFollowRules : Type 0 → Type 0
ChangesFollowRules B =
    (c : Catalogue B) (name key : List ℕ) (what : KeyChange B) → IsTrue (has_bucket c name)
    → versions_of (changed c name (KeyChanged key what)) name key ≡ after_change (versioning_of c name) what (versions_of c name key)

-- so does the completion of an upload
abbrev pub CompletionsFollowRules : Type 0 → Type 0
CompletionsFollowRules B =
    (c : Catalogue B) (name key : List ℕ) (id : ℕ) (what : KeyChange B) → IsTrue (has_bucket c name)
    → versions_of (changed c name (UploadCompleted key id what)) name key ≡ after_change (versioning_of c name) what (versions_of c name key)

-- a completion does what the change of its key does, and what it does to drop the upload
abbrev pub CompletionsDoBoth : Type 0 → Type 0
CompletionsDoBoth B =
    (c : Catalogue B) (name key : List ℕ) (id : ℕ) (what : KeyChange B)
    → changed c name (UploadCompleted key id what) ≡ changed (changed c name (KeyChanged key what)) name (UploadDropped key id)

-- to switch its versioning leaves each key of a bucket, and it is not unversioned after
pub record SwitchKeepsKeys {B : Type 0} (c : Catalogue B) (name : List ℕ) (status : VersioningStatus) : Type 0 where
  pub keys : (key : List ℕ) → versions_of (changed c name (VersioningSet status)) name key ≡ versions_of c name key
  pub now : IsTrue (has_bucket c name) → versioning_of (changed c name (VersioningSet status)) name ≡ versioning_set status
  pub versioned : versioning_set status ≢ Unversioned

abbrev pub SwitchesKeepKeys : Type 0 → Type 0
SwitchesKeepKeys B = (c : Catalogue B) (name : List ℕ) (status : VersioningStatus) → SwitchKeepsKeys c name status

-- under each key stand versions of one key
abbrev pub AreCatalogued : {B : Type 0} → Catalogue B → Type 0
AreCatalogued c = (name key : List ℕ) → IsTrue (are_versions (versions_of c name key))

-- the number of the entry that makes a change, if it has one, is above those of the key's versions
abbrev pub IsNew : {B : Type 0} → Catalogue B → List ℕ → Change B → Type 0
IsNew c name (KeyChanged key what) = IfSome (number_of what) (λ n. IsTrue (is_new_number n (versions_of c name key)))
IsNew c name (UploadCompleted key id what) =
    IfSome (number_of what) (λ n. IsTrue (is_new_number n (versions_of c name key)))
IsNew c name other = Unit {0}

-- then that stays so
abbrev pub VersionsStayInOrder : Type 0 → Type 0
VersionsStayInOrder B =
    (c : Catalogue B) (name : List ℕ) (change : Change B)
    → AreCatalogued c → IsNew c name change → AreCatalogued (changed c name change)

-- a key that is there has versions, and one that is there for its uploads has some
pub record AreFilled {B : Type 0} (c : Catalogue B) : Type 0 where
  pub versions : (name key : List ℕ) (b : Bucket B) → map.get c name ≡ Some b → map.get b.keys key ≢ Some []
  pub uploads : (name key : List ℕ) (b : Bucket B) → map.get c name ≡ Some b → map.get b.uploads key ≢ Some map.empty

-- a catalogue opens with the named buckets, no versions and no uploads
pub record OpensEmpty (B : Type 0) (names : List (List ℕ)) (name : List ℕ) : Type 0 where
  pub there : has_bucket (opening {B = B} names) name ≡ list_any (bytes_eq name) names
  pub unversioned : versioning_of (opening {B = B} names) name ≡ Unversioned
  pub empty : (key : List ℕ) → versions_of (opening {B = B} names) name key ≡ []
  pub no_uploads : (key : List ℕ) (id : ℕ) → upload_at (opening {B = B} names) name key id ≡ None

abbrev pub OpeningIsEmpty : Type 0 → Type 0
OpeningIsEmpty B = (names : List (List ℕ)) (name : List ℕ) → OpensEmpty B names name

-- a bucket that counts as empty has no version, no delete marker and no upload
pub record HasNothing {B : Type 0} (c : Catalogue B) (name : List ℕ) : Type 0 where
  pub no_versions : (key : List ℕ) → versions_of c name key ≡ []
  pub no_uploads : (key : List ℕ) (id : ℕ) → upload_at c name key id ≡ None

abbrev pub EmptyHasNothing : Type 0 → Type 0
EmptyHasNothing B = (c : Catalogue B) (name : List ℕ) → IsTrue (is_empty_bucket c name) → HasNothing c name

-- no key is without, from the opening on
abbrev pub KeysStayFilled : Type 0 → Type 0
KeysStayFilled B =
    ((names : List (List ℕ)) → AreFilled (opening {B = B} names))
    × ((c : Catalogue B) (name : List ℕ) (change : Change B) → AreFilled c → AreFilled (changed c name change))

-- so a bucket that counts as not empty has a version, a delete marker or an upload
abbrev pub OthersHaveSomething : Type 0 → Type 0
OthersHaveSomething B =
    (c : Catalogue B) (name : List ℕ) → AreFilled c → is_empty_bucket c name ≡ false
    → ((key : List ℕ) × (versions_of c name key ≢ [])) ⊎ ((key : List ℕ) × (id : ℕ) × (upload_at c name key id ≢ None))

-- the keys of a bucket rise
abbrev pub KeysRise : Type 0 → Type 0
KeysRise B = (c : Catalogue B) (name : List ℕ) → IsTrue (rises (each (λ row. row.key) (key_rows c name)))

-- what is found under a key of a bucket is what the bucket holds there
abbrev pub HeldIsGot : Type 0 → Type 0
HeldIsGot B =
    (b : Bucket B) (key : List ℕ) (vs : List (Version B)) → (map.get b.keys key ≡ Some vs) ↔ Contains (held_in (Some b)) (key, vs)

-- an upload stands in the list of those of its bucket with its key, its id and its moment, and nothing else stands there
abbrev pub UploadsAreListed : Type 0 → Type 0
UploadsAreListed B =
    (c : Catalogue B) (name : List ℕ) (row : UploadRow)
    → (option_map (λ (u : Upload B). u.moment) (upload_at c name row.key row.id) ≡ Some row.moment) ↔ Contains (upload_rows c name) row

-- a list that goes on behind one of them tells those behind it, so each is told once
abbrev pub UploadsFollow : Type 0 → Type 0
UploadsFollow B =
    (c : Catalogue B) (name : List ℕ) (front rest : List UploadRow) (row : UploadRow)
    → upload_rows c name ≡ front ++ row ∷ rest → uploads_from c name (BehindUpload row.key row.id) ≡ rest
