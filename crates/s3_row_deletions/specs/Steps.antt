-- What the deletion of one object comes to.
use Rattle.std.specs.Prelude.{◌≡◌, ◌==◌, ℕ, ℤ, pos, ◌+◌, ◌+ℤ◌, unsigned_abs, nat_lt, IsTrue, Bool, true, false, List, [], ◌∷◌, ◌++◌, Option, Some, None, option_map, unwrap_or}
use Rattle.std.specs.List.{AllByRecursion}
use Rattle.s3_names.specs.declared.ids.VersionId.{VersionId}
use Rattle.s3_names.specs.declared.ids.VersionId.TheVariants.{Null, Numbered}
use Rattle.s3_versions.specs.declared.version.Versioning.{Versioning}
use Rattle.s3_versions.specs.Rules.{new_id}
use Rattle.s3_deletions.specs.declared.named.NamedObject.{NamedObject}
use Rattle.s3_records.specs.Catalogue.{versioning_of}
use Rattle.s3_records.specs.Deletions.{deleted, all_deleted, marker_of, markers_of}
use Rattle.s3_records.specs.Places.{AreBelow}
use Rattle.s3_rows.specs.Columns.{VersionColumns, Tables}
use Rattle.s3_rows.specs.Finding.{is_in, id_column}
use Rattle.s3_rows.specs.Meaning.{catalogue_of}
use Rattle.s3_rows.specs.Soundness.{AreSound, has_bucket_row}
use Rattle.s3_stored_bodies.specs.Numbers.{Contents}
use Rattle.s3_stored_rows.specs.Bodies.{encoding}
use Rattle.s3_stored_rows.specs.Changes.{after_all, version_columns}
use Rattle.s3_stored_rows.specs.Rowids.{AreRowsBelow}
use Rattle.s3_stored_rows.specs.declared.rows.StoredVersion.{StoredVersion}
use Rattle.s3_stored_rows.specs.declared.rows.TableName.TheVariants.{Versions}
use Rattle.s3_stored_rows.specs.declared.change.Change.{Change}
use Rattle.s3_stored_rows.specs.declared.change.Change.TheVariants.{AddVersion, DropRow}
use Rattle.s3_row_changes.specs.Trading.{Trades}
use Rattle.s3_row_values.specs.Values.{IsMarkerRow}
use Rattle.s3_row_deletions.specs.Standing.{Shown, MayComeAll}
use Rattle.s3_row_deletions.specs.declared.deletions.Deletions.{Deletions}
use Rattle.s3_row_deletions.specs.declared.standing.Standing.{Standing}
use Rattle.s3_row_deletions.specs.declared.steps.Entry.{Entry}
use Rattle.s3_row_deletions.specs.declared.steps.Step.{Step}

-- the changes of the rows: one goes, and one comes
abbrev pub rows_gone : Option Standing → List Change
rows_gone None = []
rows_gone (Some s) = DropRow Versions s.row ∷ []

abbrev pub rows_come : Option StoredVersion → List Change
rows_come None = []
rows_come (Some v) = AddVersion v ∷ []

abbrev pub changes_of : Step → List Change
changes_of s = rows_gone s.gone ++ rows_come s.comes

-- the numbers of bodies that the row named that goes
abbrev pub numbers_gone : Option Standing → List ℕ
numbers_gone None = []
numbers_gone (Some s) = s.numbers.items

-- the next rowid
abbrev pub next_after : Option StoredVersion → ℤ → ℤ
next_after None next = next
next_after (Some v) next = next +ℤ pos 1

-- the id is of none that entry n, or a later one, makes
abbrev pub is_older : ℕ → VersionId → Bool
is_older n Null = true
is_older n (Numbered m) = nat_lt m n

-- what is found was made by entry n
abbrev pub is_made : ℕ → Option Shown → Bool
is_made n found = unwrap_or (option_map (λ (s : Shown). s.1 == n) found) false

-- what is found is a delete marker, and then its id is told
abbrev pub is_marker_shown : Option Shown → Bool
is_marker_shown found = unwrap_or (option_map (λ (s : Shown). s.2) found) false

-- a row of the bucket that has the number of an entry has the id of what the entry makes
abbrev pub HasNewId : List ℕ → Versioning → ℕ → VersionColumns → Type 0
HasNewId bucket versioning n v = is_in bucket v ≡ true → unsigned_abs v.number ≡ n → v.id ≡ id_column (new_id versioning n)

-- the tables as an entry's deletions find and leave them: the bucket is there with its versioning, and no rowid reaches the next
pub record AreReady (t : Tables) (bucket : List ℕ) (e : Entry) (next : ℤ) : Type 0 where
  pub sound : AreSound t
  pub rowids : AreRowsBelow next t
  pub there : IsTrue (has_bucket_row t.buckets bucket)
  pub versioning : (contents : Contents) → versioning_of (catalogue_of (encoding contents) t) bucket ≡ e.versioning
  pub below : (contents : Contents) → AreBelow (e.number + 1) (catalogue_of (encoding contents) t)
  pub own : AllByRecursion (HasNewId bucket e.versioning e.number) t.versions

-- from tables to others the object is deleted, as DeleteObject does; this marker is told, and these numbers are no more named
pub record IsDeleted (t u : Tables) (bucket : List ℕ) (e : Entry) (object : NamedObject) (marker : Option VersionId) (gone : List ℕ) : Type 0 where
  pub means : (contents : Contents) → catalogue_of (encoding contents) u ≡ deleted (catalogue_of (encoding contents) t) bucket e.number e.moment object
  pub told : (contents : Contents) → marker ≡ marker_of (catalogue_of (encoding contents) t) bucket e.number object
  pub trades : Trades t u gone []

-- what the deletion of an object comes to
pub record IsStep (t : Tables) (bucket : List ℕ) (e : Entry) (next : ℤ) (object : NamedObject) (step : Step) : Type 0 where
  pub may_come : MayComeAll t (changes_of step)
  pub ready : AreReady (after_all (changes_of step) t) bucket e (next_after step.comes next)
  pub is : IsDeleted t (after_all (changes_of step) t) bucket e object step.marker (numbers_gone step.gone)

-- the same where these changes came before it
abbrev pub IsStepAfter : Tables → List Change → List ℕ → Entry → ℤ → NamedObject → Step → Type 0
IsStepAfter t changes bucket e next object step =
    MayComeAll t changes → AreReady (after_all changes t) bucket e next → IsStep (after_all changes t) bucket e next object step

-- what the deletion of a key comes to that makes a delete marker, in whose place nothing stands, or this row
abbrev pub IsMarkerPut : List ℕ → Entry → ℤ → List ℕ → Option StoredVersion → Type 0
IsMarkerPut bucket e next key None = ⊥
IsMarkerPut bucket e next key (Some v) = IsMarkerRow (version_columns v) next bucket key e.versioning e.number e.moment

pub record IsMark (bucket : List ℕ) (e : Entry) (next : ℤ) (key : List ℕ) (found : Option Standing) (step : Step) : Type 0 where
  pub gone : step.gone ≡ found
  pub comes : IsMarkerPut bucket e next key step.comes
  pub marker : step.marker ≡ Some (new_id e.versioning e.number)

-- all deletions so far of these objects
pub record AreSteps (t : Tables) (bucket : List ℕ) (e : Entry) (objects : List NamedObject) (d : Deletions) : Type 0 where
  pub may_come : MayComeAll t d.changes.items
  pub ready : AreReady (after_all d.changes.items t) bucket e d.next
  pub means : (contents : Contents) → catalogue_of (encoding contents) (after_all d.changes.items t) ≡ all_deleted (catalogue_of (encoding contents) t) bucket e.number e.moment objects
  pub told : (contents : Contents) → d.markers.items ≡ markers_of (catalogue_of (encoding contents) t) bucket e.number e.moment objects
  pub trades : Trades t (after_all d.changes.items t) d.gone.items []
  pub store : (after_all d.changes.items t).store ≡ t.store

-- a step is added to them
pub record IsAdded (old : Deletions) (step : Step) (new : Deletions) : Type 0 where
  pub changes : new.changes.items ≡ old.changes.items ++ changes_of step
  pub gone : new.gone.items ≡ old.gone.items ++ numbers_gone step.gone
  pub markers : new.markers.items ≡ old.markers.items ++ step.marker ∷ []
  pub next : new.next ≡ next_after step.comes old.next
