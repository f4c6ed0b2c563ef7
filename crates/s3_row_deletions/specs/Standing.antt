-- What stands at a place after changes that aren't made yet.
use Rattle.std.specs.Prelude.{◌≡◌, ℕ, ℤ, pos, unsigned_abs, if◌then◌else◌, Bool, false, List, [], ◌∷◌, fold, Option, Some, None}
use Rattle.std.specs.Ordering.{int_eq}
use Rattle.sqlite_keyed.specs.Keyed.{has_key}
use Rattle.sqlite_keyed.specs.Rules.{AreApart}
use Rattle.s3_rows.specs.Columns.{VersionColumns, Tables}
use Rattle.s3_rows.specs.Finding.{is_version}
use Rattle.s3_rows.specs.Soundness.{version_row, same_version}
use Rattle.s3_stored_rows.specs.Bodies.{version_numbers}
use Rattle.s3_stored_rows.specs.Changes.{version_columns, changed_by}
use Rattle.s3_stored_rows.specs.Queries.{version_of_id}
use Rattle.s3_stored_rows.specs.declared.change.Change.{Change}
use Rattle.s3_stored_rows.specs.declared.change.Change.TheVariants.{AddBucket, AddVersion, AddUpload, AddPart, AddStore, DropRow}
use Rattle.s3_stored_rows.specs.declared.rows.TableName.TheVariants.{Buckets, Versions, Uploads, Parts, Store}
use Rattle.s3_row_deletions.specs.declared.standing.Standing.{Standing}

-- what is told of a row of a version: its rowid, the number of the entry, whether it is a delete marker, and the numbers of its bodies
abbrev pub Shown : Type 0
Shown = ℤ × ℕ × Bool × List ℕ

abbrev pub shown : Standing → Shown
shown s = (s.row, s.number, s.is_marker, s.numbers.items)

abbrev pub row_shown : VersionColumns → Shown
row_shown v = (v.row, unsigned_abs v.number, int_eq v.marker (pos 1), version_numbers v)

-- what is found, unless its row has this rowid
abbrev pub unless_row : ℤ → Option VersionColumns → Option VersionColumns
unless_row row None = None
unless_row row (Some v) = if int_eq v.row row then None else Some v

-- the version of an id under a key after a change, by the one before it
abbrev pub found_next : List ℕ → List ℕ → ℤ → Change → Option VersionColumns → Option VersionColumns
found_next bucket key id (AddBucket b) before = before
found_next bucket key id (AddVersion v) before = if is_version bucket key id (version_columns v) then Some (version_columns v) else before
found_next bucket key id (AddUpload u) before = before
found_next bucket key id (AddPart p) before = before
found_next bucket key id (AddStore s) before = before
found_next bucket key id (DropRow Buckets row) before = before
found_next bucket key id (DropRow Versions row) before = unless_row row before
found_next bucket key id (DropRow Uploads row) before = before
found_next bucket key id (DropRow Parts row) before = before
found_next bucket key id (DropRow Store row) before = before

-- and after several
abbrev pub found_after : List ℕ → List ℕ → ℤ → List Change → Option VersionColumns → Option VersionColumns
found_after bucket key id changes before = fold (λ found change. found_next bucket key id change found) before changes

-- a change comes where no row has the rowid or the id of the one that it puts in, and no two have one id where it takes one out
abbrev pub MayCome : Tables → Change → Type 0
MayCome t (AddBucket b) = Unit {0}
MayCome t (AddVersion v) = (has_key version_row t.versions v.row ≡ false) × (version_of_id v.bucket.items v.key.items v.id t ≡ None)
MayCome t (AddUpload u) = Unit {0}
MayCome t (AddPart p) = Unit {0}
MayCome t (AddStore s) = Unit {0}
MayCome t (DropRow Buckets row) = Unit {0}
MayCome t (DropRow Versions row) = AreApart same_version t.versions
MayCome t (DropRow Uploads row) = Unit {0}
MayCome t (DropRow Parts row) = Unit {0}
MayCome t (DropRow Store row) = Unit {0}

-- so does each of several, where those before it were made
abbrev pub MayComeAll : Tables → List Change → Type 0
MayComeAll t [] = Unit {0}
MayComeAll t (change ∷ changes) = MayCome t change × MayComeAll (changed_by change t) changes
