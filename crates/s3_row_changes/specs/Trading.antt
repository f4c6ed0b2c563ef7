-- How often rows name each number of a body, before a change of rows and after it.
use Rattle.std.specs.Prelude.{◌≡◌, ℕ, ℤ, ◌+◌, false, List, [], Option, Some, None}
use Rattle.std.specs.List.{flat_map}
use Rattle.sqlite_keyed.specs.Keyed.{has_key}
use Rattle.s3_stored_bodies.specs.Numbers.{times}
use Rattle.s3_rows.specs.Columns.{VersionColumns, UploadColumns, PartColumns, Tables}
use Rattle.s3_rows.specs.Soundness.{version_row, part_row, AreSound}
use Rattle.s3_rows.specs.TableChanges.{version_put, version_dropped, upload_added, upload_dropped, parts_left, part_put}
use Rattle.s3_stored_rows.specs.Bodies.{version_numbers, part_numbers, numbers_named}
use Rattle.s3_stored_rows.specs.Queries.{version_of_id, upload_of_id, part_of_number}
use Rattle.s3_row_changes.specs.Uploads.{parts_sent}

-- of one table to the other each of these numbers is named once less, and each of those once more
abbrev pub Trades : Tables → Tables → List ℕ → List ℕ → Type 0
Trades old new less more = (n : ℕ) → times n (numbers_named new) + times n less ≡ times n (numbers_named old) + times n more

-- the numbers of a row that may be there
abbrev pub numbers_of : {X : Type 0} → (X → List ℕ) → Option X → List ℕ
numbers_of numbers None = []
numbers_of numbers (Some x) = numbers x

-- a version that is put, under a rowid that no other row has, names its numbers, and what it replaces no more names its own
abbrev pub VersionPutsTrade : Type 0
VersionPutsTrade =
    (t : Tables) (row : VersionColumns) → AreSound t → has_key version_row (version_dropped row.bucket row.key row.id t).versions row.row ≡ false
    → Trades t (version_put row t) (numbers_of version_numbers (version_of_id row.bucket row.key row.id t)) (version_numbers row)

-- a version that is dropped no more names its numbers
abbrev pub VersionDropsTrade : Type 0
VersionDropsTrade =
    (t : Tables) (bucket key : List ℕ) (id : ℤ) → AreSound t
    → Trades t (version_dropped bucket key id t) (numbers_of version_numbers (version_of_id bucket key id t)) []

-- a part that is put, under a rowid that no other row has, likewise
abbrev pub PartPutsTrade : Type 0
PartPutsTrade =
    (t : Tables) (row : PartColumns) → AreSound t → has_key part_row (parts_left row t) row.row ≡ false
    → Trades t (part_put row t) (numbers_of part_numbers (part_of_number row.upload row.part t)) (part_numbers row)

-- an upload names none itself, and where it is dropped its parts go with it
abbrev pub UploadAddsTrade : Type 0
UploadAddsTrade = (t : Tables) (row : UploadColumns) → Trades t (upload_added row t) [] []

abbrev pub sent_numbers : Tables → Option UploadColumns → List ℕ
sent_numbers t None = []
sent_numbers t (Some u) = flat_map part_numbers (parts_sent t u)

abbrev pub UploadDropsTrade : Type 0
UploadDropsTrade =
    (t : Tables) (bucket key : List ℕ) (id : ℤ) → AreSound t
    → Trades t (upload_dropped bucket key id t) (sent_numbers t (upload_of_id bucket key id t)) []
