-- What a step does to the rows of a store.
use Rattle.std.specs.Prelude.{◌≡◌, ◌^◌, ℕ, ℤ, pos, int_lt, List}
use Rattle.sqlite_keyed.specs.Rules.{AllPass}
use Rattle.s3_records.specs.Changes.{Change, changed}
use Rattle.s3_rows.specs.Columns.{VersionColumns, UploadColumns, Tables}
use Rattle.s3_rows.specs.Meaning.{catalogue_of}
use Rattle.s3_rows.specs.Soundness.{AreSound}
use Rattle.s3_stored_bodies.specs.Numbers.{Contents}
use Rattle.s3_stored_rows.specs.Bodies.{encoding}
use Rattle.s3_stored_rows.specs.Rowids.{AreRowsBelow}
use Rattle.s3_row_changes.specs.Trading.{Trades}

-- the ids of versions and of uploads are below 2 ^ 63
pub record HaveSmallIds (t : Tables) : Type 0 where
  pub versions : AllPass (λ (v : VersionColumns). int_lt v.id (pos (2 ^ 63))) t.versions
  pub uploads : AllPass (λ (u : UploadColumns). int_lt u.id (pos (2 ^ 63))) t.uploads

-- the rows are sound, the next rowid is above theirs, and their ids are small
pub record AreKept (next : ℤ) (t : Tables) : Type 0 where
  pub sound : AreSound t
  pub rowids : AreRowsBelow next t
  pub small : HaveSmallIds t

-- the rows are kept, are this change of the catalogue, whatever bytes stand under each number, name numbers of bodies once less and
-- once more, and the row of the store stays
pub record Steps (old new : Tables) (next : ℤ) (bucket : List ℕ) (change : Contents → Change (List ℕ)) (less more : List ℕ) : Type 0 where
  pub kept : AreKept next new
  pub means : (contents : Contents) → catalogue_of (encoding contents) new ≡ changed (catalogue_of (encoding contents) old) bucket (change contents)
  pub trades : Trades old new less more
  pub store : new.store ≡ old.store
