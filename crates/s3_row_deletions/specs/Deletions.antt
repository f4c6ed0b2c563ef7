-- Several deletions as changes of rows.
use Rattle.std.specs.Prelude.{◌≡◌, ℕ, List, []}
use Rattle.s3_deletions.specs.declared.named.NamedObject.{NamedObject}
use Rattle.s3_records.specs.Deletions.{all_deleted, markers_of}
use Rattle.s3_rows.specs.Columns.{Tables}
use Rattle.s3_rows.specs.Meaning.{catalogue_of}
use Rattle.s3_rows.specs.Soundness.{AreSound}
use Rattle.s3_stored_bodies.specs.Numbers.{Contents}
use Rattle.s3_stored_rows.specs.Bodies.{encoding}
use Rattle.s3_stored_rows.specs.Changes.{after_all}
use Rattle.s3_stored_rows.specs.Rowids.{AreRowsBelow}
use Rattle.s3_row_changes.specs.Trading.{Trades}
use Rattle.s3_row_deletions.specs.declared.deletions.Deletions.{Deletions}

-- the changes leave sound tables, in which the objects are deleted, each as DeleteObject does; the markers are those that are told,
-- the numbers are those of the rows that went, every rowid is below the next, and the row of the store stays
pub record AreDeletions (t : Tables) (bucket : List ℕ) (n m : ℕ) (objects : List NamedObject) (d : Deletions) : Type 0 where
  pub sound : AreSound (after_all d.changes.items t)
  pub rowids : AreRowsBelow d.next (after_all d.changes.items t)
  pub means : (contents : Contents) → catalogue_of (encoding contents) (after_all d.changes.items t) ≡ all_deleted (catalogue_of (encoding contents) t) bucket n m objects
  pub told : (contents : Contents) → d.markers.items ≡ markers_of (catalogue_of (encoding contents) t) bucket n m objects
  pub trades : Trades t (after_all d.changes.items t) d.gone.items []
  pub store : (after_all d.changes.items t).store ≡ t.store
