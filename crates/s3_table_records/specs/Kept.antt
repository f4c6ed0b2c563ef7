-- What a keeper over rows and bodies keeps.
use Rattle.std.specs.Prelude.{◌≡◌, ℕ, ℤ, List, Result, IfOk, OnOk, OnErr, refl}
use Rattle.std.specs.Coded.{Coded, code_by, coded×, coded_ℤ}
use Rattle.s3_terms.specs.declared.memory.NoMemory.{NoMemory}
use Rattle.s3_records.specs.Catalogue.{Catalogue}
use Rattle.s3_records.specs.Changes.{Change, changed}
use Rattle.s3_records.specs.Deletions.{all_deleted, markers_of}
use Rattle.s3_deletions.specs.declared.named.NamedObject.{NamedObject}
use Rattle.s3_deletions.specs.declared.told.Markers.{Markers}
use Rattle.s3_rows.specs.Columns.{Tables}
use Rattle.s3_rows.specs.Meaning.{catalogue_of}
use Rattle.s3_stored_bodies.specs.Numbers.{Contents, times}
use Rattle.s3_stored_rows.specs.Bodies.{encoding, numbers_named}
use Rattle.s3_row_steps.specs.Steps.{AreKept}

-- the rows, the bytes under each number, how many rows name each number by the keeper's count, and the next rowid
pub record Kept : Type 0 where
  pub tables : Tables
  pub contents : Contents
  pub uses : ℕ → ℕ
  pub next : ℤ

abbrev pub kept : Tables → Contents → (ℕ → ℕ) → ℤ → Kept
kept tables contents uses next = record { tables = tables; contents = contents; uses = uses; next = next }

-- the catalogue that it is
abbrev pub catalogue : Kept → Catalogue (List ℕ)
catalogue k = catalogue_of (encoding k.contents) k.tables

-- the rows are sound and below the next rowid, and each number is counted as often as rows name it
pub record IsKept (k : Kept) : Type 0 where
  pub rows : AreKept k.next k.tables
  pub named : (n : ℕ) → k.uses n ≡ times n (numbers_named k.tables)

-- records over rows and bodies, with the next rowid
pub record Parts (R B : Type 0) : Type 0 where
  pub rows : R
  pub bodies : B
  pub next : ℤ

-- how std numbers them
abbrev pub coded_parts : {R B : Type 0} → Coded R → Coded B → Coded (Parts R B)
coded_parts {R} {B} rows bodies =
    code_by (R × (B × ℤ)) (coded× rows (coded× bodies coded_ℤ))
    (λ parts. (parts.rows, (parts.bodies, parts.next)))
    (λ p. record { rows = p.0; bodies = p.1.0; next = p.1.1 })
    (λ _. refl)

-- what they keep, where this is told of the rows and of the bodies
abbrev pub kept_in : {R B : Type 0} → (R → Tables) → (B → Contents) → (B → ℕ → ℕ) → Parts R B → Kept
kept_in tables contents uses parts = kept (tables parts.rows) (contents parts.bodies) (uses parts.bodies) parts.next

-- what is kept is this change of the catalogue, or where an error is answered the catalogue as it was; the row of the store stays
pub record Changes {X : Type 0} (old new : Kept) (bucket : List ℕ) (change : Change (List ℕ)) (result : Result X NoMemory) : Type 0 where
  pub kept : IsKept new
  pub ok : OnOk result (catalogue new ≡ changed (catalogue old) bucket change)
  pub err : OnErr result (catalogue new ≡ catalogue old)
  pub store : new.tables.store ≡ old.tables.store

-- the same of several deletions by entry n at moment m, which tells the ids of delete markers
pub record Deletes (old new : Kept) (bucket : List ℕ) (n m : ℕ) (objects : List NamedObject) (result : Result Markers NoMemory) : Type 0 where
  pub kept : IsKept new
  pub ok : OnOk result (catalogue new ≡ all_deleted (catalogue old) bucket n m objects)
  pub markers : IfOk result (λ markers. markers ≡ markers_of (catalogue old) bucket n m objects)
  pub err : OnErr result (catalogue new ≡ catalogue old)
  pub store : new.tables.store ≡ old.tables.store
