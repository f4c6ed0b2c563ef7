-- What a crash leaves of a catalogue in rows and bodies.
use Rattle.std.specs.Prelude.{◌≡◌, ◌<◌, ℕ, List, Some}
use Rattle.std.specs.FinMap as map
use Rattle.s3_records.specs.Catalogue.{Catalogue}
use Rattle.s3_records.specs.Leaving.{IsOneOf}
use Rattle.s3_rows.specs.Columns.{Tables}
use Rattle.s3_rows.specs.Meaning.{catalogue_of}
use Rattle.s3_stored_bodies.specs.Numbers.{Contents, times}
use Rattle.s3_stored_rows.specs.Bodies.{encoding, numbers_named}

-- a catalogue that one may find who opens rows and bodies again after a crash, by what it may leave of the rows and of the bodies
pub record IsLeft (rows : Tables → Type 0) (bodies : Contents → Type 0) (left : Catalogue (List ℕ)) : Type 0 where
  pub tables : Tables
  pub contents : Contents
  pub of_rows : rows tables
  pub of_bodies : bodies contents
  pub means : left ≡ catalogue_of (encoding contents) tables

-- these rows are one of these catalogues, whatever a crash leaves of the bodies: the bytes under the numbers that they name outlive it
pub record IsKnown (outlives : ℕ → List ℕ → Type 0) (t : Tables) (known : List (Catalogue (List ℕ))) : Type 0 where
  pub contents : Contents
  pub last : (n : ℕ) → 0 < times n (numbers_named t) → (bytes : List ℕ) × (map.get contents n ≡ Some bytes) × outlives n bytes
  pub among : IsOneOf (catalogue_of (encoding contents) t) known

-- a crash leaves one of these catalogues, or nothing, by what it may leave of the rows and what of the bodies outlives it
abbrev pub LeavesOneOf : (Tables → Type 0) → (ℕ → List ℕ → Type 0) → List (Catalogue (List ℕ)) → Type 0
LeavesOneOf rows outlives known = (t : Tables) → rows t → IsKnown outlives t known

-- and so one of more of them
pub one_of_more : (rows : Tables → Type 0) (outlives : ℕ → List ℕ → Type 0) (known more : List (Catalogue (List ℕ)))
    → ((c : Catalogue (List ℕ)) → IsOneOf c known → IsOneOf c more) → LeavesOneOf rows outlives known → LeavesOneOf rows outlives more
one_of_more rows outlives known more are leaves t left =
    let is = leaves t left in
    record { contents = is.contents; last = is.last; among = are (catalogue_of (encoding is.contents) t) is.among }
