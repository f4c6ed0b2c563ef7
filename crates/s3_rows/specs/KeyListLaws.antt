-- What a query of the versions of a bucket tells of its keys is what lists have.
use Rattle.std.specs.Prelude.{◌≡◌, ℕ, ◌&&◌, if◌then◌else◌, List, [], ◌∷◌, filter, Option, Some, None}
use Rattle.sqlite_keyed.specs.Lists.{sort_by}
use Rattle.s3_records.specs.Rows.{is_from, key_row, keys_from}
use Rattle.s3_records.specs.declared.rows.KeyRow.{KeyRow}
use Rattle.s3_records.specs.declared.rows.Start.{Start}
use Rattle.s3_rows.specs.Columns.{VersionColumns, Tables}
use Rattle.s3_rows.specs.Encoding.{Encoding}
use Rattle.s3_rows.specs.Finding.{is_in}
use Rattle.s3_rows.specs.Meaning.{version_of, catalogue_of}
use Rattle.s3_rows.specs.Soundness.{AreSound}
use Rattle.s3_rows.specs.VersionListLaws.{by_key_and_number, is_last}

-- what the newest row of a key tells of it
abbrev pub key_listed : Encoding → VersionColumns → KeyRow
key_listed e v = key_row (v.key, version_of e v ∷ [])

-- what a list tells of rows, of which the first of each key counts, behind one of this key, if they stand behind one
abbrev pub keys_listed : Encoding → Option (List ℕ) → List VersionColumns → List KeyRow
keys_listed e last [] = []
keys_listed e last (v ∷ vs) = if is_last last v.key then keys_listed e (Some v.key) vs else key_listed e v ∷ keys_listed e (Some v.key) vs

-- the keys of a bucket from a place on are those of the rows of its versions from there on, by key and newest first
abbrev pub RowsListKeys : Type 0
RowsListKeys =
    (e : Encoding) (t : Tables) (bucket : List ℕ) (start : Start) → AreSound t
    → keys_from (catalogue_of e t) bucket start
    ≡ keys_listed e None (sort_by by_key_and_number (filter (λ v. is_in bucket v && is_from start v.key) t.versions))
