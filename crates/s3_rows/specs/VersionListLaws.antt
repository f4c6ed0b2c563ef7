-- What queries of the versions of a bucket tell is what lists have.
use Rattle.std.specs.Prelude.{◌≡◌, ℕ, not, false, ◌&&◌, Bool, List, [], ◌∷◌, filter, Option, Some, None}
use Rattle.std.specs.Ordering.{ordering_then}
use Rattle.std.specs.declared.cmp.Ordering.{Ordering}
use Rattle.sqlite_keyed.specs.Lists.{sort_by}
use Rattle.s3_text.specs.Order.{byte_order}
use Rattle.s3_records.specs.Rows.{is_from, version_row, versions_from}
use Rattle.s3_records.specs.declared.rows.Start.{Start}
use Rattle.s3_records.specs.declared.rows.VersionRow.{VersionRow}
use Rattle.s3_records.specs.declared.rows.VersionStart.TheVariants.{At}
use Rattle.s3_rows.specs.Columns.{VersionColumns, Tables}
use Rattle.s3_rows.specs.Encoding.{Encoding}
use Rattle.s3_rows.specs.Finding.{same_text, is_in, newest_first}
use Rattle.s3_rows.specs.Meaning.{version_of, catalogue_of}
use Rattle.s3_rows.specs.Soundness.{AreSound}

-- versions by key in the order of bytes, and those of one key newest first
abbrev pub by_key_and_number : VersionColumns → VersionColumns → Ordering
by_key_and_number a b = ordering_then (byte_order a.key b.key) (newest_first a b)

-- a key is the last one that was told, if one was
abbrev pub is_last : Option (List ℕ) → List ℕ → Bool
is_last None key = false
is_last (Some last) key = same_text last key

-- what a list tells of rows, the first of which stands behind one of this key, if it stands behind one: of each key the first is
-- the current version
abbrev pub versions_listed : Encoding → Option (List ℕ) → List VersionColumns → List VersionRow
versions_listed e last [] = []
versions_listed e last (v ∷ vs) = version_row v.key (not (is_last last v.key)) (version_of e v) ∷ versions_listed e (Some v.key) vs

-- the versions of a bucket from a key on are those of its rows from there on, by key and newest first
abbrev pub RowsListVersions : Type 0
RowsListVersions =
    (e : Encoding) (t : Tables) (bucket : List ℕ) (start : Start) → AreSound t
    → versions_from (catalogue_of e t) bucket (At start)
    ≡ versions_listed e None (sort_by by_key_and_number (filter (λ v. is_in bucket v && is_from start v.key) t.versions))
