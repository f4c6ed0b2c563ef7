-- What queries of many rows tell is what lists have.
use Rattle.std.specs.Prelude.{◌≡◌, ℕ, pos, unsigned_abs, int_lt, ◌&&◌, Bool, List, map as each, filter, find, Some}
use Rattle.std.specs.Ordering.{int_cmp, ordering_then}
use Rattle.std.specs.declared.cmp.Ordering.{Ordering}
use Rattle.sqlite_keyed.specs.Lists.{sort_by}
use Rattle.s3_text.specs.Order.{byte_order}
use Rattle.s3_uploads.specs.Parts.{part_row, rows_behind}
use Rattle.s3_uploads.specs.declared.part.PartRow.{PartRow}
use Rattle.s3_records.specs.OpenUploads.{parts_at, is_upload_from, uploads_from}
use Rattle.s3_records.specs.declared.rows.UploadRow.{UploadRow}
use Rattle.s3_records.specs.declared.rows.UploadStart.{UploadStart}
use Rattle.s3_rows.specs.Columns.{UploadColumns, PartColumns, Tables}
use Rattle.s3_rows.specs.Encoding.{Encoding}
use Rattle.s3_rows.specs.Finding.{is_upload_in, is_upload, is_sent_to, by_part}
use Rattle.s3_rows.specs.Meaning.{catalogue_of}
use Rattle.s3_rows.specs.ReadingLaws.{numbered_part}
use Rattle.s3_rows.specs.Soundness.{AreSound}

-- what a row tells in a list of parts, and in one of uploads
abbrev pub part_told : Encoding → PartColumns → PartRow
part_told e p = part_row (numbered_part e p)

abbrev pub upload_listed : UploadColumns → UploadRow
upload_listed u = record { key = u.key; id = unsigned_abs u.id; moment = unsigned_abs u.moment }

-- a part has a number above this one
abbrev pub is_part_above : ℕ → PartColumns → Bool
is_part_above last p = int_lt (pos last) p.part

-- uploads by key in the order of bytes, and those to one key by id
abbrev pub by_id : UploadColumns → UploadColumns → Ordering
by_id a b = int_cmp a.id b.id

abbrev pub by_key_and_id : UploadColumns → UploadColumns → Ordering
by_key_and_id a b = ordering_then (byte_order a.key b.key) (by_id a b)

-- the parts of an upload behind a number are those of the rows above it, by number
abbrev pub RowsListParts : Type 0
RowsListParts =
    (e : Encoding) (t : Tables) (bucket key : List ℕ) (id last : ℕ) (u : UploadColumns) → AreSound t → find (is_upload bucket key (pos id)) t.uploads ≡ Some u
    → rows_behind last (parts_at (catalogue_of e t) bucket key id)
    ≡ each (part_told e) (sort_by by_part (filter (λ p. is_sent_to u.row p && is_part_above last p) t.parts))

-- the uploads of a bucket from a place on are those of its rows from there on, by key and by id
abbrev pub RowsListUploads : Type 0
RowsListUploads =
    (e : Encoding) (t : Tables) (bucket : List ℕ) (start : UploadStart) → AreSound t
    → uploads_from (catalogue_of e t) bucket start
    ≡ each upload_listed (sort_by by_key_and_id (filter (λ u. is_upload_in bucket u && is_upload_from start (upload_listed u)) t.uploads))
