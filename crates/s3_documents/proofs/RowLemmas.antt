-- How much room the rows of lists take.
use Rattle.std.proofs.Common.{◌≡◌, ap, ◌∙◌, ◌≤◌, ◌<◌, ◌+◌, ◌*◌, ◌^◌, Bool, true, ℕ, List, [], ◌∷◌, ◌++◌, map, codes, length, length-append, Option, Some, None, subst, sym, arith}
use Rattle.std.specs.Int.{w64, to_be_bytes}
use Rattle.std.specs.List.{list_all}
use Rattle.hex.specs.Hex.{lower_digits}
use Rattle.hex.proofs.HexLemmas.{length-encode_with}
use Rattle.json.specs.Token.{string}
use Rattle.json.specs.Print.{token_text, escape, escape_byte}
use Rattle.s3_text.specs.Digits.{number_digits}
use Rattle.s3_names.specs.Tags.{is_tag_character}
use Rattle.s3_names.specs.Ids.{numbered_id, upload_id_text, version_id_text}
use Rattle.s3_names.specs.declared.ids.VersionId.{VersionId}
use Rattle.s3_names.specs.declared.ids.VersionId.TheVariants.{Null, Numbered}
use Rattle.s3_versions.specs.declared.picking.Facts.{Facts}
use Rattle.s3_records.specs.declared.records.ListedBucket.{ListedBucket}
use Rattle.s3_records.specs.declared.rows.UploadRow.{UploadRow}
use Rattle.s3_records.specs.declared.rows.VersionRow.{VersionRow}
use Rattle.s3_uploads.specs.declared.part.PartRow.{PartRow}
use Rattle.s3_listings.specs.declared.object_page.ListedObject.{ListedObject}
use Rattle.s3_documents.specs.Tree.{Fields, Tree, rows, leaves}
use Rattle.s3_documents.specs.Buckets.{bucket_row}
use Rattle.s3_documents.specs.Copied.{tag_told}
use Rattle.s3_documents.specs.Tree.{rows_between}
use Rattle.s3_documents.specs.ObjectList.{object_row, prefix_row, page_tree}
use Rattle.s3_documents.specs.PartList.{part_fields}
use Rattle.s3_documents.specs.UploadList.{upload_fields}
use Rattle.s3_documents.specs.VersionList.{version_fields}
use Rattle.s3_documents.specs.Printed.{branches_tokens, row_tokens, room_of}
use Rattle.s3_documents.proofs.PlainLemmas.{tag_plain}
use Rattle.s3_documents.proofs.CopiedLemmas.{quote_escaped}
use Rattle.s3_documents.proofs.RoomLemmas.{branches_room, row_room, string_room, number_room, truth_room, moment_room}

-- a tag: nothing of it is escaped but its two quotes
tag_room : (tag : List ℕ) → length tag ≤ 38 → list_all is_tag_character tag ≡ true → length (token_text (string (tag_told tag))) + 1 ≤ 45
unfolding escape_byte
tag_room tag short characters =
    let quote = ap length (quote_escaped tag (tag_plain tag characters)) in
    omega (arith, quote, short, length-append tag (92 ∷ 34 ∷ []), length-append (escape (tag ++ 34 ∷ [])) (34 ∷ []))

id_length : (id : VersionId) → length (version_id_text id) ≤ 17
unfolding numbered_id number_digits
id_length Null = omega arith
id_length (Numbered number) = omega (arith, length-encode_with lower_digits (to_be_bytes w64 number))

upload_id_length : (id : ℕ) → length (upload_id_text id) ≤ 17
unfolding numbered_id number_digits
upload_id_length id = omega (arith, length-encode_with lower_digits (to_be_bytes w64 id))

-- ---- rows of lists of objects

pub object_row_room : (object : ListedObject) → length object.facts.tag ≤ 38 → list_all is_tag_character object.facts.tag ≡ true → object.facts.size < 2 ^ 64
    → room_of (row_tokens (object_row object)) ≤ 6 * length object.key + 259
unfolding escape_byte
object_row_room object is digits small =
    omega (
      arith,
      row_room (object_row object),
      tag_room object.facts.tag is digits,
      string_room object.key,
      moment_room object.facts.moment,
      number_room object.facts.size small,
    )

-- a common prefix's
pub prefix_row_room : (prefix : List ℕ) → room_of (row_tokens (prefix_row prefix)) ≤ 6 * length prefix + 17
unfolding escape_byte
prefix_row_room prefix = omega (arith, row_room (prefix_row prefix), string_room prefix)

-- a page
pub page_room : (prefixes : List (List ℕ)) (contents : List ListedObject) (fields : Fields)
    → room_of (branches_tokens (page_tree prefixes contents fields))
    ≡ room_of (branches_tokens ((codes "CommonPrefixes", rows (map prefix_row prefixes)) ∷ []))
    + (room_of (branches_tokens ((codes "Contents", rows (map object_row contents)) ∷ [])) + room_of (branches_tokens (leaves fields)))
page_room prefixes contents fields =
    let first : Tree = (codes "CommonPrefixes", rows (map prefix_row prefixes)) ∷ [] in
    let second : Tree = (codes "Contents", rows (map object_row contents)) ∷ [] in
    branches_room first (second ++ leaves fields)
    ∙ ap (λ n. room_of (branches_tokens first) + n) (branches_room second (leaves fields))

-- ---- rows of the list of buckets

pub bucket_row_room : (bucket : ListedBucket) → room_of (row_tokens (bucket_row bucket)) ≤ 6 * length bucket.name + 178
unfolding escape_byte
bucket_row_room bucket = omega (arith, row_room (bucket_row bucket), string_room bucket.name, moment_room bucket.made)

-- ---- rows of lists of versions

version_room : (key : List ℕ) (id : VersionId) (latest : Bool) (made : ℕ) (facts : Facts)
    → length facts.tag ≤ 38 → list_all is_tag_character facts.tag ≡ true → facts.size < 2 ^ 64
    → room_of (row_tokens (version_fields (record { key = key; id = id; is_latest = latest; moment = made; facts = Some facts }))) ≤ 6 * length key + 417
unfolding escape_byte
version_room key id latest made facts is digits small =
    omega (
      arith,
      row_room (version_fields (record { key = key; id = id; is_latest = latest; moment = made; facts = Some facts })),
      tag_room facts.tag is digits,
      string_room key,
      moment_room made,
      number_room facts.size small,
      string_room (version_id_text id),
      id_length id,
      truth_room latest,
    )

marker_room : (key : List ℕ) (id : VersionId) (latest : Bool) (made : ℕ)
    → room_of (row_tokens (version_fields (record { key = key; id = id; is_latest = latest; moment = made; facts = None }))) ≤ 6 * length key + 417
unfolding escape_byte
marker_room key id latest made =
    omega (
      arith,
      row_room (version_fields (record { key = key; id = id; is_latest = latest; moment = made; facts = None })),
      string_room key,
      moment_room made,
      string_room (version_id_text id),
      id_length id,
      truth_room latest,
    )

-- a version's row
abbrev IsWithin : VersionRow → Option Facts → Type 0
IsWithin row facts =
    room_of (row_tokens (version_fields (record { key = row.key; id = row.id; is_latest = row.is_latest; moment = row.moment; facts = facts }))) ≤ 6 * length row.key + 417

pub version_row_room : (row : VersionRow) (facts : Facts) → row.facts ≡ Some facts
    → length facts.tag ≤ 38 → list_all is_tag_character facts.tag ≡ true → facts.size < 2 ^ 64
    → room_of (row_tokens (version_fields row)) ≤ 6 * length row.key + 417
version_row_room row facts some is digits small =
    subst (IsWithin row) (sym some) (version_room row.key row.id row.is_latest row.moment facts is digits small)

-- a delete marker's
pub marker_row_room : (row : VersionRow) → row.facts ≡ None → room_of (row_tokens (version_fields row)) ≤ 6 * length row.key + 417
marker_row_room row none = subst (IsWithin row) (sym none) (marker_room row.key row.id row.is_latest row.moment)

-- ---- rows of lists of uploads

pub upload_row_room : (row : UploadRow) → room_of (row_tokens (upload_fields row)) ≤ 6 * length row.key + 291
unfolding escape_byte
upload_row_room row =
    omega (
      arith,
      row_room (upload_fields row),
      string_room row.key,
      moment_room row.moment,
      string_room (upload_id_text row.id),
      upload_id_length row.id,
    )

-- ---- rows of lists of parts

pub part_row_room : (row : PartRow) → length row.tag ≤ 38 → list_all is_tag_character row.tag ≡ true → row.size < 2 ^ 64 → row.number < 2 ^ 64
    → room_of (row_tokens (part_fields row)) ≤ 284
unfolding escape_byte
part_row_room row is digits small few =
    omega (
      arith,
      row_room (part_fields row),
      tag_room row.tag is digits,
      moment_room row.moment,
      number_room row.number few,
      number_room row.size small,
    )

-- ---- rows with fields beside them

pub rows_between_room : (before : Fields) (name : List ℕ) (list : List Fields) (behind : Fields)
    → room_of (branches_tokens (rows_between before name list behind))
    ≡ room_of (branches_tokens (leaves before)) + (room_of (branches_tokens ((name, rows list) ∷ [])) + room_of (branches_tokens (leaves behind)))
rows_between_room before name list behind =
    let here : Tree = (name, rows list) ∷ [] in
    branches_room (leaves before) (here ++ leaves behind) ∙ ap (λ n. room_of (branches_tokens (leaves before)) + n) (branches_room here (leaves behind))
