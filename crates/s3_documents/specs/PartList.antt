-- The list of an upload's parts (Amazon S3 API Reference, ListParts).
use Rattle.std.specs.Prelude.{ℕ, List, [], ◌∷◌, ◌++◌, map, codes, option_map}
use Rattle.s3_names.specs.Ids.{upload_id_text}
use Rattle.s3_uploads.specs.declared.part.PartRow.{PartRow}
use Rattle.s3_listings.specs.declared.asked.PartsAsked.{PartsAsked}
use Rattle.s3_listings.specs.Pages.{Page, next_of}
use Rattle.s3_documents.specs.Copied.{tag_told}
use Rattle.s3_documents.specs.Printed.{told}
use Rattle.s3_documents.specs.Tree.{Value, text, number, truth, moment, Fields, Tree, rows_between}

-- a part's row
abbrev pub part_fields : PartRow → Fields
part_fields row =
    (codes "ETag", text (tag_told row.tag))
    ∷ (codes "LastModified", moment row.moment)
    ∷ (codes "PartNumber", number row.number)
    ∷ (codes "Size", number row.size)
    ∷ []

-- the number of a row
abbrev pub number_of_part : PartRow → Value
number_of_part row = number row.number

-- what stands in front of the rows: which upload's key it is, what was asked, and behind which part the next page goes on
abbrev pub parts_fields : (name key : List ℕ) → PartsAsked → Page PartRow → Fields
parts_fields name key asked page =
    (codes "Bucket", text name)
    ∷ (codes "IsTruncated", truth page.is_truncated)
    ∷ (codes "Key", text key)
    ∷ (codes "MaxParts", number asked.max_parts)
    ∷ told (codes "NextPartNumberMarker") (option_map number_of_part (next_of page))
    ++ (codes "PartNumberMarker", number asked.marker)
    ∷ []

-- and behind them: the upload's id
abbrev pub upload_named : ℕ → Fields
upload_named id = (codes "UploadId", text (upload_id_text id)) ∷ []

-- the document of a page of the parts of the upload of this id
abbrev pub parts_tree : (name key : List ℕ) → ℕ → PartsAsked → Page PartRow → Tree
parts_tree name key id asked page = rows_between (parts_fields name key asked page) (codes "Parts") (map part_fields page.given) (upload_named id)
