-- The list of the uploads in a bucket (Amazon S3 API Reference, ListMultipartUploads).
use Rattle.std.specs.Prelude.{ℕ, List, [], ◌∷◌, ◌++◌, map, codes, Option, option_map, is_some}
use Rattle.std.specs.Option.{option_map_or}
use Rattle.s3_names.specs.Ids.{upload_id_text}
use Rattle.s3_records.specs.declared.rows.UploadRow.{UploadRow}
use Rattle.s3_listings.specs.declared.asked.UploadsAsked.{UploadsAsked}
use Rattle.s3_listings.specs.Rolled.{RowsTold, next_row}
use Rattle.s3_documents.specs.NextPage.{next_key}
use Rattle.s3_documents.specs.Printed.{told}
use Rattle.s3_documents.specs.Tree.{Value, text, encodable, number, truth, moment, Fields, Tree, rows_between}

-- an upload's row
abbrev pub upload_fields : UploadRow → Fields
upload_fields row =
    (codes "Initiated", moment row.moment)
    ∷ (codes "Key", encodable row.key)
    ∷ (codes "UploadId", text (upload_id_text row.id))
    ∷ []

-- the text of an id that was named; empty where none was
abbrev pub upload_marker_told : Option ℕ → List ℕ
upload_marker_told id = option_map_or upload_id_text id []

-- the key and the id of a row
abbrev pub key_of_upload : UploadRow → Value
key_of_upload row = encodable row.key

abbrev pub id_of_upload : UploadRow → Value
id_of_upload row = text (upload_id_text row.id)

-- what stands in front of the rows: what was asked, and behind which upload the next page goes on. The tree is told as JSON alone,
-- where no delimiter is asked for
abbrev pub uploads_fields : List ℕ → UploadsAsked → RowsTold UploadRow → Fields
uploads_fields name asked page =
    (codes "Bucket", text name)
    ∷ (codes "IsTruncated", truth (is_some page.next))
    ∷ (codes "KeyMarker", encodable asked.key_marker)
    ∷ (codes "MaxUploads", number asked.max_uploads)
    ∷ told (codes "NextKeyMarker") (next_key key_of_upload page)
    ++ told (codes "NextUploadIdMarker") (option_map id_of_upload (next_row page))
    ++ (codes "Prefix", encodable asked.prefix)
    ∷ (codes "UploadIdMarker", text (upload_marker_told asked.id_marker))
    ∷ []

-- the document of a page of the uploads in the bucket of this name
abbrev pub uploads_tree : List ℕ → UploadsAsked → RowsTold UploadRow → Tree
uploads_tree name asked page = rows_between (uploads_fields name asked page) (codes "Uploads") (map upload_fields page.rows) []
