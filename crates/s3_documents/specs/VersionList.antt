-- The list of a bucket's versions (Amazon S3 API Reference, ListObjectVersions).
use Rattle.std.specs.Prelude.{ℕ, List, [], ◌∷◌, ◌++◌, map, codes, Option, option_map, is_none, is_some}
use Rattle.std.specs.Option.{option_map_or}
use Rattle.s3_names.specs.Ids.{version_id_text}
use Rattle.s3_names.specs.declared.ids.VersionId.{VersionId}
use Rattle.s3_versions.specs.declared.picking.Facts.{Facts}
use Rattle.s3_records.specs.declared.rows.VersionRow.{VersionRow}
use Rattle.s3_listings.specs.declared.asked.VersionsAsked.{VersionsAsked}
use Rattle.s3_listings.specs.Rolled.{RowsTold, next_row}
use Rattle.s3_documents.specs.Copied.{tag_told}
use Rattle.s3_documents.specs.NextPage.{next_key}
use Rattle.s3_documents.specs.Printed.{told}
use Rattle.s3_documents.specs.Tree.{Value, text, encodable, number, truth, moment, Fields, Tree, rows_between}

-- a version's row; a delete marker has neither a tag nor a size
abbrev pub tag_of_facts : Facts → Value
tag_of_facts facts = text (tag_told facts.tag)

abbrev pub size_of_facts : Facts → Value
size_of_facts facts = number facts.size

abbrev pub version_fields : VersionRow → Fields
version_fields row =
    (codes "DeleteMarker", truth (is_none row.facts))
    ∷ told (codes "ETag") (option_map tag_of_facts row.facts)
    ++ (codes "IsLatest", truth row.is_latest)
    ∷ (codes "Key", encodable row.key)
    ∷ (codes "LastModified", moment row.moment)
    ∷ told (codes "Size") (option_map size_of_facts row.facts)
    ++ (codes "VersionId", text (version_id_text row.id))
    ∷ []

-- the text of an id that was named; empty where none was
abbrev pub marker_told : Option VersionId → List ℕ
marker_told id = option_map_or version_id_text id []

-- the key and the id of a row
abbrev pub key_of_row : VersionRow → Value
key_of_row row = encodable row.key

abbrev pub id_of_row : VersionRow → Value
id_of_row row = text (version_id_text row.id)

-- what stands in front of the rows: what was asked, and behind which version the next page goes on. The tree is told as JSON alone,
-- where no delimiter is asked for
abbrev pub versions_fields : List ℕ → VersionsAsked → RowsTold VersionRow → Fields
versions_fields name asked page =
    (codes "IsTruncated", truth (is_some page.next))
    ∷ (codes "KeyMarker", encodable asked.key_marker)
    ∷ (codes "MaxKeys", number asked.max_keys)
    ∷ (codes "Name", text name)
    ∷ told (codes "NextKeyMarker") (next_key key_of_row page)
    ++ told (codes "NextVersionIdMarker") (option_map id_of_row (next_row page))
    ++ (codes "Prefix", encodable asked.prefix)
    ∷ (codes "VersionIdMarker", text (marker_told asked.id_marker))
    ∷ []

-- the document of a page of the versions of the bucket of this name
abbrev pub versions_tree : List ℕ → VersionsAsked → RowsTold VersionRow → Tree
versions_tree name asked page = rows_between (versions_fields name asked page) (codes "Versions") (map version_fields page.rows) []
