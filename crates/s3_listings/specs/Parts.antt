-- The list of an upload's parts (Amazon S3 API Reference, ListParts).
use Rattle.std.specs.Prelude.{List}
use Rattle.s3_uploads.specs.Parts.{PartList, rows_behind}
use Rattle.s3_uploads.specs.declared.part.PartRow.{PartRow}
use Rattle.s3_listings.specs.declared.asked.PartsAsked.{PartsAsked}
use Rattle.s3_listings.specs.Pages.{Page, page_of}

-- all parts that are asked for: those behind the marker, by their numbers
abbrev pub parts_asked : {B : Type 0} → PartsAsked → PartList B → List PartRow
parts_asked asked parts = rows_behind asked.marker parts

-- the page of them
unfoldable pub parts_page : {B : Type 0} → PartsAsked → PartList B → Page PartRow
parts_page asked parts = page_of asked.max_parts (parts_asked asked parts)
