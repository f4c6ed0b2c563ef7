-- Behind which key or common prefix the next page of a list goes on (Amazon S3 API Reference, the member `NextKeyMarker` of
-- ListObjectVersions and ListMultipartUploads).
use Rattle.std.specs.Prelude.{Option, option_map}
use Rattle.std.specs.Option.{option_or}
use Rattle.s3_listings.specs.Rolled.{RowsTold, next_prefix, next_row}
use Rattle.s3_documents.specs.Tree.{Value, encodable}

abbrev pub next_key : {A : Type 0} → (A → Value) → RowsTold A → Option Value
next_key key page = option_or (option_map encodable (next_prefix page)) (option_map key (next_row page))
