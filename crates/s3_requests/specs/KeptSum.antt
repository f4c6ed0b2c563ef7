-- The checksum of an object's bytes among its metadata: it is kept as the header line that tells it (Amazon S3 User Guide,
-- "Checking object integrity").
use Rattle.std.specs.Prelude.{ℕ, Bool, true, false, nat_lt, if◌then◌else◌, List, ◌∷◌, ◌++◌, filter, length, Option, Some, None, Result, Ok}
use Rattle.std.specs.Ordering.{is_lt}
use Rattle.base64.specs.Engines.{standard}
use Rattle.base64.specs.GeneralPurpose.{encode_of}
use Rattle.s3_text.specs.Order.{byte_order}
use Rattle.s3_terms.specs.Fault.{refuse, ◌>>◌}
use Rattle.s3_terms.specs.declared.code.Code.{Code}
use Rattle.s3_terms.specs.declared.code.Code.TheVariants.{MetadataTooLarge}
use Rattle.s3_integrity.specs.Algorithm.{header_of}
use Rattle.s3_integrity.specs.Sum.{algorithm_of, bytes_of}
use Rattle.s3_integrity.specs.declared.checksum.Checksum.{Checksum}
use Rattle.s3_versions.specs.Metadata.{Entry, metadata}

-- the line that tells a checksum: its base64 under the name of its kind's header
abbrev pub sum_entry : Checksum → Entry
sum_entry sum = record { name = header_of (algorithm_of sum); value = encode_of standard (bytes_of sum) }

-- one name stands before another in the order of bytes, or behind it
abbrev pub stands_on_side : Bool → List ℕ → List ℕ → Bool
stands_on_side behind name other = if behind then is_lt (byte_order name other) else is_lt (byte_order other name)

-- the name of an entry does
abbrev pub is_on_side : Bool → List ℕ → Entry → Bool
is_on_side behind name entry = stands_on_side behind name entry.name

-- entries with one more, in the order of their names; none of its name stands beside it
abbrev pub with_entry : Entry → List Entry → List Entry
with_entry new entries = filter (is_on_side false new.name) entries ++ new ∷ filter (is_on_side true new.name) entries

-- the most entries of metadata
abbrev pub entries_limit : ℕ
entries_limit = 64

-- metadata with one entry more, if it is not too large
unfoldable pub metadata_with : Entry → List Entry → Result (List Entry) Code
metadata_with new entries = do
  refuse (nat_lt entries_limit (length (with_entry new entries))) MetadataTooLarge
  metadata (with_entry new entries)

-- metadata with the checksum, where one is known
abbrev pub with_sum : Option Checksum → List Entry → Result (List Entry) Code
with_sum None entries = Ok entries
with_sum (Some sum) entries = metadata_with (sum_entry sum) entries
