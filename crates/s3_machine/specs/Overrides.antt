-- What a read asks its reply to say of an object, in the place of what is kept with it (Amazon S3 API Reference, GetObject,
-- `response-content-type` and its like): header lines, by their names in lower case.
use Rattle.std.specs.Prelude.{ℕ, Bool, not, nat_lt, List, Result, Ok}
use Rattle.std.specs.List.{list_all}
use Rattle.s3_terms.specs.Fault.{refuse, ◌>>◌}
use Rattle.s3_terms.specs.declared.code.Code.{Code}
use Rattle.s3_terms.specs.declared.code.Code.TheVariants.{InvalidArgument}
use Rattle.s3_versions.specs.Metadata.{Entry, is_printed, metadata_size}

-- no control byte is in the value, so that it doesn't end its line
abbrev pub has_printed_value : Entry → Bool
has_printed_value entry = list_all is_printed entry.value

-- the most bytes of all names and values, so that a reply has room for them
abbrev pub overrides_limit : ℕ
overrides_limit = 2_048

-- the lines, where a reply may have them
unfoldable pub overrides : List Entry → Result (List Entry) Code
overrides entries = do
  refuse (not (list_all has_printed_value entries)) InvalidArgument
  refuse (nat_lt overrides_limit (metadata_size entries)) InvalidArgument
  Ok entries
