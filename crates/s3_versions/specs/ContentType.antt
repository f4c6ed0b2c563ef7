-- Media types of objects (Amazon S3 API Reference, PutObject, Content-Type).
use Rattle.std.specs.Prelude.{ℕ, nat_lt, List, length, Result, Ok}
use Rattle.s3_terms.specs.Fault.{refuse, ◌>>◌}
use Rattle.s3_terms.specs.declared.code.Code.{Code}
use Rattle.s3_terms.specs.declared.code.Code.TheVariants.{InvalidArgument}

-- the longest media type, in bytes
abbrev pub type_limit : ℕ
type_limit = 255

-- the media type that bytes are, if they are not too many
unfoldable pub content_type : List ℕ → Result (List ℕ) Code
content_type bytes = do
  refuse (nat_lt type_limit (length bytes)) InvalidArgument
  Ok bytes
