-- Texts that a request is asked by: UTF-8 (Amazon S3 API Reference, ListObjectsV2, "URI Request Parameters").
use Rattle.std.specs.Prelude.{ℕ, not, List, Result, Ok}
use Rattle.std.specs.Str.{is_utf8}
use Rattle.s3_terms.specs.Fault.{refuse, ◌>>◌}
use Rattle.s3_terms.specs.declared.code.Code.{Code}
use Rattle.s3_terms.specs.declared.code.Code.TheVariants.{InvalidArgument}

-- bytes as a text, where they are one
unfoldable pub text_read : List ℕ → Result (List ℕ) Code
text_read bytes = do
  refuse (not (is_utf8 bytes)) InvalidArgument
  Ok bytes
