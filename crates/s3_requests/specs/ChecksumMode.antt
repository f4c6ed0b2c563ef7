-- Whether a reader wants to be told checksums (Amazon S3 API Reference, GetObject and HeadObject, `x-amz-checksum-mode`).
use Rattle.std.specs.Prelude.{ℕ, Bool, false, List, codes, Option, Some, None}
use Rattle.std.specs.Str.{bytes_eq}
use Rattle.s3_terms.specs.declared.dialect.Dialect.{Dialect}
use Rattle.s3_terms.specs.declared.dialect.Dialect.TheVariants.{Json, S3}
use Rattle.s3_http_heads.specs.Head.{HeadParts, first_value}

-- the one value that asks for them
abbrev pub enables_checksums : Option (List ℕ) → Bool
enables_checksums None = false
enables_checksums (Some value) = bytes_eq value (codes "ENABLED")

-- in the dialect of S3 the head asks for them
abbrev pub asks_for_checksums : Dialect → HeadParts → Bool
asks_for_checksums Json head = false
asks_for_checksums S3 head = enables_checksums (first_value (codes "x-amz-checksum-mode") head)
