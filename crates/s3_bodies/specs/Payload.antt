-- The entity tag of bytes (Amazon S3 API Reference, "Common response headers", ETag).
use Rattle.std.specs.Prelude.{ℕ, List}
use Rattle.md5.specs.Md5.{md5}
use Rattle.hex.specs.Hex.{encode_lower}

-- the entity tag of bytes that were put whole: their MD5 in lower-case hexadecimal digits
abbrev pub tag_of : List ℕ → List ℕ
tag_of bytes = encode_lower (md5 bytes)
