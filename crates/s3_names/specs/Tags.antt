-- Entity tags (Amazon S3 API Reference, "Common response headers", ETag).
use Rattle.std.specs.Prelude.{ℕ, Bool, ◌||◌, ◌==◌, List, ◌∷◌, ◌++◌, Option, Some, None}
use Rattle.std.specs.Fmt.{decimal}
use Rattle.hex.specs.Hex.{encode_lower}
use Rattle.s3_text.specs.Characters.{hyphen, is_lower_hex}

-- the tag of an object that was joined of parts: a digest, a hyphen and how many parts there were
unfoldable pub joined_text : List ℕ → ℕ → List ℕ
joined_text md5 parts = encode_lower md5 ++ hyphen ∷ decimal parts

-- a tag: the digest alone, of an object that was put whole, or with the count of parts
abbrev pub tag_text : List ℕ → Option ℕ → List ℕ
tag_text md5 None = encode_lower md5
tag_text md5 (Some parts) = joined_text md5 parts

-- a character of a tag: a lower-case hexadecimal digit or a hyphen
abbrev pub is_tag_character : ℕ → Bool
is_tag_character b = is_lower_hex b || b == hyphen
