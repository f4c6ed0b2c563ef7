-- The names of buckets and the keys of objects (Amazon S3 User Guide, "Bucket naming rules" and "Naming
-- objects"). The prefixes and suffixes that S3 reserves for itself, as `xn--` and `-s3alias`, are names
-- like others here.
use Rattle.std.specs.Prelude.{ℕ, ◌-◌, Bool, not, ◌&&◌, ◌||◌, ◌==◌, nat_lt, nat_le, List, length, slice_index, Result, Ok, is_ok}
use Rattle.std.specs.List.{list_all, list_any, slice_split}
use Rattle.std.specs.Char.{is_ascii_digit}
use Rattle.std.specs.Str.{is_utf8}
use Rattle.s3_text.specs.Characters.{dot, hyphen, is_letter_or_digit}
use Rattle.s3_terms.specs.Fault.{refuse, ◌>>◌}
use Rattle.s3_terms.specs.declared.code.Code.{Code}
use Rattle.s3_terms.specs.declared.code.Code.TheVariants.{InvalidBucketName, InvalidURI, KeyTooLongError}

-- a byte of a bucket's name: a lower-case letter, a digit, a dot or a hyphen
abbrev pub is_name_byte : ℕ → Bool
is_name_byte b = is_letter_or_digit b || b == dot || b == hyphen

-- the parts between the dots
abbrev pub dotted : List ℕ → List (List ℕ)
dotted name = slice_split (λ b. b == dot) name

-- a decimal number of any size
abbrev pub is_number : List ℕ → Bool
is_number part = not (length part == 0) && list_all is_ascii_digit part

-- two dots in a row, or a dot at an end, leave an empty part
abbrev pub has_empty_part : List ℕ → Bool
has_empty_part name = list_any (λ part. length part == 0) (dotted name)

-- the form of an IP address: four decimal numbers joined by dots
abbrev pub is_address_form : List ℕ → Bool
is_address_form name = length (dotted name) == 4 && list_all is_number (dotted name)

-- 3 to 63 bytes
unfoldable pub has_name_length : List ℕ → Bool
has_name_length name = nat_le 3 (length name) && nat_le (length name) 63

-- bytes of names alone
unfoldable pub has_name_bytes : List ℕ → Bool
has_name_bytes name = list_all is_name_byte name

-- a letter or digit at both ends
unfoldable pub has_name_ends : List ℕ → Bool
has_name_ends name =
    is_letter_or_digit (slice_index name 0) && is_letter_or_digit (slice_index name (length name - 1))

-- no empty part, and not the form of an IP address
unfoldable pub has_name_parts : List ℕ → Bool
has_name_parts name = not (has_empty_part name) && not (is_address_form name)

-- the name of a bucket
unfoldable pub is_bucket_name : List ℕ → Bool
is_bucket_name name = has_name_length name && has_name_bytes name && has_name_ends name && has_name_parts name

-- the bucket's name that bytes are, if they are one
abbrev pub bucket_name : List ℕ → Result (List ℕ) Code
bucket_name bytes = do
  refuse (not (is_bucket_name bytes)) InvalidBucketName
  Ok bytes

-- the longest key, in bytes
abbrev pub key_limit : ℕ
key_limit = 1024

-- the key that bytes are, if they are one: 1 to 1,024 bytes of UTF-8
unfoldable pub object_key : List ℕ → Result (List ℕ) Code
object_key bytes = do
  refuse (not (is_utf8 bytes)) InvalidURI
  refuse (nat_lt key_limit (length bytes)) KeyTooLongError
  refuse (length bytes == 0) InvalidURI
  Ok bytes

-- whether they are one
unfoldable pub is_key : List ℕ → Bool
is_key bytes = is_ok (object_key bytes)
