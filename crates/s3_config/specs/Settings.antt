-- What a server is started with, and the limits that it keeps.
use Rattle.std.specs.Prelude.{ℕ, Bool, true, not, ◌&&◌, ◌||◌, ◌==◌, nat_le, if◌then◌else◌, List, [], ◌∷◌, map, length, Option, Some, None}
use Rattle.std.specs.List.{list_all, list_any}
use Rattle.s3_names.specs.Names.{is_bucket_name}
use Rattle.s3_terms.specs.declared.dialect.Dialect.{Dialect}
use Rattle.s3_terms.specs.declared.dialect.Dialect.TheVariants.{Json, S3}
use Rattle.s3_text.specs.Characters.{space, comma, slash, hyphen, is_letter_or_digit}
use Rattle.std.specs.Str.{bytes_eq}

-- an access key: its id and the secret that belongs to it
pub record Credentials : Type 0 where
  pub id : List ℕ
  pub secret : List ℕ

-- what a server is started with; the buckets are there, empty and unversioned, from moment 0 on
pub record Settings : Type 0 where
  pub region : List ℕ
  pub keys : List Credentials
  pub min_part : ℕ
  pub body_limit : ℕ
  pub buckets : List (List ℕ)
  pub dialect : Dialect

-- the greatest body that a server may take, in bytes: 64 MiB, or, in the dialect of S3, the 5 GiB that one put has at most (the S3
-- User Guide, "Uploading objects")
abbrev pub greatest_body : Dialect → ℕ
greatest_body Json = 67_108_864
greatest_body S3 = 5_368_709_120

-- a byte of an access key's id: no space, slash or comma
abbrev pub is_id_byte : ℕ → Bool
is_id_byte b = not (b == space || b == slash || b == comma)

-- 1 to 128 such bytes
unfoldable pub is_access_key_id : List ℕ → Bool
is_access_key_id id = nat_le 1 (length id) && nat_le (length id) 128 && list_all is_id_byte id

-- 1 to 128 bytes
unfoldable pub is_secret : List ℕ → Bool
is_secret secret = nat_le 1 (length secret) && nat_le (length secret) 128

-- an id and its secret
unfoldable pub are_credentials : Credentials → Bool
are_credentials c = is_access_key_id c.id && is_secret c.secret

-- a byte of a region's name: a lower-case letter, a digit or a hyphen
abbrev pub is_region_byte : ℕ → Bool
is_region_byte b = is_letter_or_digit b || b == hyphen

-- 1 to 64 such bytes
unfoldable pub is_region : List ℕ → Bool
is_region region = nat_le 1 (length region) && nat_le (length region) 64 && list_all is_region_byte region

-- no text stands twice in the list
abbrev pub all_different : List (List ℕ) → Bool
all_different [] = true
all_different (x ∷ xs) = not (list_any (bytes_eq x) xs) && all_different xs

-- 1 to 64 access keys, whose ids are distinct
unfoldable pub are_access_keys : List Credentials → Bool
are_access_keys keys =
    nat_le 1 (length keys) && nat_le (length keys) 64 && list_all are_credentials keys
    && all_different (map (λ (c : Credentials). c.id) keys)

-- the names of buckets, all distinct
unfoldable pub are_opening_buckets : List (List ℕ) → Bool
are_opening_buckets buckets = list_all is_bucket_name buckets && all_different buckets

-- the settings that a server accepts
unfoldable pub are_settings : Settings → Bool
are_settings s =
    is_region s.region && are_access_keys s.keys && nat_le s.body_limit (greatest_body s.dialect) && are_opening_buckets s.buckets

-- the secret of an id, if it is configured
abbrev pub secret_of : List Credentials → List ℕ → Option (List ℕ)
secret_of [] id = None
secret_of (c ∷ cs) id = if bytes_eq c.id id then Some c.secret else secret_of cs id
