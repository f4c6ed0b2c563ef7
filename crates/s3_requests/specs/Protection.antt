-- That the body of a DeleteObjects is protected against a change on its way (Amazon S3 API Reference, DeleteObjects,
-- `Content-MD5`): a line says what the body has to be. Whether the body is that is judged where it is read.
use Rattle.std.specs.Prelude.{ℕ, Bool, false, not, ◌||◌, List, codes, Option}
use Rattle.std.specs.Option.{option_map_or}
use Rattle.std.specs.Str.{bytes_eq}
use Rattle.s3_http_heads.specs.Head.{HeadParts, first_value, is_sent}

-- the word for the body is sent and protects it: it is the hash of the body, or says that its chunks are signed
abbrev pub word_protects : Option (List ℕ) → Bool
word_protects word = option_map_or (λ said. not (bytes_eq said (codes "UNSIGNED-PAYLOAD"))) word false

-- the MD5 of the body is sent, or such a word
abbrev pub is_protected : HeadParts → Bool
is_protected head = is_sent (codes "content-md5") head || word_protects (first_value (codes "x-amz-content-sha256") head)
