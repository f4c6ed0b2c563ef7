-- The id of the access key that signed a head which was verified (Amazon S3 API Reference, "Authenticating requests").
use Rattle.std.specs.Prelude.{ℕ, Bool, true, ◌==◌, nat_eq, find, List, [], ◌∷◌, codes, Option, Some, None, option_map}
use Rattle.std.specs.List.{starts_with}
use Rattle.std.specs.Str.{bytes_eq, str_to_ascii_lowercase}
use Rattle.percent_encoding.specs.Percent.{percent_decode}
use Rattle.s3_text.specs.Characters.{ampersand, colon, equals_sign, line_feed, slash}
use Rattle.s3_text.specs.Cut.{parts_at}
use Rattle.s3_log.specs.Request.{before, behind}

-- a line is an Authorization line: the case of a name doesn't count
abbrev pub is_authorization : List ℕ → Bool
is_authorization line = bytes_eq (str_to_ascii_lowercase (before colon line)) (codes "authorization")

-- the id that it tells, which begins its credential: `AWS4-HMAC-SHA256 Credential=id/..`
abbrev pub id_in_line : List ℕ → List ℕ
id_in_line line = before slash (behind equals_sign line)

-- a parameter tells the credential
abbrev pub is_credential : List ℕ → Bool
is_credential part = starts_with nat_eq part (codes "X-Amz-Credential=")

-- the id that a credential begins with, which is percent-encoded
abbrev pub id_in_credential : List ℕ → List ℕ
id_in_credential credential = before slash (percent_decode credential)

-- that of a parameter, if there is one
abbrev pub id_in_part : Option (List ℕ) → List ℕ
id_in_part None = []
id_in_part (Some part) = id_in_credential (behind equals_sign part)

abbrev pub id_in_query : List ℕ → List ℕ
id_in_query query = id_in_part (find is_credential (parts_at ampersand query))

-- that of the first Authorization line of a head, if there is one
abbrev pub id_in_head : List ℕ → Option (List ℕ)
id_in_head head = option_map id_in_line (find is_authorization (parts_at line_feed head))

-- that, or else the one of the query
abbrev pub id_by : Option (List ℕ) → List ℕ → List ℕ
id_by (Some id) query = id
id_by None query = id_in_query query

abbrev pub key_id : List ℕ → List ℕ → List ℕ
key_id head query = id_by (id_in_head head) query

-- This serves the clauses of private functions alone: a line's name ends in front of this rest of it.
abbrev pub ends_name : List ℕ → Bool
ends_name [] = true
ends_name (byte ∷ rest) = byte == colon
