-- The query of a request as its line tells it: as it was sent, but for the values of the parameters that let whoever reads
-- them send the request again, or others (Amazon S3 API Reference, "Authenticating requests: using query parameters").
use Rattle.std.specs.Prelude.{ℕ, Bool, if◌then◌else◌, List, [], ◌∷◌, ◌++◌, drop, codes}
use Rattle.std.specs.List.{flat_map, list_any}
use Rattle.std.specs.Str.{bytes_eq, str_to_ascii_lowercase}
use Rattle.percent_encoding.specs.Percent.{percent_decode}
use Rattle.s3_text.specs.Characters.{ampersand, equals_sign}
use Rattle.s3_text.specs.Cut.{parts_at}
use Rattle.s3_log.specs.Request.{before}

-- the names of those parameters, in lower case: a signature, a session's token, and a signature of the older version 2
abbrev pub hidden_names : List (List ℕ)
hidden_names = codes "x-amz-signature" ∷ codes "x-amz-security-token" ∷ codes "signature" ∷ []

-- a name, in whatever case, is one of these
abbrev pub is_hidden_name : List ℕ → Bool
is_hidden_name name = list_any (λ hidden. bytes_eq (str_to_ascii_lowercase name) hidden) hidden_names

-- the name of a parameter, with its escapes read, is one of these
abbrev pub is_hidden : List ℕ → Bool
is_hidden part = is_hidden_name (percent_decode (before equals_sign part))

-- what a line tells of a parameter: of a hidden one the name, and an empty value
abbrev pub shown_part : List ℕ → List ℕ
shown_part part = if is_hidden part then before equals_sign part ++ equals_sign ∷ [] else part

-- this behind an ampersand
abbrev pub shown_behind : List ℕ → List ℕ
shown_behind part = ampersand ∷ shown_part part

-- what a line tells of a query: that of its parameters, with an ampersand between each two
abbrev pub shown_query : List ℕ → List ℕ
shown_query query = drop 1 (flat_map shown_behind (parts_at ampersand query))
