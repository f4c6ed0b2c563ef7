-- Which headers the signature has to cover (AWS Signature Version 4, "Create a canonical request").
use Rattle.std.specs.Prelude.{ℕ, Bool, not, ◌&&◌, ◌||◌, nat_eq, List, map, codes}
use Rattle.std.specs.List.{list_any, list_all, starts_with}
use Rattle.std.specs.Str.{bytes_eq, str_to_ascii_lowercase}
use Rattle.s3_http_heads.specs.Head.{HeadParts}
use Rattle.s3_canonical.specs.Request.{signed_names}

-- a header that has to be covered where it was sent
abbrev pub is_amz_name : List ℕ → Bool
is_amz_name name = starts_with nat_eq name (codes "x-amz-")

-- the name of a header line in lower case
abbrev pub lower_name : List ℕ × List ℕ → List ℕ
lower_name header = str_to_ascii_lowercase header.0

-- the names of the header lines in lower case
abbrev pub sent_names : HeadParts → List (List ℕ)
sent_names head = map lower_name head.headers

-- the name stands among the signed ones
abbrev pub stands_in : List ℕ → List ℕ → Bool
stands_in signed name = list_any (bytes_eq name) (signed_names signed)

-- it does, or it need not
abbrev pub covers : List ℕ → List ℕ → Bool
covers signed name = not (is_amz_name name) || stands_in signed name

-- each of Amazon's headers that was sent is covered
abbrev pub covers_amz : HeadParts → List ℕ → Bool
covers_amz head signed = list_all (covers signed) (sent_names head)

-- `host` is covered, and each of Amazon's headers that was sent
abbrev pub covers_enough : HeadParts → List ℕ → Bool
covers_enough head signed = stands_in signed (codes "host") && covers_amz head signed
