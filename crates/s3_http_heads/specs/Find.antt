-- Where a head begins and ends in the bytes of a connection (RFC 9112, sections 2.1 and 2.2).
use Rattle.std.specs.Prelude.{◌≡◌, ◌≤◌, ◌<◌, ◌++◌, ℕ, suc, ◌==◌, ◌&&◌, nat_eq, nat_le, if◌then◌else◌, List, [], ◌∷◌, take, length, Option, Some, None, option_map}
use Rattle.std.specs.List.{starts_with}
use Rattle.s3_text.specs.Characters.{carriage_return, line_feed, crlf}
use Rattle.s3_http_heads.specs.declared.find.Found.{Found}
use Rattle.s3_http_heads.specs.declared.find.Found.TheVariants.{NeedMore, Head, TooLarge}

-- the greatest size of a head text, in bytes
abbrev pub head_limit : ℕ
head_limit = 16_384

-- the bytes without their leading pairs of CR and LF
unfoldable pub skip_pairs : List ℕ → List ℕ
skip_pairs [] = []
skip_pairs (b ∷ []) = b ∷ []
skip_pairs (b ∷ c ∷ rest) = if b == carriage_return && c == line_feed then skip_pairs rest else b ∷ c ∷ rest

-- how every head ends: the end of its last line, and an empty line
abbrev pub head_end : List ℕ
head_end = crlf ++ crlf

-- the length of the shortest beginning that ends with an empty line
unfoldable pub text_length : List ℕ → Option ℕ
text_length [] = None
text_length (b ∷ rest) =
    if starts_with nat_eq (b ∷ rest) head_end then Some 4 else option_map suc (text_length rest)

-- what `held` bytes after the skipped pairs begin with: a head text of the length that was found, too
-- many bytes without one, or neither yet
abbrev pub found_by : Option ℕ → ℕ → Found
found_by (Some len) held = Head len
found_by None held = if nat_le head_limit held then TooLarge else NeedMore

-- the same of all bytes that came
unfoldable pub found_in : List ℕ → Found
found_in bytes = found_by (text_length (take head_limit (skip_pairs bytes))) (length (skip_pairs bytes))

-- the text ends with an empty line
abbrev pub EndsHead : List ℕ → Type 0
EndsHead text = (front : List ℕ) × (text ≡ front ++ head_end)

-- the head text at the front of the bytes: so many of those after the skipped pairs end with an empty
-- line, no fewer do, and they are not too many
pub record IsHeadText (bytes : List ℕ) (len : ℕ) : Type 0 where
  pub within : len ≤ length (skip_pairs bytes)
  pub small : len ≤ head_limit
  pub ends : EndsHead (take len (skip_pairs bytes))
  pub shortest : (n : ℕ) → n < len → ¬ (EndsHead (take n (skip_pairs bytes)))

-- no head text is at the front of the bytes
abbrev pub HasNoHeadText : List ℕ → Type 0
HasNoHeadText bytes = (len : ℕ) → ¬ (IsHeadText bytes len)
