-- What a head says (RFC 9112, sections 3 and 5), by the grammar of the kit's `httparse`.
use Rattle.std.specs.Prelude.{◌≡◌, ℕ, ◌≤◌, Bool, true, false, not, ◌&&◌, ◌||◌, ◌==◌, List, [], ◌∷◌, map, filter, length, codes, Option, None, Some}
use Rattle.std.specs.List.{list_all, list_any, flat_map, slice_get}
use Rattle.std.specs.Str.{bytes_eq, str_to_ascii_lowercase}
use Rattle.httparse.specs.Grammar.{RequestHead, ReadsRequest, trim_ows}
use Rattle.httparse.specs.Spans.{name_and_value}
use Rattle.s3_text.specs.Characters.{carriage_return, comma}
use Rattle.s3_text.specs.Cut.{parts_at}
use Rattle.s3_http_heads.specs.Method.{method_of, is_head}

-- the greatest number of header lines
abbrev pub line_limit : ℕ
line_limit = 64

-- a request line and its header lines, each a name as it was sent and a value without the spaces and
-- tabs around it
pub record HeadParts : Type 0 where
  pub method : List ℕ
  pub target : List ℕ
  pub minor : ℕ
  pub headers : List (List ℕ × List ℕ)

-- the parts of a head of the grammar
abbrev pub parts_of : RequestHead → HeadParts
parts_of h = record { method = h.method; target = h.target; minor = h.minor; headers = map name_and_value h.fields }

-- the text is wholly one head of the grammar, with at most 64 header lines
abbrev pub IsHead : List ℕ → RequestHead → Type 0
IsHead text h = ReadsRequest text h [] × (length h.fields ≤ line_limit)

-- no head of the grammar with so few lines is the whole text
abbrev pub HasNoHead : List ℕ → Type 0
HasNoHead text = (h : RequestHead) → ¬ (IsHead text h)

-- the text is a head that says this
abbrev pub Says : List ℕ → HeadParts → Type 0
Says text parts = (h : RequestHead) × IsHead text h × (parts ≡ parts_of h)

-- no carriage return is in the text, so that no line ends in it
abbrev pub is_unbroken : List ℕ → Bool
is_unbroken text = list_all (λ b. not (b == carriage_return)) text

-- none is in the name and the value of a line
abbrev pub is_whole_line : List ℕ × List ℕ → Bool
is_whole_line header = is_unbroken header.0 && is_unbroken header.1

-- none is in any line of a head
abbrev pub LinesAreWhole : Type 0
LinesAreWhole = (text : List ℕ) (parts : HeadParts) → Says text parts → list_all is_whole_line parts.headers ≡ true

-- a header line has this name, which is given in lower case
abbrev pub is_named : List ℕ → List ℕ × List ℕ → Bool
is_named name header = bytes_eq (str_to_ascii_lowercase header.0) name

-- the values of the header lines of a name, in their order
unfoldable pub values_of : List ℕ → HeadParts → List (List ℕ)
values_of name parts = map (λ (header : List ℕ × List ℕ). header.1) (filter (is_named name) parts.headers)

-- the one value of a header that was sent once
abbrev pub only : List (List ℕ) → Option (List ℕ)
only (value ∷ []) = Some value
only other = None

-- a header line of that name was sent
abbrev pub is_sent : List ℕ → HeadParts → Bool
is_sent name parts = list_any (is_named name) parts.headers

-- the value of the first such line
abbrev pub first_value : List ℕ → HeadParts → Option (List ℕ)
first_value name parts = slice_get (values_of name parts) 0

-- the words between the commas of a value, in lower case and without the white space around them
-- (RFC 9110, section 5.6.1)
abbrev pub words_of : List ℕ → List (List ℕ)
words_of value = map (λ word. str_to_ascii_lowercase (trim_ows word)) (parts_at comma value)

-- the words of the Connection lines (RFC 9110, section 7.6.1)
abbrev pub connection_words : HeadParts → List (List ℕ)
connection_words parts = flat_map words_of (values_of (codes "connection") parts)

-- the connection ends with the reply to this head (RFC 9112, section 9.3; a keep-alive of HTTP/1.0 is not
-- kept)
unfoldable pub closes : HeadParts → Bool
closes parts = (parts.minor == 0) || list_any (λ word. bytes_eq word (codes "close")) (connection_words parts)

-- a line with the value `100-continue`, in any case
abbrev pub says_continue : Option (List ℕ) → Bool
says_continue None = false
says_continue (Some value) = bytes_eq (str_to_ascii_lowercase value) (codes "100-continue")

-- the client of this head may wait for a first reply before it sends the body: the head is one of HTTP/1.1, and
-- its first Expect line says so (RFC 9110, section 10.1.1)
unfoldable pub expects_continue : HeadParts → Bool
expects_continue parts = (parts.minor == 1) && says_continue (first_value (codes "expect") parts)

-- the reply to this head has no body (RFC 9110, section 9.3.2)
abbrev pub asks_head_only : HeadParts → Bool
asks_head_only parts = is_head (method_of parts.method)
