-- The status line and the header lines of a reply's head (RFC 9112, sections 4 and 5).
use Rattle.std.specs.Prelude.{ℕ, ◌+◌, Bool, true, false, not, ◌||◌, nat_eq, if◌then◌else◌, List, [], ◌∷◌, ◌++◌, filter, length, codes, Option, Some, None, option_map}
use Rattle.std.specs.Borrow.{Bor}
use Rattle.std.specs.List.{flat_map, list_any, starts_with}
use Rattle.std.specs.Fmt.{decimal}
use Rattle.std.specs.Str.{bytes_eq}
use Rattle.s3_text.specs.Characters.{crlf, space, double_quote}
use Rattle.s3_terms.specs.declared.status.Status.{Status}
use Rattle.base64.specs.Engines.{standard}
use Rattle.base64.specs.GeneralPurpose.{encode_of}
use Rattle.s3_integrity.specs.Algorithm.{header_of}
use Rattle.s3_integrity.specs.Sum.{algorithm_of, bytes_of}
use Rattle.s3_integrity.specs.declared.checksum.Checksum.{Checksum}
use Rattle.s3_versions.specs.Metadata.{Entry}
use Rattle.s3_terms.specs.Status.{number_of, reason_phrase}
use Rattle.s3_replies.specs.declared.lines.Entries.{Entries}
use Rattle.s3_replies.specs.declared.lines.Entries.TheVariants.{All, ButChecksums, Freshness}

-- a status line: `HTTP/1.1 200 OK`, and the end of the line
unfoldable pub status_line : Status → List ℕ
status_line status = codes "HTTP/1.1 " ++ decimal (number_of status) ++ space ∷ reason_phrase status ++ crlf

-- a header line's name and value
abbrev pub Line : Type 0
Line = List ℕ × List ℕ

-- `Name: value`, and the end of the line
abbrev pub print_line : Line → List ℕ
print_line line = line.0 ++ codes ": " ++ line.1 ++ crlf

-- some header lines, one after another
unfoldable pub print_lines : List Line → List ℕ
print_lines lines = flat_map print_line lines

-- the line with this name and value, where the test holds
abbrev pub flag : List ℕ → List ℕ → Bool → List Line
flag name value test = if test then (name, value) ∷ [] else []

-- the line with this name, where there is a value
abbrev pub optional : List ℕ → Option (List ℕ) → List Line
optional name None = []
optional name (Some value) = (name, value) ∷ []

-- a line, where there is one
abbrev pub line_if : Option Line → List Line
line_if None = []
line_if (Some line) = line ∷ []

-- how long it is, with the 4 bytes beside its name and its value
abbrev pub line_room : Option Line → ℕ
line_room None = 0
line_room (Some line) = length line.0 + length line.1 + 4

-- the line that tells a checksum: its base64 (RFC 4648, section 4) under the name of its kind's header (Amazon S3 User Guide,
-- "Checking object integrity")
abbrev pub checksum_line : Checksum → Line
checksum_line sum = (header_of (algorithm_of sum), encode_of standard (bytes_of sum))

-- a text in double quotes
abbrev pub quoted : List ℕ → List ℕ
quoted text = double_quote ∷ text ++ double_quote ∷ []

-- the value that a reference points to, where there is one
abbrev pub value_of : Option (Bor (List ℕ)) → Option (List ℕ)
value_of value = option_map (λ text. text.now) value

-- how long a value is that may be absent
abbrev pub value_length : Option (List ℕ) → ℕ
value_length None = 0
value_length (Some value) = length value

-- how long its line is, with so many bytes beside the value
abbrev pub room_with : ℕ → Option (List ℕ) → ℕ
room_with beside None = 0
room_with beside (Some value) = beside + length value

-- an entry of metadata as a header line, which has its whole name
abbrev pub metadata_line : Entry → Line
metadata_line entry = (entry.name, entry.value)

-- whether an entry tells a checksum of an object's bytes (Amazon S3 User Guide, "Checking object integrity")
abbrev pub tells_checksum : Entry → Bool
tells_checksum entry = starts_with nat_eq entry.name (codes "x-amz-checksum-")

-- the entries that tell none
abbrev pub other_entries : List Entry → List Entry
other_entries entries = filter (λ (entry : Entry). not (tells_checksum entry)) entries

-- whether an entry tells how long a cache may use what it keeps (RFC 9111, sections 5.2 and 5.3)
abbrev pub tells_freshness : Entry → Bool
tells_freshness entry = bytes_eq entry.name (codes "cache-control") || bytes_eq entry.name (codes "expires")

-- the entries that do: of all that are kept with an object, the lines that a 304 has where a 200 has them (RFC 9110, section 15.4.5)
abbrev pub freshness_entries : List Entry → List Entry
freshness_entries entries = filter tells_freshness entries

-- a line of this name stands among those that a read asked its reply to have in the place of what is kept (Amazon S3 API Reference,
-- GetObject, `response-content-type` and its like)
abbrev pub is_overridden : List Entry → List ℕ → Bool
is_overridden overrides name = list_any (λ (entry : Entry). bytes_eq entry.name name) overrides

-- the entries in whose place none of these stands
abbrev pub entries_left : List Entry → List Entry → List Entry
entries_left overrides entries = filter (λ (entry : Entry). not (is_overridden overrides entry.name)) entries

-- the media type, unless another one stands in its place
abbrev pub type_left : List Entry → List ℕ → Option (List ℕ)
type_left overrides kind = if is_overridden overrides (codes "content-type") then None else Some kind

-- the entries that a head tells
abbrev pub entries_told : Entries → List Entry → List Entry
entries_told All entries = entries
entries_told ButChecksums entries = other_entries entries
entries_told Freshness entries = freshness_entries entries

-- which those of an object are, by whether its checksums are told
abbrev pub entries_by : Bool → Entries
entries_by true = All
entries_by false = ButChecksums

-- those of them in whose place none of these stands
abbrev pub told_of : Entries → List Entry → List Entry → List Entry
told_of tells overrides entries = entries_told tells (entries_left overrides entries)

-- and behind them these
abbrev pub all_told : Entries → List Entry → List Entry → List Entry
all_told tells overrides entries = told_of tells overrides entries ++ entries_told tells overrides
