-- What a range selects (RFC 9110, sections 14.1.2, 14.2 and 15.5.17).
use Rattle.std.specs.Prelude.{◌≡◌, ◌≢◌, ◌↔◌, ◌≤◌, ◌<◌, ◌-◌, ◌^◌, ◌⊎◌, ℕ, false, List, Some, None, Ok}
use Rattle.s3_conditions.specs.Conditions.{judged, satisfied}
use Rattle.s3_conditions.specs.Laws.{has_byte}
use Rattle.s3_conditions.specs.Range.{byte_range}
use Rattle.s3_conditions.specs.declared.conditions.Conditions.{Conditions}
use Rattle.s3_conditions.specs.declared.conditions.Selection.TheVariants.{Whole, Part, Unchanged, Outside}
use Rattle.s3_conditions.specs.declared.range.ByteRange.{ByteRange}
use Rattle.s3_conditions.specs.declared.range.ByteRange.TheVariants.{FromTo, From, Last}

-- the numbers of a range are below 10^18, and the first position isn't after the last
abbrev pub IsRange : ByteRange → Type 0
IsRange (FromTo first last) = (first ≤ last) × (last < 10 ^ 18)
IsRange (From first) = first < 10 ^ 18
IsRange (Last count) = count < 10 ^ 18

-- so are the ranges that are read
abbrev pub RangesAreRead : Type 0
RangesAreRead = (value : List ℕ) (range : ByteRange) → byte_range value ≡ Some range → IsRange range

-- no byte of an object of that size is in the range
abbrev pub HasNoByte : ByteRange → ℕ → Type 0
HasNoByte range size = (position : ℕ) → position < size → has_byte range size position ≡ false

-- a range that has no byte of an object is outside it, and no other is
abbrev pub OutsideHasNoByte : Type 0
OutsideHasNoByte = (range : ByteRange) (size : ℕ) → (satisfied range size ≡ Outside) ↔ HasNoByte range size

-- a range selects a part, or is outside
abbrev pub RangesSelectParts : Type 0
RangesSelectParts =
    (range : ByteRange) (size : ℕ)
    → (satisfied range size ≡ Outside) ⊎ ((first : ℕ) × (last : ℕ) × (satisfied range size ≡ Part first last))

-- never is all shown without its positions, or told as unchanged
abbrev pub RangesSelectNothingElse : Type 0
RangesSelectNothingElse = (range : ByteRange) (size : ℕ) → (satisfied range size ≢ Whole) × (satisfied range size ≢ Unchanged)

-- as many bytes at the end as the object has, or more, are all
abbrev pub LongSuffixesAreAll : Type 0
LongSuffixesAreAll = (count size : ℕ) → 0 < size → size ≤ count → satisfied (Last count) size ≡ Part 0 (size - 1)

-- a last position behind the end stands for the last byte, and so does none
abbrev pub LongRangesEnd : Type 0
LongRangesEnd = (first last size : ℕ) → first ≤ last → size ≤ last → satisfied (FromTo first last) size ≡ satisfied (From first) size

-- what is asked, but for the range
abbrev pub without_range : Conditions → Conditions
without_range asked = record asked { range = None }

-- a precondition that decides does so whatever range is asked for
abbrev pub PreconditionsComeFirst : Type 0
PreconditionsComeFirst =
    (asked : Conditions) (moment : ℕ) (tag : List ℕ) (size : ℕ) → judged (without_range asked) moment tag size ≢ Ok Whole
    → judged asked moment tag size ≡ judged (without_range asked) moment tag size

-- a read is answered with InvalidRange's cause exactly where it would be shown all without the range, and this has no byte of the
-- object
abbrev pub OutsideIsLast : Type 0
OutsideIsLast =
    (asked : Conditions) (moment : ℕ) (tag : List ℕ) (size : ℕ)
    → (judged asked moment tag size ≡ Ok Outside)
    ↔ ((judged (without_range asked) moment tag size ≡ Ok Whole) × ((range : ByteRange) × (asked.range ≡ Some range) × HasNoByte range size))

-- and with a part exactly where it would be shown all, and the range selects this part
abbrev pub PartsAreLast : Type 0
PartsAreLast =
    (asked : Conditions) (moment : ℕ) (tag : List ℕ) (size first last : ℕ)
    → (judged asked moment tag size ≡ Ok (Part first last))
    ↔ ((judged (without_range asked) moment tag size ≡ Ok Whole)
    × ((range : ByteRange) × (asked.range ≡ Some range) × (satisfied range size ≡ Part first last)))
