-- What readers rely on, of all conditions and all versions.
use Rattle.std.specs.Prelude.{◌≡◌, ◌<◌, ◌+◌, ℕ, Bool, true, false, ◌&&◌, nat_le, List, codes, Some, None, Ok}
use Rattle.s3_conditions.specs.declared.conditions.Conditions.{Conditions}
use Rattle.s3_conditions.specs.declared.conditions.Selection.{Selection}
use Rattle.s3_conditions.specs.declared.conditions.Selection.TheVariants.{Whole, Part}
use Rattle.s3_conditions.specs.declared.range.ByteRange.{ByteRange}
use Rattle.s3_conditions.specs.declared.range.ByteRange.TheVariants.{FromTo, From, Last}
use Rattle.s3_conditions.specs.Conditions.{judged, plain, satisfied, LiesIn}
use Rattle.s3_conditions.specs.Range.{byte_range}
use Rattle.s3_conditions.specs.Tags.{matches}

-- who asks nothing is shown all
abbrev pub PlainReadsShowAll : Type 0
PlainReadsShowAll = (moment : ℕ) (tag : List ℕ) (size : ℕ) → judged plain moment tag size ≡ Ok Whole

-- a part that is shown lies in the object
abbrev pub PartsLieInTheObject : Type 0
PartsLieInTheObject =
    (asked : Conditions) (moment : ℕ) (tag : List ℕ) (size : ℕ) (shown : Selection)
    → judged asked moment tag size ≡ Ok shown → LiesIn size shown

-- the range has the byte at this position of so many
abbrev pub has_byte : ByteRange → ℕ → ℕ → Bool
has_byte (FromTo first last) size position = nat_le first position && nat_le position last
has_byte (From first) size position = nat_le first position
has_byte (Last count) size position = nat_le size (position + count)

-- the byte at this position is one of a part that is shown
abbrev pub is_in_part : Selection → ℕ → Bool
is_in_part (Part first last) position = nat_le first position && nat_le position last
is_in_part other position = false

-- of an object's bytes the part has those that are in the range, and no others
abbrev pub PartsAreWhatIsAsked : Type 0
PartsAreWhatIsAsked =
    (range : ByteRange) (size position : ℕ) → position < size → is_in_part (satisfied range size) position ≡ has_byte range size position

-- the standard's own examples: ranges of 10,000 bytes (RFC 9110, section 14.1.2), and lists of tags (sections 13.1.1 and 13.1.2)
pub record ExamplesHold : Type 0 where
  pub first_bytes : byte_range (codes "bytes=0-499") ≡ Some (FromTo 0 499)
  pub next_bytes : byte_range (codes "bytes=500-999") ≡ Some (FromTo 500 999)
  pub last_bytes : byte_range (codes "bytes=-500") ≡ Some (Last 500)
  pub bytes_to_the_end : byte_range (codes "bytes=9500-") ≡ Some (From 9_500)
  pub several_ranges : byte_range (codes "bytes=0-0,-1") ≡ None
  pub last_part : satisfied (Last 500) 10_000 ≡ Part 9_500 9_999
  pub part_to_the_end : satisfied (From 9_500) 10_000 ≡ Part 9_500 9_999
  pub one_tag : matches (codes "\"xyzzy\"") (codes "xyzzy") ≡ true
  pub several_tags : matches (codes "\"xyzzy\", \"r2d2xxxx\", \"c3piozzzz\"") (codes "c3piozzzz") ≡ true
  pub weak_tags : matches (codes "W/\"xyzzy\", W/\"r2d2xxxx\"") (codes "r2d2xxxx") ≡ true
  pub any_tag : matches (codes "*") (codes "xyzzy") ≡ true
