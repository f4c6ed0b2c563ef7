-- The standard's own examples (RFC 9110), but for those that stand with the definitions.
use Rattle.std.specs.Prelude.{◌≡◌, true, false, codes, Some, None}
use Rattle.httpdate.specs.Date.{parse_secs}
use Rattle.s3_conditions.specs.Conditions.{satisfied}
use Rattle.s3_conditions.specs.Range.{byte_range}
use Rattle.s3_conditions.specs.Tags.{matches}
use Rattle.s3_conditions.specs.declared.conditions.Selection.TheVariants.{Part, Outside}
use Rattle.s3_conditions.specs.declared.range.ByteRange.TheVariants.{FromTo, From, Last}

-- a date in the three formats (section 5.6.7), and that of If-Modified-Since and If-Unmodified-Since (sections 13.1.3 and 13.1.4)
pub record DatesAreShown : Type 0 where
  pub fixed : parse_secs (codes "Sun, 06 Nov 1994 08:49:37 GMT") ≡ Some 784_111_777
  pub rfc850 : parse_secs (codes "Sunday, 06-Nov-94 08:49:37 GMT") ≡ Some 784_111_777
  pub asctime : parse_secs (codes "Sun Nov  6 08:49:37 1994") ≡ Some 784_111_777
  pub since : parse_secs (codes "Sat, 29 Oct 1994 19:43:31 GMT") ≡ Some 783_459_811

-- lists of tags (sections 13.1.1 and 13.1.2), and the weak comparison with a strong tag (section 8.8.3.2)
pub record TagsAreCompared : Type 0 where
  pub first : matches (codes "\"xyzzy\", \"r2d2xxxx\", \"c3piozzzz\"") (codes "xyzzy") ≡ true
  pub second : matches (codes "\"xyzzy\", \"r2d2xxxx\", \"c3piozzzz\"") (codes "r2d2xxxx") ≡ true
  pub none : matches (codes "\"xyzzy\", \"r2d2xxxx\", \"c3piozzzz\"") (codes "xyzz") ≡ false
  pub weak : matches (codes "W/\"xyzzy\"") (codes "xyzzy") ≡ true
  pub last_weak : matches (codes "W/\"xyzzy\", W/\"r2d2xxxx\", W/\"c3piozzzz\"") (codes "c3piozzzz") ≡ true
  pub no_weak : matches (codes "W/\"xyzzy\", W/\"r2d2xxxx\", W/\"c3piozzzz\"") (codes "zyx") ≡ false
  pub weak_with_strong : matches (codes "W/\"1\"") (codes "1") ≡ true
  pub strong_with_strong : matches (codes "\"1\"") (codes "1") ≡ true
  pub weak_with_another : matches (codes "W/\"1\"") (codes "2") ≡ false

-- ranges of 10,000 bytes (section 14.1.2), of 1,234 (section 14.4) and of 47,022 (sections 15.3.7.1 and 15.5.17)
pub record RangesAreTaken : Type 0 where
  pub first_500 : satisfied (FromTo 0 499) 10_000 ≡ Part 0 499
  pub second_500 : satisfied (FromTo 500 999) 10_000 ≡ Part 500 999
  pub three_ranges : byte_range (codes "bytes= 0-999, 4500-5499, -1000") ≡ None
  pub two_ranges : byte_range (codes "bytes=500-600,601-999") ≡ None
  pub overlapping : byte_range (codes "bytes=500-700,601-999") ≡ None
  pub backwards : byte_range (codes "bytes=1-0") ≡ None
  pub first_of_1234 : satisfied (FromTo 0 499) 1_234 ≡ Part 0 499
  pub second_of_1234 : satisfied (FromTo 500 999) 1_234 ≡ Part 500 999
  pub all_but_500 : satisfied (From 500) 1_234 ≡ Part 500 1_233
  pub last_of_1234 : satisfied (Last 500) 1_234 ≡ Part 734 1_233
  pub rest_of_47022 : satisfied (From 21_010) 47_022 ≡ Part 21_010 47_021
  pub at_the_end : satisfied (From 47_022) 47_022 ≡ Outside
