-- Preconditions in the standard's order (RFC 9110, section 13.2.2): each step decides, or the read goes on without it and without
-- the date that it stands before.
use Rattle.std.specs.Prelude.{◌≡◌, ◌↔◌, ◌≤◌, ℕ, nat_le, if◌then◌else◌, List, Some, None, Ok, Err, IsOk}
use Rattle.s3_terms.specs.declared.code.Code.TheVariants.{PreconditionFailed}
use Rattle.s3_conditions.specs.Conditions.{judged, plain, satisfied}
use Rattle.s3_conditions.specs.Tags.{matches}
use Rattle.s3_conditions.specs.declared.conditions.Conditions.{Conditions}
use Rattle.s3_conditions.specs.declared.conditions.Selection.TheVariants.{Whole, Unchanged}
use Rattle.s3_conditions.specs.declared.range.ByteRange.{ByteRange}

-- what is asked, but for If-Match and If-Unmodified-Since
abbrev pub without_first : Conditions → Conditions
without_first asked = record asked { if_match = None; unmodified_since = None }

-- and but for If-None-Match and If-Modified-Since
abbrev pub without_both : Conditions → Conditions
without_both asked = record asked { if_match = None; unmodified_since = None; if_none_match = None; modified_since = None }

-- where If-Match is there it decides, whatever If-Unmodified-Since says
abbrev pub IfMatchDecides : Type 0
IfMatchDecides =
    (asked : Conditions) (tags : List ℕ) (moment : ℕ) (tag : List ℕ) (size : ℕ) → asked.if_match ≡ Some tags
    → judged asked moment tag size ≡ (if matches tags tag then judged (without_first asked) moment tag size else Err PreconditionFailed)

-- else If-Unmodified-Since does, where it is there
abbrev pub UnmodifiedSinceDecides : Type 0
UnmodifiedSinceDecides =
    (asked : Conditions) (date moment : ℕ) (tag : List ℕ) (size : ℕ) → asked.if_match ≡ None → asked.unmodified_since ≡ Some date
    → judged asked moment tag size ≡ (if nat_le moment date then judged (without_first asked) moment tag size else Err PreconditionFailed)

-- then If-None-Match, where it is there, whatever If-Modified-Since says
abbrev pub IfNoneMatchDecides : Type 0
IfNoneMatchDecides =
    (asked : Conditions) (tags : List ℕ) (moment : ℕ) (tag : List ℕ) (size : ℕ) → asked.if_none_match ≡ Some tags
    → judged (without_first asked) moment tag size ≡ (if matches tags tag then Ok Unchanged else judged (without_both asked) moment tag size)

-- else If-Modified-Since, where it is there
abbrev pub ModifiedSinceDecides : Type 0
ModifiedSinceDecides =
    (asked : Conditions) (date moment : ℕ) (tag : List ℕ) (size : ℕ) → asked.if_none_match ≡ None → asked.modified_since ≡ Some date
    → judged (without_first asked) moment tag size ≡ (if nat_le moment date then Ok Unchanged else judged (without_both asked) moment tag size)

-- last the range, where it is there
abbrev pub RangeDecides : Type 0
RangeDecides =
    (asked : Conditions) (range : ByteRange) (moment : ℕ) (tag : List ℕ) (size : ℕ) → asked.range ≡ Some range
    → judged (without_both asked) moment tag size ≡ Ok (satisfied range size)

-- ---- dates

-- a version of that moment isn't refused by If-Unmodified-Since
abbrev pub SameSecondIsMet : Type 0
SameSecondIsMet =
    (asked : Conditions) (moment : ℕ) (tag : List ℕ) (size : ℕ) → asked.if_match ≡ None → asked.unmodified_since ≡ Some moment
    → IsOk (judged asked moment tag size)

-- and is unchanged by If-Modified-Since, unless it is refused
abbrev pub SameSecondIsUnchanged : Type 0
SameSecondIsUnchanged =
    (asked : Conditions) (moment : ℕ) (tag : List ℕ) (size : ℕ) → asked.if_none_match ≡ None → asked.modified_since ≡ Some moment
    → IsOk (judged asked moment tag size) → judged asked moment tag size ≡ Ok Unchanged

-- what is asked, with this date in If-Unmodified-Since
abbrev pub unmodified_since : ℕ → Conditions → Conditions
unmodified_since date asked = record asked { unmodified_since = Some date }

-- with this date in If-Modified-Since
abbrev pub modified_since : ℕ → Conditions → Conditions
modified_since date asked = record asked { modified_since = Some date }

-- what isn't refused by a date in If-Unmodified-Since is answered alike by a later one
abbrev pub LaterDatesAreMet : Type 0
LaterDatesAreMet =
    (asked : Conditions) (early late moment : ℕ) (tag : List ℕ) (size : ℕ) → early ≤ late
    → IsOk (judged (unmodified_since early asked) moment tag size)
    → judged (unmodified_since late asked) moment tag size ≡ judged (unmodified_since early asked) moment tag size

-- what is unchanged by a date in If-Modified-Since is so by a later one
abbrev pub LaterDatesAreUnchanged : Type 0
LaterDatesAreUnchanged =
    (asked : Conditions) (early late moment : ℕ) (tag : List ℕ) (size : ℕ) → early ≤ late
    → judged (modified_since early asked) moment tag size ≡ Ok Unchanged → judged (modified_since late asked) moment tag size ≡ Ok Unchanged

-- of one date alone the two headers are opposites: it refuses in the first what it shows in the second
abbrev pub DatesAreOpposite : Type 0
DatesAreOpposite =
    (date moment : ℕ) (tag : List ℕ) (size : ℕ)
    → (judged (unmodified_since date plain) moment tag size ≡ Err PreconditionFailed)
    ↔ (judged (modified_since date plain) moment tag size ≡ Ok Whole)
