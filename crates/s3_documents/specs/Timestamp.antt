-- Moments as documents write them (ISO 8601, `yyyy-mm-ddThh:mm:ss.000Z`).
use Rattle.std.specs.Prelude.{ℕ, zero, suc, ◌+◌, ◌-◌, ◌/◌, ◌%◌, nat_le, if◌then◌else◌, List, [], ◌∷◌, ◌++◌, slice_range, codes}
use Rattle.s3_calendar.specs.Moment.{day_number}

-- the last of the numbers from 1 to `most` that has begun on a day; 0 where none has
unfoldable pub last_begun : (ℕ → ℕ) → ℕ → ℕ → ℕ
last_begun beginning zero day = 0
last_begun beginning (suc n) day = if nat_le (beginning (suc n)) day then suc n else last_begun beginning n day

-- the year of a day, the last of 1970 to 9999 that has begun; its month; and which day of the month it is
unfoldable pub year_of : ℕ → ℕ
year_of day = 1970 + last_begun (λ years. day_number (1970 + years) 1 1) 8_029 day

unfoldable pub month_of : ℕ → ℕ
month_of day = 1 + last_begun (λ months. day_number (year_of day) (1 + months) 1) 11 day

unfoldable pub month_day_of : ℕ → ℕ
month_day_of day = 1 + (day - day_number (year_of day) (month_of day) 1)

-- a number in two decimal digits, and in four
abbrev pub two_digits : ℕ → List ℕ
two_digits n = (48 + n / 10) ∷ (48 + n % 10) ∷ []

abbrev pub four_digits : ℕ → List ℕ
four_digits n = two_digits (n / 100) ++ two_digits (n % 100)

-- the stamp of a moment, `yyyymmddThhmmssZ`, by its parts
abbrev pub stamp_text : (year month day hour minute second : ℕ) → List ℕ
stamp_text year month day hour minute second =
    four_digits year ++ two_digits month ++ two_digits day
    ++ codes "T" ++ two_digits hour ++ two_digits minute ++ two_digits second ++ codes "Z"

unfoldable pub stamp_of : ℕ → List ℕ
stamp_of moment =
    let day = moment / 86_400 in
    let time = moment % 86_400 in
    stamp_text (year_of day) (month_of day) (month_day_of day) (time / 3_600) (time / 60 % 60) (time % 60)

-- the date and the time of day of a stamp
abbrev pub spelled_out : List ℕ → List ℕ
spelled_out stamp =
    slice_range stamp 0 4 ++ codes "-" ++ slice_range stamp 4 6 ++ codes "-" ++ slice_range stamp 6 8
    ++ codes "T" ++ slice_range stamp 9 11 ++ codes ":" ++ slice_range stamp 11 13 ++ codes ":" ++ slice_range stamp 13 15
    ++ codes ".000Z"

-- the text of a moment
unfoldable pub timestamp : ℕ → List ℕ
timestamp moment = spelled_out (stamp_of moment)
