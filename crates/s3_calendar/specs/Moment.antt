-- Moments and the stamps that name them (AWS Signature Version 4: the basic format of ISO 8601,
-- `yyyymmddThhmmssZ`). Moments are whole seconds since 1970-01-01T00:00:00Z, without leap seconds.
use Rattle.std.specs.Prelude.{◌≡◌, IsTrue, ℕ, ◌+◌, ◌*◌, Bool, ◌&&◌, ◌==◌, nat_lt, nat_le, List, length, take, slice_index, slice_range, pos, unsigned_abs}
use Rattle.std.specs.List.{list_all}
use Rattle.std.specs.Char.{is_ascii_digit}
use Rattle.std.specs.Str.Parse.{digits_value}
use Rattle.jiff_core.specs.Calendar.{days_in_month, days_from_civil}

-- the last second of the year 9999
abbrev pub last_moment : ℕ
last_moment = 253_402_300_799

-- the parts of a stamp, each the number that its decimal digits spell
abbrev pub stamp_year : List ℕ → ℕ
stamp_year t = digits_value 10 (slice_range t 0 4)

abbrev pub stamp_month : List ℕ → ℕ
stamp_month t = digits_value 10 (slice_range t 4 6)

abbrev pub stamp_day : List ℕ → ℕ
stamp_day t = digits_value 10 (slice_range t 6 8)

abbrev pub stamp_hour : List ℕ → ℕ
stamp_hour t = digits_value 10 (slice_range t 9 11)

abbrev pub stamp_minute : List ℕ → ℕ
stamp_minute t = digits_value 10 (slice_range t 11 13)

abbrev pub stamp_second : List ℕ → ℕ
stamp_second t = digits_value 10 (slice_range t 13 15)

abbrev pub capital_t : ℕ
capital_t = 84

abbrev pub capital_z : ℕ
capital_z = 90

-- eight digits, `T`, six digits, `Z`
abbrev pub is_stamp_form : List ℕ → Bool
is_stamp_form t =
    length t == 16 && list_all is_ascii_digit (slice_range t 0 8) && slice_index t 8 == capital_t
    && list_all is_ascii_digit (slice_range t 9 15) && slice_index t 15 == capital_z

-- a day of the calendar, from the year 1970 on
abbrev pub is_day : ℕ → ℕ → ℕ → Bool
is_day year month day =
    nat_le 1970 year && nat_le 1 month && nat_le month 12
    && nat_le 1 day && nat_le day (days_in_month (pos year) month)

-- the days from 1970-01-01 to a day
abbrev pub day_number : ℕ → ℕ → ℕ → ℕ
day_number year month day = unsigned_abs (days_from_civil (pos year) month day)

-- a time of day; there is no second 60
abbrev pub is_time : ℕ → ℕ → ℕ → Bool
is_time hour minute second = nat_lt hour 24 && nat_lt minute 60 && nat_lt second 60

-- the seconds from midnight to a time of day
abbrev pub second_of_day : ℕ → ℕ → ℕ → ℕ
second_of_day hour minute second = 3_600 * hour + 60 * minute + second

-- the date of a stamp
unfoldable pub is_stamp_date : List ℕ → Bool
is_stamp_date t = is_day (stamp_year t) (stamp_month t) (stamp_day t)

unfoldable pub stamp_day_number : List ℕ → ℕ
stamp_day_number t = day_number (stamp_year t) (stamp_month t) (stamp_day t)

-- and its time of day
unfoldable pub is_stamp_time : List ℕ → Bool
is_stamp_time t = is_time (stamp_hour t) (stamp_minute t) (stamp_second t)

unfoldable pub stamp_second_of_day : List ℕ → ℕ
stamp_second_of_day t = second_of_day (stamp_hour t) (stamp_minute t) (stamp_second t)

-- the text is the stamp of some moment
unfoldable pub is_stamp : List ℕ → Bool
is_stamp t = is_stamp_form t && is_stamp_date t && is_stamp_time t

-- the moment that a stamp names
unfoldable pub stamp_seconds : List ℕ → ℕ
stamp_seconds t = 86_400 * stamp_day_number t + stamp_second_of_day t

-- the date of a stamp: its first eight bytes
abbrev pub stamp_date : List ℕ → List ℕ
stamp_date t = take 8 t

-- two stamps that name one moment are the same text
abbrev pub OneStampForEachMoment : Type 0
OneStampForEachMoment =
    (first second : List ℕ) → IsTrue (is_stamp first) → IsTrue (is_stamp second)
    → stamp_seconds first ≡ stamp_seconds second → first ≡ second
