-- The stamp of a moment: it is a stamp, and it names the moment.
use Rattle.std.proofs.Common.{◌≡◌, refl, sym, ap, ap₂, ◌∙◌, subst, ◌&&◌, ℕ, zero, suc, ◌+◌, ◌-◌, ◌*◌, ◌/◌, ◌%◌, ◌<◌, ◌≤◌, inl, inr, Bool, true, false, if◌then◌else◌, nat_le, IsTrue, List, [], ◌∷◌, ◌++◌, arith, pos}
use Rattle.std.specs.List.{list_all}
use Rattle.std.specs.Char.{is_ascii_digit, digit_value}
use Rattle.std.specs.Str.Parse.{digits_value}
use Rattle.std.proofs.lemmas.Bool.{cases_order}
use Rattle.std.proofs.lemmas.Bool.Decides.{nat_tests}
use Rattle.jiff_core.specs.Calendar.{days_in_year, days_in_month, day_count, days_from_civil}
use Rattle.jiff_core.proofs.CalendarLemmas.{day_count-epoch, days_from_civil-day_count, day_count-day_of_year, day_count-next_year, day_count-later_year, day_count-day, day_count-next_month, day_count-last_of_year, day_count-end, days_in_month_bounds}
use Rattle.jiff_core.proofs.SignedLemmas.{signed_arith, one_part}
use Rattle.s3_calendar.specs.Moment.{last_moment, is_day, is_time, day_number, second_of_day, is_stamp, is_stamp_form, is_stamp_date, is_stamp_time, stamp_seconds, stamp_day_number, stamp_second_of_day, OneStampForEachMoment}
use Rattle.s3_documents.specs.Timestamp.{last_begun, year_of, month_of, month_day_of, two_digits, four_digits, stamp_text, stamp_of, spelled_out, timestamp}

-- ---- the last of several numbers that has begun

chosen-le : (b : Bool) (n r : ℕ) → r ≤ n → (if b then suc n else r) ≤ suc n
chosen-le true n r h = omega arith
chosen-le false n r h = omega arith

last_begun-le : (beginning : ℕ → ℕ) (most day : ℕ) → last_begun beginning most day ≤ most
unfolding last_begun
last_begun-le beginning zero day = omega arith
last_begun-le beginning (suc n) day = chosen-le (nat_le (beginning (suc n)) day) n (last_begun beginning n day) (last_begun-le beginning n day)

from_test : (a b : ℕ) → nat_le a b ≡ true → a ≤ b
from_test a b e = grind (arith, nat_tests)

not_from_test : (a b : ℕ) → nat_le a b ≡ false → b < a
not_from_test a b e = grind (arith, nat_tests)

chosen-begun : (beginning : ℕ → ℕ) (n r day : ℕ) (b : Bool) → nat_le (beginning (suc n)) day ≡ b → beginning r ≤ day → beginning (if b then suc n else r) ≤ day
chosen-begun beginning n r day true e h = from_test (beginning (suc n)) day e
chosen-begun beginning n r day false e h = h

last_begun-begun : (beginning : ℕ → ℕ) (most day : ℕ) → beginning 0 ≤ day → beginning (last_begun beginning most day) ≤ day
unfolding last_begun
last_begun-begun beginning zero day h = h
last_begun-begun beginning (suc n) day h =
    chosen-begun beginning n (last_begun beginning n day) day (nat_le (beginning (suc n)) day) refl (last_begun-begun beginning n day h)

chosen-next : (beginning : ℕ → ℕ) (n r day : ℕ) (b : Bool) → nat_le (beginning (suc n)) day ≡ b → r ≤ n → (r < n → day < beginning (suc r))
    → (if b then suc n else r) < suc n → day < beginning (suc (if b then suc n else r))
chosen-next beginning n r day true e within before below = absurd (omega arith)
chosen-next beginning n r day false e within before below =
    elim (cases_order r n) [
      | inl same ↦ subst (λ k. day < beginning (suc k)) (sym same) (not_from_test (beginning (suc n)) day e)
      | inr (inl lt) ↦ before lt
      | inr (inr gt) ↦ absurd (omega arith)
    ]

-- the next one hasn't begun
last_begun-next : (beginning : ℕ → ℕ) (most day : ℕ) → last_begun beginning most day < most → day < beginning (suc (last_begun beginning most day))
unfolding last_begun
last_begun-next beginning zero day below = absurd (omega arith)
last_begun-next beginning (suc n) day below =
    chosen-next beginning n (last_begun beginning n day) day (nat_le (beginning (suc n)) day) refl (last_begun-le beginning n day) (last_begun-next beginning n day) below

-- ---- days since 1970-01-01, by the counts of days of the calendar

first_day-late : (y : ℕ) → 1970 ≤ y → 4_371_953 ≤ day_count (pos y) 1 1
first_day-late y late =
    elim (cases_order 1970 y) [
      | inl same ↦ subst (λ n. 4_371_953 ≤ day_count (pos n) 1 1) same (omega (arith, day_count-epoch))
      | inr (inl lt) ↦ omega (arith, day_count-epoch, day_count-later_year (pos 1970) (pos y) (omega (arith, signed_arith)) (omega (arith, signed_arith)))
      | inr (inr gt) ↦ absurd (omega arith)
    ]

numbered : (y m d : ℕ) → 1970 ≤ y → 1 ≤ d → day_number y m d + 4_371_953 ≡ day_count (pos y) m d
numbered y m d late first =
    let since = first_day-late y late in
    let place = day_count-day_of_year (pos y) m d first in
    omega (arith, signed_arith, days_from_civil-day_count (pos y) m d, one_part (days_from_civil (pos y) m d))

-- ---- the year, the month and the day of the month

year_ends : (n day : ℕ) → n ≤ 8_029 → day ≤ 2_932_896 → (n < 8_029 → day < day_number (1970 + suc n) 1 1)
    → day + 4_371_953 < day_count (pos (1970 + n)) 1 1 + days_in_year (pos (1970 + n))
year_ends n day within bound next =
    let following = day_count-next_year (pos (1970 + n)) (pos (1970 + suc n)) (omega (arith, signed_arith)) (omega (arith, signed_arith)) in
    elim (cases_order n 8_029) [
      | inl same ↦
          let ending : day_count (pos (1970 + suc n)) 1 1 ≡ 7_304_850 = ap (λ k. day_count (pos (1970 + suc k)) 1 1) same ∙ day_count-end in
          omega arith
      | inr (inl lt) ↦ omega (arith, next lt, numbered (1970 + suc n) 1 1 (omega arith) (omega arith))
      | inr (inr gt) ↦ absurd (omega arith)
    ]

-- the year of a day: it is one that a stamp can tell, and the day is in it
pub record IsYearOf (day year : ℕ) : Type 0 where
  pub late : 1970 ≤ year
  pub bound : year < 10_000
  pub begun : day_number year 1 1 ≤ day
  pub unended : day + 4_371_953 < day_count (pos year) 1 1 + days_in_year (pos year)

year_holds : (day : ℕ) → day ≤ 2_932_896 → IsYearOf day (year_of day)
unfolding year_of
year_holds day bound =
    let beginning : ℕ → ℕ = λ years. day_number (1970 + years) 1 1 in
    let n = last_begun beginning 8_029 day in
    let within = last_begun-le beginning 8_029 day in
    let first : beginning 0 ≤ day = omega (arith, numbered 1970 1 1 (omega arith) (omega arith), day_count-epoch) in
    record {
      late = omega arith;
      bound = omega arith;
      begun = last_begun-begun beginning 8_029 day first;
      unended = year_ends n day within bound (last_begun-next beginning 8_029 day);
    }

month_ends : (y n day : ℕ) → 1970 ≤ y → n ≤ 11 → (n < 11 → day < day_number y (1 + suc n) 1) → day + 4_371_953 < day_count (pos y) 1 1 + days_in_year (pos y)
    → day + 4_371_953 < day_count (pos y) (1 + n) 1 + days_in_month (pos y) (1 + n)
month_ends y n day late within next unended =
    elim (cases_order n 11) [
      | inl same ↦
          let last : day + 4_371_953 < day_count (pos y) 12 1 + 31 = omega (arith, day_count-last_of_year (pos y), day_count-day (pos y) 12 31 1 (omega arith) (omega arith)) in
          subst (λ k. day + 4_371_953 < day_count (pos y) (1 + k) 1 + days_in_month (pos y) (1 + k)) (sym same) last
      | inr (inl lt) ↦
          let there : 1 + suc n ≡ 1 + n + 1 = omega arith in
          let before : day < day_number y (1 + n + 1) 1 = subst (λ k. day < day_number y k 1) there (next lt) in
          omega (arith, before, numbered y (1 + n + 1) 1 late (omega arith), day_count-next_month (pos y) (1 + n) (omega arith))
      | inr (inr gt) ↦ absurd (omega arith)
    ]

-- and its month
pub record IsMonthOf (day year month : ℕ) : Type 0 where
  pub first : 1 ≤ month
  pub last : month ≤ 12
  pub begun : day_number year month 1 ≤ day
  pub unended : day + 4_371_953 < day_count (pos year) month 1 + days_in_month (pos year) month

month_holds : (day : ℕ) → day ≤ 2_932_896 → IsMonthOf day (year_of day) (month_of day)
unfolding month_of
month_holds day bound =
    let year = year_holds day bound in
    let beginning : ℕ → ℕ = λ months. day_number (year_of day) (1 + months) 1 in
    let n = last_begun beginning 11 day in
    let within = last_begun-le beginning 11 day in
    record {
      first = omega arith;
      last = omega arith;
      begun = last_begun-begun beginning 11 day year.begun;
      unended = month_ends (year_of day) n day year.late within (last_begun-next beginning 11 day) year.unended;
    }

-- a date of the calendar, and how many days it comes after 1970-01-01
pub record IsDateOf (day year month month_day : ℕ) : Type 0 where
  pub valid : is_day year month month_day ≡ true
  pub number : day_number year month month_day ≡ day
  pub year_bound : year < 10_000
  pub month_bound : month < 100
  pub day_bound : month_day < 100

is_day-true : (y m d : ℕ) → 1970 ≤ y → 1 ≤ m → m ≤ 12 → 1 ≤ d → d ≤ days_in_month (pos y) m → is_day y m d ≡ true
is_day-true y m d late first last begun within = grind (arith, nat_tests)

date_holds : (day : ℕ) → day ≤ 2_932_896 → IsDateOf day (year_of day) (month_of day) (month_day_of day)
unfolding month_day_of
date_holds day bound =
    let y = year_of day in
    let m = month_of day in
    let d = 1 + (day - day_number y m 1) in
    let year = year_holds day bound in
    let month = month_holds day bound in
    let first = numbered y m 1 year.late (omega arith) in
    let here = numbered y m d year.late (omega arith) in
    let between = day_count-day (pos y) m d 1 (omega arith) (omega arith) in
    let length = days_in_month_bounds (pos y) m in
    let within : d ≤ days_in_month (pos y) m = omega (arith, month.begun, month.unended) in
    record {
      valid = is_day-true y m d year.late month.first month.last (omega arith) within;
      number = omega (arith, month.begun);
      year_bound = year.bound;
      month_bound = omega (arith, month.last);
      day_bound = omega arith;
    }

-- ---- the digits of a stamp

digit : (n : ℕ) → n < 10 → (digit_value (48 + n) ≡ n) × (is_ascii_digit (48 + n) ≡ true)
digit n h = (grind (arith, nat_tests), grind (arith, nat_tests))

two_value : (n : ℕ) → n < 100 → digits_value 10 (two_digits n) ≡ n
two_value n h = omega (arith, (digit (n / 10) (omega arith)).0, (digit (n % 10) (omega arith)).0)

four_value : (n : ℕ) → n < 10_000 → digits_value 10 (four_digits n) ≡ n
four_value n h =
    omega (arith, (digit (n / 100 / 10) (omega arith)).0, (digit (n / 100 % 10) (omega arith)).0, (digit (n % 100 / 10) (omega arith)).0, (digit (n % 100 % 10) (omega arith)).0)

both_and : (x y rest : Bool) → x ≡ true → y ≡ true → rest ≡ true → (x && (y && rest)) ≡ true
both_and x y rest e f g = rw (e, f, g) refl

formed : (date time : Bool) → date ≡ true → time ≡ true → (true && date && true && time && true) ≡ true
formed date time e f = rw (e, f) refl

all_digits : (a b : ℕ) (rest : List ℕ) → a < 10 → b < 10 → list_all is_ascii_digit rest ≡ true → list_all is_ascii_digit ((48 + a) ∷ (48 + b) ∷ rest) ≡ true
all_digits a b rest h k others = both_and _ _ _ (digit a h).1 (digit b k).1 others

form_holds : (y m d h i s : ℕ) → y < 10_000 → m < 100 → d < 100 → h < 100 → i < 100 → s < 100 → is_stamp_form (stamp_text y m d h i s) ≡ true
form_holds y m d h i s y_in m_in d_in h_in i_in s_in =
    let day = all_digits (d / 10) (d % 10) [] (omega arith) (omega arith) refl in
    let month = all_digits (m / 10) (m % 10) (two_digits d) (omega arith) (omega arith) day in
    let low = all_digits (y % 100 / 10) (y % 100 % 10) (two_digits m ++ two_digits d) (omega arith) (omega arith) month in
    let date = all_digits (y / 100 / 10) (y / 100 % 10) (two_digits (y % 100) ++ two_digits m ++ two_digits d) (omega arith) (omega arith) low in
    let second = all_digits (s / 10) (s % 10) [] (omega arith) (omega arith) refl in
    let minute = all_digits (i / 10) (i % 10) (two_digits s) (omega arith) (omega arith) second in
    let time = all_digits (h / 10) (h % 10) (two_digits i ++ two_digits s) (omega arith) (omega arith) minute in
    formed (list_all is_ascii_digit (four_digits y ++ two_digits m ++ two_digits d)) (list_all is_ascii_digit (two_digits h ++ two_digits i ++ two_digits s)) date time

same_day : (y m d year month month_day : ℕ) → year ≡ y → month ≡ m → month_day ≡ d → is_day y m d ≡ true → is_day year month month_day ≡ true
same_day y m d year month month_day e f g valid = rw (e, f, g) valid

same_time : (h i s hour minute second : ℕ) → hour ≡ h → minute ≡ i → second ≡ s → is_time h i s ≡ true → is_time hour minute second ≡ true
same_time h i s hour minute second e f g valid = rw (e, f, g) valid

same_number : (y m d year month month_day : ℕ) → year ≡ y → month ≡ m → month_day ≡ d → day_number year month month_day ≡ day_number y m d
same_number y m d year month month_day e f g = rw (e, f, g) refl

same_second : (h i s hour minute second : ℕ) → hour ≡ h → minute ≡ i → second ≡ s → second_of_day hour minute second ≡ second_of_day h i s
same_second h i s hour minute second e f g = rw (e, f, g) refl

is_time-true : (h i s : ℕ) → h < 24 → i < 60 → s < 60 → is_time h i s ≡ true
is_time-true h i s h_in i_in s_in = grind (arith, nat_tests)

all_three : (form date time : Bool) → form ≡ true → date ≡ true → time ≡ true → (form && date && time) ≡ true
all_three form date time e f g = rw (e, f, g) refl

-- the text of a date and a time of day is a stamp
text_is_stamp : (day y m d h i s : ℕ) → IsDateOf day y m d → h < 24 → i < 60 → s < 60 → is_stamp (stamp_text y m d h i s) ≡ true
unfolding is_stamp is_stamp_date is_stamp_time
text_is_stamp day y m d h i s date h_in i_in s_in =
    let form = form_holds y m d h i s date.year_bound date.month_bound date.day_bound (omega arith) (omega arith) (omega arith) in
    let dated = same_day y m d (digits_value 10 (four_digits y)) (digits_value 10 (two_digits m)) (digits_value 10 (two_digits d))
    (four_value y date.year_bound) (two_value m date.month_bound) (two_value d date.day_bound) date.valid in
    let timed = same_time h i s (digits_value 10 (two_digits h)) (digits_value 10 (two_digits i)) (digits_value 10 (two_digits s))
    (two_value h (omega arith)) (two_value i (omega arith)) (two_value s (omega arith)) (is_time-true h i s h_in i_in s_in) in
    all_three _ _ _ form dated timed

-- and names the moment that they make
text_names : (day y m d h i s : ℕ) → IsDateOf day y m d → h < 24 → i < 60 → s < 60 → stamp_seconds (stamp_text y m d h i s) ≡ 86_400 * day + second_of_day h i s
unfolding stamp_seconds stamp_day_number stamp_second_of_day
text_names day y m d h i s date h_in i_in s_in =
    let days = same_number y m d (digits_value 10 (four_digits y)) (digits_value 10 (two_digits m)) (digits_value 10 (two_digits d))
    (four_value y date.year_bound) (two_value m date.month_bound) (two_value d date.day_bound) ∙ date.number in
    let seconds = same_second h i s (digits_value 10 (two_digits h)) (digits_value 10 (two_digits i)) (digits_value 10 (two_digits s))
    (two_value h (omega arith)) (two_value i (omega arith)) (two_value s (omega arith)) in
    ap₂ (λ (a b : ℕ). 86_400 * a + b) days seconds

-- ---- the stamp of a moment

stamp_is_stamp : (moment : ℕ) → moment ≤ last_moment → is_stamp (stamp_of moment) ≡ true
unfolding stamp_of
stamp_is_stamp moment bound =
    let day = moment / 86_400 in
    let time = moment % 86_400 in
    text_is_stamp day (year_of day) (month_of day) (month_day_of day) (time / 3_600) (time / 60 % 60) (time % 60)
    (date_holds day (omega arith)) (omega arith) (omega arith) (omega arith)

stamp_names : (moment : ℕ) → moment ≤ last_moment → stamp_seconds (stamp_of moment) ≡ moment
unfolding stamp_of
stamp_names moment bound =
    let day = moment / 86_400 in
    let time = moment % 86_400 in
    let names = text_names day (year_of day) (month_of day) (month_day_of day) (time / 3_600) (time / 60 % 60) (time % 60)
    (date_holds day (omega arith)) (omega arith) (omega arith) (omega arith) in
    let whole : 86_400 * day + second_of_day (time / 3_600) (time / 60 % 60) (time % 60) ≡ moment = omega arith in
    names ∙ whole

-- the text of a moment is the stamp that names it, spelled out
pub timestamp_is : OneStampForEachMoment → (moment : ℕ) (stamp : List ℕ) → moment ≤ last_moment → IsTrue (is_stamp stamp) → stamp_seconds stamp ≡ moment → timestamp moment ≡ spelled_out stamp
unfolding timestamp
timestamp_is one moment stamp bound valid names =
    ap spelled_out (one (stamp_of moment) stamp (stamp_is_stamp moment bound) valid (stamp_names moment bound ∙ sym names))
