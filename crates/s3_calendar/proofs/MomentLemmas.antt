-- Days and times of the calendar, and the digits that spell them.
use Rattle.std.proofs.Common.{◌≡◌, ℕ, ◌+◌, ◌-◌, Bool, List, length, take, drop, ◌<◌, ◌≤◌, inl, inr, true, false, refl, to_z, arith, rules, ℤ, pos, negsuc, ◌≤ℤ◌, unsigned_abs, sym, ap, ◌∙◌}
use Rattle.std.specs.Int.{w8, w16}
use Rattle.std.proofs.lemmas.Int.{to_z_pos}
use Rattle.std.proofs.lemmas.Bool.{and_parts, eqb-true}
use Rattle.std.proofs.lemmas.List.{length-take, length-drop, drop-take, take-take, take-append-drop, drop-drop}
use Rattle.std.proofs.lemmas.List.Folds.{list_all-append}
use Rattle.std.specs.List.{list_all}
use Rattle.std.specs.Char.{is_ascii_digit}
use Rattle.std.proofs.lemmas.Bool.Decides.{nat_tests}
use Rattle.jiff_core.specs.declared.civil.date.Date.{Date}
use Rattle.jiff_core.specs.Calendar.{IsDate}
use Rattle.jiff_core.specs.Date.{epoch_day}
use Rattle.jiff_core.proofs.CalendarLemmas.{days_in_month_bounds}
use Rattle.jiff_core.proofs.SignedLemmas.{signed_arith}
use Rattle.jiff_core.proofs.DateLemmas.{cases_date, epoch_day-lt, epoch_day_same}
use Rattle.jiff_core.proofs.StandardFacts.{known_days}
use Rattle.s3_calendar.specs.Moment.{is_day, is_time, is_stamp_form, is_stamp}

first_day : Date
first_day = record { year = pos 1970; month = 1; day = 1; year_in = search rules; month_in = search rules; day_in = search rules }

first_day-epoch_day : epoch_day first_day ≡ pos 0
unfolding first_day
first_day-epoch_day = known_days.0

-- no day of a later year comes before 1970-01-01
pub epoch_day-from_year : (d : Date) → pos 1970 ≤ℤ d.year → pos 0 ≤ℤ epoch_day d
unfolding first_day
epoch_day-from_year d late =
    elim (cases_date d first_day) [
      | inl lt ↦ absurd (search (rules, d.month_in, d.day_in, lt))
      | inr (inl gt) ↦ omega (arith, signed_arith, epoch_day-lt first_day d gt, first_day-epoch_day)
      | inr (inr same) ↦ omega (arith, signed_arith, epoch_day_same d first_day same.0 same.1 same.2, first_day-epoch_day)
    ]

-- and no day from 1970-01-01 on is of an earlier year
pub year-from_epoch_day : (d : Date) → pos 0 ≤ℤ epoch_day d → pos 1970 ≤ℤ d.year
unfolding first_day
year-from_epoch_day d late =
    elim (cases_date d first_day) [
      | inl lt ↦ absurd (omega (arith, signed_arith, epoch_day-lt d first_day lt, first_day-epoch_day))
      | inr (inl gt) ↦ search (rules, gt)
      | inr (inr same) ↦ omega (arith, signed_arith, same.0)
    ]

-- a number between 0 and k is no more than k without its sign
pub unsigned_abs-le : (z : ℤ) (k : ℕ) → pos 0 ≤ℤ z → z ≤ℤ pos k → unsigned_abs z ≤ k
unsigned_abs-le (pos n) k low high = omega (arith, signed_arith)
unsigned_abs-le (negsuc n) k low high = absurd (omega (arith, signed_arith))

-- the days of the years 1970 to 9999 are the dates of `jiff`
pub is_day-true : (y m d : ℕ) → 1970 ≤ y → IsDate (pos y) (pos m) (pos d) → is_day y m d ≡ true
is_day-true y m d late h = grind (arith, nat_tests, signed_arith)

pub date_from_test : (y m d : ℕ) → y < 10_000 → is_day y m d ≡ true → IsDate (pos y) (pos m) (pos d)
date_from_test y m d short e = grind (arith, nat_tests, signed_arith)

no_true : (test : Bool) → (test ≡ true → false ≡ true) → false ≡ test
no_true true absent = absent refl
no_true false absent = refl

pub is_day-false : (y m d : ℕ) → y < 10_000 → (IsDate (pos y) (pos m) (pos d) → false ≡ true) → false ≡ is_day y m d
is_day-false y m d short absent = no_true (is_day y m d) (λ e. absent (date_from_test y m d short e))

-- the parts of a date from the year 1970 on have room in a stamp
pub short_date : (d : Date) → pos 1970 ≤ℤ d.year → (unsigned_abs d.year < 10_000) × (d.month < 100) × (d.day < 100)
short_date d late =
    (omega (arith, unsigned_abs-le d.year 9999 (omega (arith, signed_arith)) d.year_in.1), omega (arith, d.month_in), omega (arith, d.day_in, days_in_month_bounds d.year d.month))

pub is_time-true : (h m s : ℕ) → h < 24 → m < 60 → s < 60 → is_time h m s ≡ true
is_time-true h m s hour minute second = grind (arith, nat_tests)

-- numbers that short are the same as signed ones
pub as_signed : (y m d : ℕ) → y < 10_000 → m < 100 → d < 100 → (to_z w16 y ≡ pos y) × (to_z w8 m ≡ pos m) × (to_z w8 d ≡ pos d)
as_signed y m d year month day = (to_z_pos w16 y (omega arith), to_z_pos w8 m (omega arith), to_z_pos w8 d (omega arith))

-- what holds of each byte holds of those before and behind a place
list_all-cut : (p : ℕ → Bool) (n : ℕ) (xs : List ℕ) → list_all p xs ≡ true → (list_all p (take n xs) ≡ true) × (list_all p (drop n xs) ≡ true)
list_all-cut p n xs h =
    and_parts _ _ (sym (list_all-append p (take n xs) (drop n xs)) ∙ ap (list_all p) (take-append-drop n xs) ∙ h)

-- a part of a text of digits is one: n bytes from k on, of m bytes from a on
list_all-part : (p : ℕ → Bool) (a m k n : ℕ) (xs : List ℕ) → a ≤ k → k + n ≤ a + m → list_all p (take m (drop a xs)) ≡ true → list_all p (take n (drop k xs)) ≡ true
list_all-part p a m k n xs from room h =
    let j = k - a in
    let from_a : a + j ≡ k = omega arith in
    let whole : j + (m - j) ≡ m = omega arith in
    let rest : list_all p (drop j (take (j + (m - j)) (drop a xs))) ≡ true = rw whole (list_all-cut p j (take m (drop a xs)) h).1 in
    let cut = (list_all-cut p n _ (rw (drop-take j (m - j) (drop a xs)) at rest)).0 in
    rw (take-take n (m - j) (drop j (drop a xs)) (omega arith), drop-drop j a xs, from_a) at cut

-- the digits of a text of the right form
pub date_digits : (t : List ℕ) → is_stamp_form t ≡ true → list_all is_ascii_digit (take 8 t) ≡ true
date_digits t h = (and_parts _ _ (and_parts _ _ (and_parts _ _ (and_parts _ _ h).0).0).0).1

pub year_digits : (t : List ℕ) → is_stamp_form t ≡ true → list_all is_ascii_digit (take 4 t) ≡ true
year_digits t h = list_all-part is_ascii_digit 0 8 0 4 t (omega arith) (omega arith) (date_digits t h)

pub month_digits : (t : List ℕ) → is_stamp_form t ≡ true → list_all is_ascii_digit (take 2 (drop 4 t)) ≡ true
month_digits t h = list_all-part is_ascii_digit 0 8 4 2 t (omega arith) (omega arith) (date_digits t h)

pub day_digits : (t : List ℕ) → is_stamp_form t ≡ true → list_all is_ascii_digit (take 2 (drop 6 t)) ≡ true
day_digits t h = list_all-part is_ascii_digit 0 8 6 2 t (omega arith) (omega arith) (date_digits t h)

pub hour_digits : (t : List ℕ) → is_stamp_form t ≡ true → list_all is_ascii_digit (take 2 (drop 9 t)) ≡ true
hour_digits t h = list_all-part is_ascii_digit 9 6 9 2 t (omega arith) (omega arith) (and_parts _ _ (and_parts _ _ h).0).1

pub minute_digits : (t : List ℕ) → is_stamp_form t ≡ true → list_all is_ascii_digit (take 2 (drop 11 t)) ≡ true
minute_digits t h = list_all-part is_ascii_digit 9 6 11 2 t (omega arith) (omega arith) (and_parts _ _ (and_parts _ _ h).0).1

pub second_digits : (t : List ℕ) → is_stamp_form t ≡ true → list_all is_ascii_digit (take 2 (drop 13 t)) ≡ true
second_digits t h = list_all-part is_ascii_digit 9 6 13 2 t (omega arith) (omega arith) (and_parts _ _ (and_parts _ _ h).0).1

-- the text of a stamp has sixteen bytes
pub form_length : (t : List ℕ) → is_stamp_form t ≡ true → length t ≡ 16
form_length t h = eqb-true (length t) 16 (and_parts _ _ (and_parts _ _ (and_parts _ _ (and_parts _ _ h).0).0).0).0

-- and so a part of it has all of its bytes
pub part_length : (n k : ℕ) (t : List ℕ) → k + n ≤ 16 → is_stamp_form t ≡ true → length (take n (drop k t)) ≡ n
part_length n k t room h = grind (arith, length-take, length-drop, form_length t h)

pub length-stamp : (t : List ℕ) → is_stamp t ≡ true → length t ≡ 16
unfolding is_stamp
length-stamp t h = form_length t (and_parts _ _ (and_parts _ _ h).0).0

pub pos-unsigned_abs : (z : ℤ) → pos 0 ≤ℤ z → pos (unsigned_abs z) ≡ z
pos-unsigned_abs (pos n) low = refl
pos-unsigned_abs (negsuc n) low = absurd (omega (arith, signed_arith))

-- a date from the year 1970 on is a day
pub is_day-from_date : (date : Date) → pos 1970 ≤ℤ date.year → is_day (unsigned_abs date.year) date.month date.day ≡ true
is_day-from_date date late =
    let year = pos-unsigned_abs date.year (omega (arith, signed_arith)) in
    is_day-true (unsigned_abs date.year) date.month date.day (omega (arith, signed_arith)) (rw year (date.year_in, search (rules, date.month_in), search (rules, date.day_in)))

-- ---- for attributes to name

pub ruleset days = (signed_arith, to_z_pos, year-from_epoch_day)

pub ruleset dates = (signed_arith, nat_tests, to_z_pos, epoch_day-from_year)

pub ruleset day_numbers = (signed_arith, unsigned_abs-le)

pub ruleset digits = (day_digits, minute_digits, second_digits)

pub ruleset clocks = (nat_tests)

pub ruleset stamps = (length-stamp)
