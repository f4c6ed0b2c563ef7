-- A stamp is the only one of its moment.
use Rattle.std.proofs.Common.{◌≡◌, ℕ, ◌+◌, ◌*◌, ◌/◌, ◌%◌, ◌<◌, ◌≤◌, ◌&&◌, ◌==◌, true, List, [], ◌∷◌, ◌++◌, sym, ap, ◌∙◌, arith, pos}
use Rattle.std.specs.List.{list_all}
use Rattle.std.specs.Char.{is_ascii_digit, digit_value}
use Rattle.std.specs.Str.Parse.{digits_value}
use Rattle.std.proofs.lemmas.Bool.{and_parts, eqb-true}
use Rattle.std.proofs.lemmas.Bool.Decides.{nat_tests}
use Rattle.jiff_core.specs.declared.civil.date.Date.{Date}
use Rattle.jiff_core.specs.Calendar.{IsDate}
use Rattle.jiff_core.specs.Date.{epoch_day}
use Rattle.jiff_core.proofs.SignedLemmas.{signed_arith}
use Rattle.jiff_core.proofs.DateLemmas.{epoch_day_injective}
use Rattle.s3_calendar.specs.Moment.{is_day, is_time, day_number, second_of_day, is_stamp_form, is_stamp_date, is_stamp_time, stamp_year, stamp_month, stamp_day, stamp_hour, stamp_minute, stamp_second, stamp_day_number, stamp_second_of_day, is_stamp, stamp_seconds}
use Rattle.s3_calendar.proofs.MomentLemmas.{date_from_test, epoch_day-from_year, form_length, pos-unsigned_abs}

-- ---- the text that its parts spell

abbrev two : ℕ → List ℕ
two n = (48 + n / 10) ∷ (48 + n % 10) ∷ []

abbrev four : ℕ → List ℕ
four n = (48 + n / 1000) ∷ (48 + n / 100 % 10) ∷ (48 + n / 10 % 10) ∷ (48 + n % 10) ∷ []

abbrev text_of : (year month day hour minute second : ℕ) → List ℕ
text_of year month day hour minute second =
    four year ++ two month ++ two day ++ 84 ∷ two hour ++ two minute ++ two second ++ 90 ∷ []

digit_value-of_digit : (c : ℕ) → is_ascii_digit c ≡ true → (digit_value c + 48 ≡ c) × (digit_value c < 10)
digit_value-of_digit c h = grind (arith, nat_tests)

two_spelled : (a b : ℕ) (rest : List ℕ) → list_all is_ascii_digit (a ∷ b ∷ rest) ≡ true → (a ∷ b ∷ [] ≡ two (digits_value 10 (a ∷ b ∷ []))) × (digits_value 10 (a ∷ b ∷ []) < 100) × (list_all is_ascii_digit rest ≡ true)
two_spelled a b rest h =
    let first = and_parts (is_ascii_digit a) _ h in
    let second = and_parts (is_ascii_digit b) _ first.1 in
    let of_a = digit_value-of_digit a first.0 in
    let of_b = digit_value-of_digit b second.0 in
    let high : a ≡ 48 + digits_value 10 (a ∷ b ∷ []) / 10 = omega arith in
    let low : b ≡ 48 + digits_value 10 (a ∷ b ∷ []) % 10 = omega arith in
    (cc, omega arith, second.1)

four_same : (a b c d p q r s : ℕ) → a ≡ p → b ≡ q → c ≡ r → d ≡ s → a ∷ b ∷ c ∷ d ∷ [] ≡ p ∷ q ∷ r ∷ s ∷ []
four_same a b c d p q r s e f g h = rw (e, f, g, h)

four_spelled : (a b c d : ℕ) (rest : List ℕ) → list_all is_ascii_digit (a ∷ b ∷ c ∷ d ∷ rest) ≡ true → (a ∷ b ∷ c ∷ d ∷ [] ≡ four (digits_value 10 (a ∷ b ∷ c ∷ d ∷ []))) × (digits_value 10 (a ∷ b ∷ c ∷ d ∷ []) < 10_000) × (list_all is_ascii_digit rest ≡ true)
four_spelled a b c d rest h =
    let first = and_parts (is_ascii_digit a) _ h in
    let second = and_parts (is_ascii_digit b) _ first.1 in
    let third = and_parts (is_ascii_digit c) _ second.1 in
    let fourth = and_parts (is_ascii_digit d) _ third.1 in
    let of_a = digit_value-of_digit a first.0 in
    let of_b = digit_value-of_digit b second.0 in
    let of_c = digit_value-of_digit c third.0 in
    let of_d = digit_value-of_digit d fourth.0 in
    (four_same a b c d _ _ _ _ (omega arith) (omega arith) (omega arith) (omega arith), omega arith, fourth.1)

-- the two digits of a number under 100 spell it
pub two_written : (n a b : ℕ) → n < 100 → a ≡ 48 + n / 10 → b ≡ 48 + n % 10 → digits_value 10 (a ∷ b ∷ []) ≡ n
two_written n a b short high low =
    let first : is_ascii_digit a ≡ true = grind (arith, nat_tests) in
    let second : is_ascii_digit b ≡ true = grind (arith, nat_tests) in
    omega (arith, digit_value-of_digit a first, digit_value-of_digit b second)

joined : (y y2 m m2 d d2 h h2 n n2 s s2 : List ℕ) (t z : ℕ) → y ≡ y2 → m ≡ m2 → d ≡ d2 → h ≡ h2 → n ≡ n2 → s ≡ s2 → t ≡ 84 → z ≡ 90 → y ++ m ++ d ++ t ∷ h ++ n ++ s ++ z ∷ [] ≡ y2 ++ m2 ++ d2 ++ 84 ∷ h2 ++ n2 ++ s2 ++ 90 ∷ []
joined y y2 m m2 d d2 h h2 n n2 s s2 t z one two three four five six letter ending = rw (one, two, three, four, five, six, letter, ending)

-- a text of the right form is the one that its parts spell, and its year has four digits
spelled : (t : List ℕ) → is_stamp_form t ≡ true → (t ≡ text_of (stamp_year t) (stamp_month t) (stamp_day t) (stamp_hour t) (stamp_minute t) (stamp_second t)) × (stamp_year t < 10_000)
spelled (a ∷ b ∷ c ∷ d ∷ e ∷ f ∷ g ∷ h ∷ i ∷ j ∷ k ∷ l ∷ m ∷ n ∷ o ∷ p ∷ []) form =
    let marked = and_parts _ (p == 90) form in
    let before = and_parts _ (list_all is_ascii_digit (j ∷ k ∷ l ∷ m ∷ n ∷ o ∷ [])) marked.0 in
    let lettered = and_parts _ (i == 84) before.0 in
    let date = (and_parts (16 == 16) (list_all is_ascii_digit (a ∷ b ∷ c ∷ d ∷ e ∷ f ∷ g ∷ h ∷ [])) lettered.0).1 in
    let year = four_spelled a b c d (e ∷ f ∷ g ∷ h ∷ []) date in
    let month = two_spelled e f (g ∷ h ∷ []) year.2 in
    let day = two_spelled g h [] month.2 in
    let hour = two_spelled j k (l ∷ m ∷ n ∷ o ∷ []) before.1 in
    let minute = two_spelled l m (n ∷ o ∷ []) hour.2 in
    let second = two_spelled n o [] minute.2 in
    (joined (a ∷ b ∷ c ∷ d ∷ []) _ (e ∷ f ∷ []) _ (g ∷ h ∷ []) _ (j ∷ k ∷ []) _ (l ∷ m ∷ []) _ (n ∷ o ∷ []) _ i p year.0 month.0 day.0 hour.0 minute.0 second.0 (eqb-true i 84 lettered.1) (eqb-true p 90 marked.1), year.1)
spelled t form = absurd (omega (arith, form_length t form))

-- ---- the parts that a moment has

abbrev date_of : (y m d : ℕ) → IsDate (pos y) (pos m) (pos d) → Date
date_of y m d h = record { year = pos y; month = m; day = d; year_in = h.0; month_in = (omega (arith, signed_arith), omega (arith, signed_arith)); day_in = (omega (arith, signed_arith), omega (arith, signed_arith)) }

is_day-late : (y m d : ℕ) → is_day y m d ≡ true → 1970 ≤ y
is_day-late y m d e = grind (arith, nat_tests)

-- days with one number are one day
same_day : (y m d y2 m2 d2 : ℕ) → y < 10_000 → y2 < 10_000 → is_day y m d ≡ true → is_day y2 m2 d2 ≡ true → day_number y m d ≡ day_number y2 m2 d2 → (y ≡ y2) × (m ≡ m2) × (d ≡ d2)
same_day y m d y2 m2 d2 short short2 h k e =
    let one = date_of y m d (date_from_test y m d short h) in
    let two = date_of y2 m2 d2 (date_from_test y2 m2 d2 short2 k) in
    let late = is_day-late y m d h in
    let late2 = is_day-late y2 m2 d2 k in
    let back = pos-unsigned_abs (epoch_day one) (epoch_day-from_year one (omega (arith, signed_arith))) in
    let back2 = pos-unsigned_abs (epoch_day two) (epoch_day-from_year two (omega (arith, signed_arith))) in
    let same = epoch_day_injective one two (sym back ∙ ap pos e ∙ back2) in
    (omega (arith, signed_arith, same.0), same.1, same.2)

is_time-bounds : (h m s : ℕ) → is_time h m s ≡ true → (h < 24) × (m < 60) × (s < 60)
is_time-bounds h m s e = (grind (arith, nat_tests), grind (arith, nat_tests), grind (arith, nat_tests))

-- moments with one number have one day and one time of day
same_moment : (day day2 h m s h2 m2 s2 : ℕ) → is_time h m s ≡ true → is_time h2 m2 s2 ≡ true → 86_400 * day + second_of_day h m s ≡ 86_400 * day2 + second_of_day h2 m2 s2 → (day ≡ day2) × (h ≡ h2) × (m ≡ m2) × (s ≡ s2)
same_moment day day2 h m s h2 m2 s2 one two e =
    let within = is_time-bounds h m s one in
    let within2 = is_time-bounds h2 m2 s2 two in
    (omega arith, omega arith, omega arith, omega arith)

-- two stamps of one moment are one text
pub stamps_same : (s t : List ℕ) → is_stamp s ≡ true → is_stamp t ≡ true → stamp_seconds s ≡ stamp_seconds t → s ≡ t
unfolding is_stamp is_stamp_date is_stamp_time stamp_seconds stamp_day_number stamp_second_of_day
stamps_same s t h k e =
    let of_s = and_parts (is_stamp_form s && is_stamp_date s) (is_stamp_time s) h in
    let of_t = and_parts (is_stamp_form t && is_stamp_date t) (is_stamp_time t) k in
    let first = and_parts (is_stamp_form s) (is_stamp_date s) of_s.0 in
    let second = and_parts (is_stamp_form t) (is_stamp_date t) of_t.0 in
    let text_s = spelled s first.0 in
    let text_t = spelled t second.0 in
    let same = same_moment (stamp_day_number s) (stamp_day_number t) _ _ _ _ _ _ of_s.1 of_t.1 e in
    let days = same_day _ _ _ _ _ _ text_s.1 text_t.1 first.1 second.1 same.0 in
    text_s.0 ∙ rw (days.0, days.1, days.2, same.1, same.2, same.3) (sym text_t.0)
