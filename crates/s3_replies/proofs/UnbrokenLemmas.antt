-- No line of a reply has a carriage return in it.
use Rattle.std.proofs.Common.{◌≡◌, ℕ, zero, suc, ◌+◌, ◌-◌, ◌/◌, ◌%◌, ◌&&◌, Bool, true, false, not, List, [], ◌∷◌, ◌++◌, refl, ◌∙◌, arith, codes, slice_index_or, Some, None}
use Rattle.std.specs.Prelude.{◌==◌, if◌then◌else◌, decimal}
use Rattle.std.specs.Fmt.{digit_glyph, digits, digits_onto}
use Rattle.std.proofs.lemmas.Bool.Decides.{nat_tests}
use Rattle.std.specs.List.{list_all}
use Rattle.std.specs.Int.{w64, to_be_bytes}
use Rattle.std.proofs.lemmas.List.Folds.{list_all-append}
use Rattle.hex.specs.Hex.{encode_lower, encode_with, lower_digits}
use Rattle.httpdate.specs.declared.parts.Parts.{Parts}
use Rattle.httpdate.specs.Text.{day_name, month_name, two_digits, four_digits, time_of_day, imf_fixdate}
use Rattle.s3_text.specs.Digits.{number_digits}
use Rattle.s3_names.specs.Tags.{joined_text}
use Rattle.s3_names.specs.Ids.{numbered_id, version_id_text}
use Rattle.s3_names.specs.declared.ids.VersionId.{VersionId}
use Rattle.s3_names.specs.declared.ids.VersionId.TheVariants.{Null, Numbered}
use Rattle.s3_replies.specs.Lines.{Line}
use Rattle.s3_replies.specs.Replies.{content_range}
use Rattle.s3_replies.specs.Laws.{is_unbroken, is_whole_line, TagsAreUnbroken}

-- two texts without one, joined, have none
pub joined : (xs ys : List ℕ) → is_unbroken xs ≡ true → is_unbroken ys ≡ true → is_unbroken (xs ++ ys) ≡ true
joined xs ys x y = list_all-append (λ b. not (b == 13)) xs ys ∙ rw (x, y) refl

pub lines_joined : (xs ys : List Line) → list_all is_whole_line xs ≡ true → list_all is_whole_line ys ≡ true → list_all is_whole_line (xs ++ ys) ≡ true
lines_joined xs ys x y = list_all-append is_whole_line xs ys ∙ rw (x, y) refl

pub both_true : (a b : Bool) → (a && b) ≡ true → (a ≡ true) × (b ≡ true)
both_true true b both = (refl, both)
both_true false b both = absurd (cc)

-- one of some texts without one has none
one_of : (texts : List (List ℕ)) (i : ℕ) → list_all is_unbroken texts ≡ true → is_unbroken (slice_index_or texts i []) ≡ true
one_of [] i all = refl
one_of (text ∷ texts) zero all = (both_true (is_unbroken text) (list_all is_unbroken texts) all).0
one_of (text ∷ texts) (suc i) all = one_of texts i (both_true (is_unbroken text) (list_all is_unbroken texts) all).1

byte_of : (bytes : List ℕ) (i : ℕ) → is_unbroken bytes ≡ true → not (slice_index_or bytes i 0 == 13) ≡ true
byte_of [] i all = refl
byte_of (b ∷ bytes) zero all = (both_true (not (b == 13)) (is_unbroken bytes) all).0
byte_of (b ∷ bytes) (suc i) all = byte_of bytes i (both_true (not (b == 13)) (is_unbroken bytes) all).1

pub hex_unbroken : (bytes : List ℕ) → is_unbroken (encode_lower bytes) ≡ true
unfolding encode_with
hex_unbroken [] = refl
hex_unbroken (b ∷ bytes) = rw (byte_of lower_digits (b / 16) refl, byte_of lower_digits (b % 16) refl) (hex_unbroken bytes)

pub number_unbroken : (n : ℕ) → is_unbroken (number_digits n) ≡ true
unfolding number_digits
number_unbroken n = hex_unbroken (to_be_bytes w64 n)

pub id_unbroken : (id : VersionId) → is_unbroken (version_id_text id) ≡ true
unfolding numbered_id
id_unbroken Null = refl
id_unbroken (Numbered number) = number_unbroken number

-- nor has a number in decimal digits
glyph_unbroken : (d : ℕ) → not (digit_glyph false d == 13) ≡ true
glyph_unbroken d = grind (arith, nat_tests)

either_unbroken : (b : Bool) (x y : List ℕ) → is_unbroken x ≡ true → is_unbroken y ≡ true → is_unbroken (if b then x else y) ≡ true
either_unbroken true x y first second = first
either_unbroken false x y first second = second

more_digits_unbroken : (k n : ℕ) (rest : List ℕ) → is_unbroken rest ≡ true → is_unbroken (digits_onto k 10 false n rest) ≡ true
more_digits_unbroken zero n rest are = are
more_digits_unbroken (suc k) n rest are =
    let more : is_unbroken (digit_glyph false (n % 10) ∷ rest) ≡ true = rw (glyph_unbroken (n % 10)) are in
    either_unbroken (n / 10 == 0) (digit_glyph false (n % 10) ∷ rest) (digits_onto k 10 false (n / 10) (digit_glyph false (n % 10) ∷ rest))
    more (more_digits_unbroken k (n / 10) (digit_glyph false (n % 10) ∷ rest) more)

pub decimal_unbroken : (n : ℕ) → is_unbroken (decimal n) ≡ true
unfolding digits
decimal_unbroken n = more_digits_unbroken 64 n [] refl

pub tags_are_unbroken : TagsAreUnbroken
unfolding joined_text
tags_are_unbroken digest None = hex_unbroken digest
tags_are_unbroken digest (Some parts) = joined (encode_lower digest) (45 ∷ decimal parts) (hex_unbroken digest) (decimal_unbroken parts)

pub range_unbroken : (first last size : ℕ) → is_unbroken (content_range first last size) ≡ true
range_unbroken first last size =
    let begun = codes "bytes " ++ decimal first in
    let ended = begun ++ codes "-" ++ decimal last in
    joined (ended ++ codes "/") (decimal size)
    (joined ended (codes "/")
    (joined (begun ++ codes "-") (decimal last) (joined begun (codes "-") (joined (codes "bytes ") (decimal first) refl (decimal_unbroken first)) refl) (decimal_unbroken last))
    refl)
    (decimal_unbroken size)

digit_unbroken : (d : ℕ) → not (48 + d == 13) ≡ true
digit_unbroken d = grind arith

two_unbroken : (n : ℕ) → is_unbroken (two_digits n) ≡ true
two_unbroken n = rw (digit_unbroken (n / 10), digit_unbroken (n % 10)) refl

four_unbroken : (n : ℕ) → is_unbroken (four_digits n) ≡ true
four_unbroken n = joined (two_digits (n / 100)) (two_digits (n % 100)) (two_unbroken (n / 100)) (two_unbroken (n % 100))

time_unbroken : (p : Parts) → is_unbroken (time_of_day p) ≡ true
time_unbroken p =
    let hour = two_digits p.hour ++ codes ":" in
    let minute = hour ++ two_digits p.min in
    joined (minute ++ codes ":") (two_digits p.sec)
    (joined minute (codes ":") (joined hour (two_digits p.min) (joined (two_digits p.hour) (codes ":") (two_unbroken p.hour) refl) (two_unbroken p.min)) refl)
    (two_unbroken p.sec)

day_unbroken : (wday : ℕ) → is_unbroken (day_name wday) ≡ true
day_unbroken wday =
    one_of (codes "Mon" ∷ codes "Tue" ∷ codes "Wed" ∷ codes "Thu" ∷ codes "Fri" ∷ codes "Sat" ∷ codes "Sun" ∷ []) (wday - 1) refl

month_unbroken : (mon : ℕ) → is_unbroken (month_name mon) ≡ true
month_unbroken mon =
    one_of (codes "Jan" ∷ codes "Feb" ∷ codes "Mar" ∷ codes "Apr" ∷ codes "May" ∷ codes "Jun"
    ∷ codes "Jul" ∷ codes "Aug" ∷ codes "Sep" ∷ codes "Oct" ∷ codes "Nov" ∷ codes "Dec" ∷ []) (mon - 1) refl

pub date_unbroken : (p : Parts) → is_unbroken (imf_fixdate p) ≡ true
date_unbroken p =
    let named = day_name p.wday ++ codes ", " in
    let day = named ++ two_digits p.day in
    let month = day ++ codes " " ++ month_name p.mon in
    let year = month ++ codes " " ++ four_digits p.year in
    let time = year ++ codes " " ++ time_of_day p in
    let day_is = joined named (two_digits p.day) (joined (day_name p.wday) (codes ", ") (day_unbroken p.wday) refl) (two_unbroken p.day) in
    let month_is = joined (day ++ codes " ") (month_name p.mon) (joined day (codes " ") day_is refl) (month_unbroken p.mon) in
    let year_is = joined (month ++ codes " ") (four_digits p.year) (joined month (codes " ") month_is refl) (four_unbroken p.year) in
    let time_is = joined (year ++ codes " ") (time_of_day p) (joined year (codes " ") year_is refl) (time_unbroken p) in
    joined time (codes " GMT") time_is refl
