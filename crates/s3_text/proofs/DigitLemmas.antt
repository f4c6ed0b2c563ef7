-- Digits and the numbers that they write.
use Rattle.std.proofs.Common.{◌≡◌, ℕ, zero, suc, ◌+◌, ◌*◌, ◌/◌, ◌%◌, ◌^◌, ◌<◌, ◌≤◌, Bool, true, ◌&&◌, List, [], ◌∷◌, ◌++◌, length, get_or, take, drop, refl, sym, ◌∙◌, ap, arith, append_assoc, slice_index}
use Rattle.std.proofs.lemmas.Bool.{and_parts}
use Rattle.std.proofs.lemmas.Bool.Decides.{nat_tests}
use Rattle.std.specs.List.{list_all}
use Rattle.std.specs.Char.{digit_value, digit_char, is_ascii_digit}
use Rattle.std.specs.Int.{w64, to_be_bytes, byte_at, bytes_high_first}
use Rattle.std.specs.Str.Parse.{AllDigits, digits_value}
use Rattle.std.proofs.Math.Nat.{pow-suc, div-div-eq-div-mul}
use Rattle.std.proofs.lemmas.List.{drop_more, drop_all, length-take-le, take-append-drop}
use Rattle.std.proofs.lemmas.List.Folds.{list_all-append}
use Rattle.std.proofs.lemmas.List.FromFn.{get_or-map-range_with_len}
use Rattle.std.proofs.lemmas.Int.Digits.{digits_value_more, digits_value_push, digits_value-lt}
use Rattle.std.proofs.lemmas.Str.{digit_value-digit_char}
use Rattle.std.proofs.lemmas.Str.Parse.{digits_value-take-le, digits_value_short, numerals_by_value, tells_digits}
use Rattle.hex.specs.Hex.{encode_with, encode_lower, lower_digits}
use Rattle.hex.proofs.HexLemmas.{length-encode_with}
use Rattle.s3_text.specs.Digits.{number_digits}
use Rattle.s3_text.specs.Characters.{is_lower_hex}

-- a digit that stands among digits
pub digit_below : (radix : ℕ) (ds : List ℕ) (i d : ℕ) → AllDigits radix ds → i < length ds → digit_value (get_or ds i d) < radix
digit_below radix [] i d h lt = absurd (omega arith)
digit_below radix (c ∷ cs) zero d h lt = h.0
digit_below radix (c ∷ cs) (suc i) d h lt = digit_below radix cs i d h.1 (omega arith)

-- the number of the digits up to one of them is not above that of all
pub number_so_far : (radix : ℕ) (ds : List ℕ) (i : ℕ) → 2 ≤ radix → i < length ds → digits_value radix (take i ds) * radix + digit_value (get_or ds i 0) ≤ digits_value radix ds
number_so_far radix ds i low lt =
    omega (arith, digits_value_more radix ds i lt, digits_value-take-le radix ds (i + 1) (omega arith))

-- and so the number of those before it has room, without and with that one
pub step_fits : (radix : ℕ) (ds : List ℕ) (i most : ℕ) → 2 ≤ radix → i < length ds → digits_value radix ds < most
    → (digits_value radix (take i ds) * radix < most) × (digits_value radix (take i ds) * radix + digit_value (get_or ds i 0) < most)
step_fits radix ds i most low lt room =
    let so_far = number_so_far radix ds i low lt in
    (omega (arith, so_far), omega (arith, so_far))

-- bytes that all pass a test of digits are digits
digits_by_test : (radix : ℕ) (p : ℕ → Bool) → ((c : ℕ) → p c ≡ true → digit_value c < radix) → (ds : List ℕ) → list_all p ds ≡ true → AllDigits radix ds
digits_by_test radix p digit [] h = tt
digits_by_test radix p digit (c ∷ cs) h =
    let both = and_parts (p c) (list_all p cs) h in
    (digit c both.0, digits_by_test radix p digit cs both.1)

decimal_below : (c : ℕ) → is_ascii_digit c ≡ true → digit_value c < 10
decimal_below c h = grind (arith, nat_tests)

-- what the test of decimal digits means
pub decimal_digits : (ds : List ℕ) → list_all is_ascii_digit ds ≡ true → AllDigits 10 ds
decimal_digits = digits_by_test 10 is_ascii_digit decimal_below

-- nineteen of them fit
pub decimal_room : (ds : List ℕ) → list_all is_ascii_digit ds ≡ true → length ds ≤ 19 → digits_value 10 ds < 2 ^ 64
decimal_room ds h le =
    omega (arith, digits_value_short (numerals_by_value (AllDigits 10) tells_digits) ds 19 (decimal_digits ds h) le)

-- a digit under sixteen is written in lower case
hex_char_lower : (d : ℕ) → d < 16 → is_lower_hex (digit_char d) ≡ true
hex_char_lower d h = grind (arith, nat_tests)

-- and a lower-case digit is written as it was read
hex_char_back : (c : ℕ) → is_lower_hex c ≡ true → (digit_value c < 16) × (digit_char (digit_value c) ≡ c)
hex_char_back c h = grind (arith, nat_tests)

-- what the test of lower-case hexadecimal digits means
pub hex_all_digits : (ds : List ℕ) → list_all is_lower_hex ds ≡ true → AllDigits 16 ds
hex_all_digits = digits_by_test 16 is_lower_hex (λ c h. (hex_char_back c h).0)

-- sixteen of them fit
pub hex_room : (ds : List ℕ) → list_all is_lower_hex ds ≡ true → length ds ≡ 16 → digits_value 16 ds < 2 ^ 64
hex_room ds h e = rw e at (digits_value-lt 16 ds (hex_all_digits ds h))

-- the table has the digits in their order
table_digit : (d : ℕ) → d < 16 → slice_index lower_digits d ≡ digit_char d
table_digit d lt = get_or-map-range_with_len digit_char 0 16 d d 0 lt (omega arith)

-- one more byte is two more digits
encode_push : (bytes : List ℕ) (b : ℕ) → b < 256 → encode_lower (bytes ++ b ∷ []) ≡ (encode_lower bytes ++ digit_char (b / 16) ∷ []) ++ digit_char (b % 16) ∷ []
unfolding encode_with
encode_push [] b lt = rw (table_digit (b / 16) (omega arith), table_digit (b % 16) (omega arith)) refl
encode_push (a ∷ bytes) b lt =
    ap (λ t. slice_index lower_digits (a / 16) ∷ slice_index lower_digits (a % 16) ∷ t) (encode_push bytes b lt)

-- the bytes of a number are those of its front, and its last one
byte_down : (i n : ℕ) → byte_at (suc i) n ≡ byte_at i (n / 256)
byte_down zero n = refl
byte_down (suc i) n =
    ap (λ q. q % 256) (ap (λ p. n / p) (omega (arith, pow-suc 256 (suc i))) ∙ sym (div-div-eq-div-mul n 256 (256 ^ suc i)))

bytes_push : (k n : ℕ) → bytes_high_first (suc k) n ≡ bytes_high_first k (n / 256) ++ n % 256 ∷ []
bytes_push zero n = refl
bytes_push (suc k) n = rw (byte_down k n, bytes_push k n) refl

-- one more byte of a number is two more digits
hex_push : (k n : ℕ) → encode_lower (bytes_high_first (suc k) n) ≡ (encode_lower (bytes_high_first k (n / 256)) ++ digit_char (n / 16 % 16) ∷ []) ++ digit_char (n % 16) ∷ []
hex_push k n =
    let high : n % 256 / 16 ≡ n / 16 % 16 = omega arith in
    let low : n % 256 % 16 ≡ n % 16 = omega arith in
    rw (bytes_push k n, encode_push (bytes_high_first k (n / 256)) (n % 256) (omega arith), high, low) refl

-- they are lower-case digits
hex_lower : (k n : ℕ) → list_all is_lower_hex (encode_lower (bytes_high_first k n)) ≡ true
unfolding encode_with
hex_lower zero n = refl
hex_lower (suc k) n =
    ap (list_all is_lower_hex) (hex_push k n)
    ∙ rw (list_all-append, list_all-append, hex_lower k (n / 256), hex_char_lower (n / 16 % 16) (omega arith), hex_char_lower (n % 16) (omega arith)) refl

-- they write the number, if there is room for it
hex_value : (k n : ℕ) → n < 256 ^ k → digits_value 16 (encode_lower (bytes_high_first k n)) ≡ n
unfolding encode_with
hex_value zero n h = omega arith
hex_value (suc k) n h =
    let room : n / 256 < 256 ^ k = omega (arith, pow-suc 256 k) in
    let front = encode_lower (bytes_high_first k (n / 256)) in
    rw (hex_push k n)
    (omega (arith, digits_value_push 16 (front ++ digit_char (n / 16 % 16) ∷ []) (digit_char (n % 16)), digits_value_push 16 front (digit_char (n / 16 % 16)), hex_value k (n / 256) room, digit_value-digit_char (n / 16 % 16) (omega arith), digit_value-digit_char (n % 16) (omega arith)))

hex_back_step : (k v : ℕ) (front : List ℕ) (a b : ℕ) → encode_lower (bytes_high_first k v) ≡ front → is_lower_hex a ≡ true → is_lower_hex b ≡ true → encode_lower (bytes_high_first (suc k) ((v * 16 + digit_value a) * 16 + digit_value b)) ≡ (front ++ a ∷ []) ++ b ∷ []
hex_back_step k v front a b e h i =
    let high = hex_char_back a h in
    let low = hex_char_back b i in
    let n = (v * 16 + digit_value a) * 16 + digit_value b in
    let before : n / 256 ≡ v = omega arith in
    let first : n / 16 % 16 ≡ digit_value a = omega arith in
    let second : n % 16 ≡ digit_value b = omega arith in
    hex_push k n ∙ rw (before, first, second, e, high.1, low.1) refl

-- and no other lower-case digits do
hex_back : (k : ℕ) (ds : List ℕ) → length ds ≡ 2 * k → list_all is_lower_hex ds ≡ true → encode_lower (bytes_high_first k (digits_value 16 ds)) ≡ ds
unfolding encode_with
hex_back zero [] e h = refl
hex_back zero (c ∷ cs) e h = absurd (omega arith)
hex_back (suc k) ds e h =
    let n = 2 * k in
    let front = take n ds in
    let a = get_or ds n 0 in
    let b = get_or ds (n + 1) 0 in
    let first = drop_more ds n 0 (omega arith) in
    let second = drop_more ds (n + 1) 0 (omega arith) in
    let none : drop (n + 1 + 1) ds ≡ [] = drop_all (n + 1 + 1) ds (omega arith) in
    let split : ds ≡ (front ++ a ∷ []) ++ b ∷ [] = sym (take-append-drop n ds) ∙ rw (first, second, none, append_assoc) refl in
    let last = and_parts (list_all is_lower_hex (front ++ a ∷ [])) (is_lower_hex b && true) (sym (list_all-append is_lower_hex (front ++ a ∷ []) (b ∷ [])) ∙ rw (← split) h) in
    let before = and_parts (list_all is_lower_hex front) (is_lower_hex a && true) (sym (list_all-append is_lower_hex front (a ∷ [])) ∙ last.0) in
    let whole : digits_value 16 ((front ++ a ∷ []) ++ b ∷ []) ≡ (digits_value 16 front * 16 + digit_value a) * 16 + digit_value b =
    digits_value_push 16 (front ++ a ∷ []) b ∙ ap (λ v. v * 16 + digit_value b) (digits_value_push 16 front a) in
    let back = hex_back k front (length-take-le n ds (omega arith)) before.0 in
    ap (λ t. encode_lower (bytes_high_first (suc k) (digits_value 16 t))) split
    ∙ ap (λ v. encode_lower (bytes_high_first (suc k) v)) whole
    ∙ hex_back_step k (digits_value 16 front) front a b back (and_parts (is_lower_hex a) true before.1).0 (and_parts (is_lower_hex b) true last.1).0
    ∙ sym split

-- ---- the sixteen digits of a number of 64 bits

pub number_digits_length : (n : ℕ) → length (number_digits n) ≡ 16
unfolding number_digits
number_digits_length n = length-encode_with lower_digits (to_be_bytes w64 n)

pub number_digits_lower : (n : ℕ) → list_all is_lower_hex (number_digits n) ≡ true
unfolding number_digits
number_digits_lower n = hex_lower 8 n

-- they spell the number
pub number_digits_value : (n : ℕ) → n < 2 ^ 64 → digits_value 16 (number_digits n) ≡ n
unfolding number_digits
number_digits_value n fits = hex_value 8 n fits

-- and no other sixteen do
pub number_digits_back : (ds : List ℕ) → length ds ≡ 16 → list_all is_lower_hex ds ≡ true → number_digits (digits_value 16 ds) ≡ ds
unfolding number_digits
number_digits_back ds e h = hex_back 8 ds e h
