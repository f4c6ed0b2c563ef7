-- Texts in which nothing is escaped: digits, and moments.
use Rattle.std.proofs.Common.{◌≡◌, refl, ap₂, ◌∙◌, subst, ◌==◌, ◌+◌, ◌≤◌, Bool, true, false, nat_lt, ℕ, zero, suc, List, [], ◌∷◌, ◌++◌, take, drop, IsTrue, arith, codes}
use Rattle.std.specs.Char.{is_ascii_digit}
use Rattle.std.specs.List.{list_all}
use Rattle.std.proofs.lemmas.Bool.{and_parts}
use Rattle.std.proofs.lemmas.Bool.Decides.{nat_tests}
use Rattle.std.proofs.lemmas.List.{drop-drop}
use Rattle.std.proofs.lemmas.List.Concat.{flat_map-append}
use Rattle.json.specs.Print.{escape, escape_byte}
use Rattle.s3_names.specs.Tags.{is_tag_character}
use Rattle.s3_calendar.specs.Moment.{is_stamp}
use Rattle.s3_documents.specs.Timestamp.{spelled_out}

-- ---- bytes

differs : (a b : ℕ) → ¬ (a ≡ b) → (a == b) ≡ false
differs a b other = grind (arith, nat_tests)

not_below : (a b : ℕ) → b ≤ a → nat_lt a b ≡ false
not_below a b h = grind (arith, nat_tests)

plain_byte : (b : ℕ) → 32 ≤ b → ¬ (b ≡ 34) → ¬ (b ≡ 92) → escape_byte b ≡ b ∷ []
unfolding escape_byte
plain_byte b above quote slash =
    let a = differs b 34 quote in
    let c = differs b 92 slash in
    let d = differs b 8 (λ e. omega arith) in
    let f = differs b 12 (λ e. omega arith) in
    let g = differs b 10 (λ e. omega arith) in
    let h = differs b 13 (λ e. omega arith) in
    let i = differs b 9 (λ e. omega arith) in
    let j = not_below b 32 above in
    rw (a, c, d, f, g, h, i, j) refl

digit_plain : (b : ℕ) → is_ascii_digit b ≡ true → escape_byte b ≡ b ∷ []
digit_plain b h =
    let low : 48 ≤ b = grind (arith, nat_tests) in
    let high : b ≤ 57 = grind (arith, nat_tests) in
    plain_byte b (omega arith) (λ e. omega arith) (λ e. omega arith)

tag_character_bounds : (b : ℕ) → is_tag_character b ≡ true → (45 ≤ b) × ¬ (b ≡ 92)
tag_character_bounds b h = (grind (arith, nat_tests), λ e. grind (arith, nat_tests))

tag_character_plain : (b : ℕ) → is_tag_character b ≡ true → escape_byte b ≡ b ∷ []
tag_character_plain b h =
    let range = tag_character_bounds b h in
    plain_byte b (omega (arith, range.0)) (λ e. omega (arith, range.0)) range.1

-- ---- texts

-- a text of bytes that pass a test, where these are plain
all_plain : (test : ℕ → Bool) → ((b : ℕ) → test b ≡ true → escape_byte b ≡ b ∷ []) → (bs : List ℕ) → list_all test bs ≡ true → escape bs ≡ bs
all_plain test plain [] h = refl
all_plain test plain (b ∷ bs) h =
    let parts = and_parts (test b) (list_all test bs) h in
    ap₂ (λ (front rest : List ℕ). front ++ rest) (plain b parts.0) (all_plain test plain bs parts.1)

pub tag_plain : (tag : List ℕ) → list_all is_tag_character tag ≡ true → escape tag ≡ tag
tag_plain tag h = all_plain is_tag_character tag_character_plain tag h

digits_plain : (bs : List ℕ) → list_all is_ascii_digit bs ≡ true → escape bs ≡ bs
digits_plain bs h = all_plain is_ascii_digit digit_plain bs h

plain_joined : (xs ys : List ℕ) → escape xs ≡ xs → escape ys ≡ ys → escape (xs ++ ys) ≡ xs ++ ys
plain_joined xs ys x y = flat_map-append escape_byte xs ys ∙ ap₂ (λ (a b : List ℕ). a ++ b) x y

-- ---- parts of digits

take_all : (test : ℕ → Bool) (n : ℕ) (bs : List ℕ) → list_all test bs ≡ true → list_all test (take n bs) ≡ true
take_all test zero bs h = refl
take_all test (suc n) [] h = refl
take_all test (suc n) (b ∷ bs) h =
    let parts = and_parts (test b) (list_all test bs) h in
    rw (parts.0) (take_all test n bs parts.1)

-- fewer of those that come first, from a place on
part_all : (test : ℕ → Bool) (a k n : ℕ) (bs : List ℕ) → a + k ≤ n → list_all test (take n bs) ≡ true → list_all test (take k (drop a bs)) ≡ true
part_all test zero zero n bs within h = refl
part_all test zero (suc k) zero bs within h = absurd (omega arith)
part_all test zero (suc k) (suc n) [] within h = refl
part_all test zero (suc k) (suc n) (b ∷ bs) within h =
    let parts = and_parts (test b) (list_all test (take n bs)) h in
    rw (parts.0) (part_all test zero k n bs (omega arith) parts.1)
part_all test (suc a) k zero bs within h = absurd (omega arith)
part_all test (suc a) zero (suc n) [] within h = refl
part_all test (suc a) (suc k) (suc n) [] within h = refl
part_all test (suc a) k (suc n) (b ∷ bs) within h =
    part_all test a k n bs (omega arith) (and_parts (test b) (list_all test (take n bs)) h).1

-- ---- moments

hyphen_plain : escape (codes "-") ≡ codes "-"
unfolding escape_byte
hyphen_plain = refl

letter_plain : escape (codes "T") ≡ codes "T"
unfolding escape_byte
letter_plain = refl

colon_plain : escape (codes ":") ≡ codes ":"
unfolding escape_byte
colon_plain = refl

ending_plain : escape (codes ".000Z") ≡ codes ".000Z"
unfolding escape_byte
ending_plain = refl

-- a moment's text has what its digits and its signs have, where texts that are joined have it
pub spelled_has : (P : List ℕ → Type 0) → ((xs ys : List ℕ) → P xs → P ys → P (xs ++ ys)) → ((bs : List ℕ) → list_all is_ascii_digit bs ≡ true → P bs)
    → P (codes "-") → P (codes "T") → P (codes ":") → P (codes ".000Z") → (t : List ℕ) → IsTrue (is_stamp t) → P (spelled_out t)
unfolding is_stamp
spelled_has P joined digits hyphen letter colon ending t valid =
    let form = (and_parts _ _ (and_parts _ _ valid).0).0 in
    let upto_time = (and_parts _ _ form).0 in
    let time = (and_parts _ _ upto_time).1 in
    let date = (and_parts _ _ (and_parts _ _ (and_parts _ _ upto_time).0).0).1 in
    let part : (bs : List ℕ) (n a k : ℕ) → a + k ≤ n → list_all is_ascii_digit (take n bs) ≡ true → P (take k (drop a bs)) =
    λ bs n a k within h. digits (take k (drop a bs)) (part_all is_ascii_digit a k n bs within h) in
    let of_time : (a k : ℕ) → a + k ≤ 6 → P (take k (drop (9 + a) t)) =
    λ a k within. subst (λ xs. P (take k xs)) (drop-drop a 9 t) (part (drop 9 t) 6 a k within time) in
    let to_month = joined _ _ (joined _ _ (part t 8 0 4 (omega arith) date) hyphen) (part t 8 4 2 (omega arith) date) in
    let to_day = joined _ _ (joined _ _ to_month hyphen) (part t 8 6 2 (omega arith) date) in
    let to_hour = joined _ _ (joined _ _ to_day letter) (part (drop 9 t) 6 0 2 (omega arith) time) in
    let to_minute = joined _ _ (joined _ _ to_hour colon) (of_time 2 2 (omega arith)) in
    let to_second = joined _ _ (joined _ _ to_minute colon) (of_time 4 2 (omega arith)) in
    joined _ _ to_second ending

pub spelled_plain : (t : List ℕ) → IsTrue (is_stamp t) → escape (spelled_out t) ≡ spelled_out t
spelled_plain t valid =
    spelled_has (λ s. escape s ≡ s) plain_joined digits_plain hyphen_plain letter_plain colon_plain ending_plain t valid
