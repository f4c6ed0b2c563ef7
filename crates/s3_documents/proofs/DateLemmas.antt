-- The bytes of a moment's text are of ASCII.
use Rattle.std.proofs.Common.{◌≡◌, subst, ◌+◌, ◌≤◌, ◌<◌, ℕ, zero, suc, List, [], ◌∷◌, take, drop, IsTrue, IsAscii, true, arith, lit<, codes}
use Rattle.std.specs.Char.{is_ascii_digit}
use Rattle.std.specs.List.{list_all, slice_range}
use Rattle.std.proofs.lemmas.Bool.{and_parts}
use Rattle.std.proofs.lemmas.Bool.Decides.{nat_tests}
use Rattle.std.proofs.lemmas.List.{drop-take, drop-drop, take-take}
use Rattle.std.proofs.lemmas.Str.{IsAscii-drop, IsAscii-take, IsAscii-append}
use Rattle.s3_calendar.specs.Moment.{is_stamp}
use Rattle.s3_documents.specs.Timestamp.{spelled_out}

digit_ascii : (b : ℕ) → is_ascii_digit b ≡ true → b < 128
digit_ascii b h = grind (arith, nat_tests)

digits_ascii : (bs : List ℕ) → list_all is_ascii_digit bs ≡ true → IsAscii bs
digits_ascii [] h zero = lit< tt
digits_ascii [] h (suc i) = lit< tt
digits_ascii (b ∷ bs) h zero = digit_ascii b (and_parts (is_ascii_digit b) (list_all is_ascii_digit bs) h).0
digits_ascii (b ∷ bs) h (suc i) = digits_ascii bs (and_parts (is_ascii_digit b) (list_all is_ascii_digit bs) h).1 i

-- a part of bytes of ASCII
part_ascii : (xs : List ℕ) (n a k : ℕ) → a + k ≤ n → IsAscii (take n xs) → IsAscii (take k (drop a xs))
part_ascii xs n a k within all =
    subst IsAscii (drop-take a k xs) (IsAscii-drop (take (a + k) xs) a (subst IsAscii (take-take (a + k) n xs within) (IsAscii-take (take n xs) (a + k) all)))

-- a part of the time of day, which begins at the ninth byte
time_ascii : (t : List ℕ) (a k : ℕ) → a + k ≤ 6 → IsAscii (take 6 (drop 9 t)) → IsAscii (take k (drop (9 + a) t))
time_ascii t a k within all = subst (λ xs. IsAscii (take k xs)) (drop-drop a 9 t) (part_ascii (drop 9 t) 6 a k within all)

sign_ascii : (b : ℕ) → b < 128 → IsAscii (b ∷ [])
sign_ascii b small zero = small
sign_ascii b small (suc i) = lit< tt

ending_ascii : IsAscii (codes ".000Z")
ending_ascii zero = lit< tt
ending_ascii (suc zero) = lit< tt
ending_ascii (suc (suc zero)) = lit< tt
ending_ascii (suc (suc (suc zero))) = lit< tt
ending_ascii (suc (suc (suc (suc zero)))) = lit< tt
ending_ascii (suc (suc (suc (suc (suc i))))) = lit< tt

pub spelled_ascii : (t : List ℕ) → IsTrue (is_stamp t) → IsAscii (spelled_out t)
unfolding is_stamp
spelled_ascii t valid =
    let form = (and_parts _ _ (and_parts _ _ valid).0).0 in
    let upto_time = (and_parts _ _ form).0 in
    let time = digits_ascii (slice_range t 9 15) (and_parts _ _ upto_time).1 in
    let date = digits_ascii (slice_range t 0 8) (and_parts _ _ (and_parts _ _ (and_parts _ _ upto_time).0).0).1 in
    let year = part_ascii t 8 0 4 (omega arith) date in
    let to_month = IsAscii-append _ _ (IsAscii-append _ _ year (sign_ascii 45 (lit< tt))) (part_ascii t 8 4 2 (omega arith) date) in
    let to_day = IsAscii-append _ _ (IsAscii-append _ _ to_month (sign_ascii 45 (lit< tt))) (part_ascii t 8 6 2 (omega arith) date) in
    let to_hour = IsAscii-append _ _ (IsAscii-append _ _ to_day (sign_ascii 84 (lit< tt))) (part_ascii (drop 9 t) 6 0 2 (omega arith) time) in
    let to_minute = IsAscii-append _ _ (IsAscii-append _ _ to_hour (sign_ascii 58 (lit< tt))) (time_ascii t 2 2 (omega arith) time) in
    let to_second = IsAscii-append _ _ (IsAscii-append _ _ to_minute (sign_ascii 58 (lit< tt))) (time_ascii t 4 2 (omega arith) time) in
    IsAscii-append _ _ to_second ending_ascii
