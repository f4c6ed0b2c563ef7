-- The bytes of a piece, as the loops go over them.
use Rattle.std.proofs.Common.{◌≡◌, ℕ, suc, ◌+◌, ◌-◌, ◌*◌, ◌^◌, ◌<◌, ◌≤◌, List, [], ◌∷◌, ◌++◌, length, get_or, take, drop, bit_xor, sym, ap, ◌∙◌, subst, arith, drop-cons, take-add, length-drop, length-take-le, take-append-drop}
use Rattle.std.specs.Int.{from_le_bytes, w64}
use Rattle.std.proofs.lemmas.List.{take_rest}
use Rattle.std.proofs.lemmas.List.Elements.{All-take, All-drop, All-from_get_or}
use Rattle.std.proofs.lemmas.List.Sums.{fold-append}
use Rattle.s3_checksums.specs.Crc.{after_bits, after_byte, after_bytes, number_of}
use Rattle.s3_checksums.proofs.CrcLemmas.{after_bytes-word, after_bytes-lt}

number_next : (bytes : List ℕ) (at next count : ℕ) → at < length bytes → next ≡ suc at
    → number_of (take (suc count) (drop at bytes)) ≡ get_or bytes at 0 + 256 * number_of (take count (drop next bytes))
unfolding number_of
number_next bytes at next count within is =
    ap (λ xs. number_of (take (suc count) xs)) (drop-cons bytes at 0 within) ∙ ap (λ k. get_or bytes at 0 + 256 * number_of (take count (drop k bytes))) (sym is)

-- eight bytes, read as a word
pub word-number : (bytes : List ℕ) (at : ℕ) → at + 8 ≤ length bytes
    → from_le_bytes w64 (get_or bytes at 0 ∷ get_or bytes (at + 1) 0 ∷ get_or bytes (at + 2) 0 ∷ get_or bytes (at + 3) 0
    ∷ get_or bytes (at + 4) 0 ∷ get_or bytes (at + 5) 0 ∷ get_or bytes (at + 6) 0 ∷ get_or bytes (at + 7) 0 ∷ [])
    ≡ number_of (take 8 (drop at bytes))
unfolding number_of
word-number bytes at room =
    let n0 = number_next bytes at (at + 1) 7 (omega arith) (omega arith) in
    let n1 = number_next bytes (at + 1) (at + 2) 6 (omega arith) (omega arith) in
    let n2 = number_next bytes (at + 2) (at + 3) 5 (omega arith) (omega arith) in
    let n3 = number_next bytes (at + 3) (at + 4) 4 (omega arith) (omega arith) in
    let n4 = number_next bytes (at + 4) (at + 5) 3 (omega arith) (omega arith) in
    let n5 = number_next bytes (at + 5) (at + 6) 2 (omega arith) (omega arith) in
    let n6 = number_next bytes (at + 6) (at + 7) 1 (omega arith) (omega arith) in
    let n7 = number_next bytes (at + 7) (at + 8) 0 (omega arith) (omega arith) in
    omega arith

-- one more word
pub words-more : (g before start : ℕ) (bytes : List ℕ) (i : ℕ) → ((k : ℕ) → get_or bytes k 0 < 256) → 8 * i + 8 ≤ length bytes
    → before ≡ after_bytes g start (take (8 * i) bytes)
    → after_bits g 64 (bit_xor before (number_of (take 8 (drop (8 * i) bytes)))) ≡ after_bytes g start (take (8 * (i + 1)) bytes)
words-more g before start bytes i each room held =
    let part = take 8 (drop (8 * i) bytes) in
    let all = All-take (λ x. x < 256) 8 (drop (8 * i) bytes) (All-drop (λ x. x < 256) (8 * i) bytes (All-from_get_or (λ x. x < 256) bytes 0 (λ k _. each k))) in
    let left : 8 ≤ length (drop (8 * i) bytes) = omega (arith, length-drop (8 * i) bytes) in
    let long : 8 * length part ≡ 64 = ap (λ n. 8 * n) (length-take-le 8 (drop (8 * i) bytes) left) in
    let place : 8 * i + 8 ≡ 8 * (i + 1) = omega arith in
    sym (ap (λ n. after_bits g n (bit_xor before (number_of part))) long)
    ∙ after_bytes-word g before part all
    ∙ ap (λ c. after_bytes g c part) held
    ∙ sym (fold-append (after_byte g) start (take (8 * i) bytes) part)
    ∙ ap (after_bytes g start) (sym (take-add (8 * i) 8 bytes) ∙ ap (λ n. take n bytes) place)

-- the whole words, and then the rest
pub parts-joined : (g start before result n : ℕ) (bytes : List ℕ) → before ≡ after_bytes g start (take n bytes)
    → result ≡ after_bytes g before (take (length bytes - n) (drop n bytes)) → result ≡ after_bytes g start bytes
parts-joined g start before result n bytes first second =
    second ∙ ap (after_bytes g before) (take_rest bytes n) ∙ ap (λ c. after_bytes g c (drop n bytes)) first ∙ sym (fold-append (after_byte g) start (take n bytes) (drop n bytes)) ∙ ap (after_bytes g start) (take-append-drop n bytes)

-- a message and one more piece
pub piece-added : (g start before held result : ℕ) (message piece : List ℕ)
    → result ≡ after_bytes g before piece → before ≡ held → held ≡ after_bytes g start message → result ≡ after_bytes g start (message ++ piece)
piece-added g start before held result message piece taken same holds =
    taken ∙ ap (λ c. after_bytes g c piece) (same ∙ holds) ∙ sym (fold-append (after_byte g) start message piece)

-- a remainder has no more bits than the generator
pub remainder-fits : (w g before result : ℕ) (piece : List ℕ) → 256 ≤ 2 ^ w → g < 2 ^ w → before < 2 ^ w
    → ((k : ℕ) → get_or piece k 0 < 256) → result ≡ after_bytes g before piece → result < 2 ^ w
remainder-fits w g before result piece wide below fits each taken =
    subst (λ x. x < 2 ^ w) (sym taken) (after_bytes-lt w g before piece wide below fits (All-from_get_or (λ x. x < 256) piece 0 (λ k _. each k)))
