-- A table is tied to its definition by a test over all its entries, which the check computes.
use Rattle.std.proofs.Common.{◌≡◌, ℕ, zero, suc, ◌+◌, ◌*◌, ◌/◌, ◌%◌, ◌^◌, ◌<◌, Bool, true, false, ◌&&◌, ◌==◌, List, [], ◌∷◌, length, get_or, take, drop, bit_xor, sym, ap, ◌∙◌, arith, lit<, get_or-drop, length-drop, not-suc-le-zero, le_of_suc-le-suc}
use Rattle.std.proofs.lemmas.Bool.{and_parts, eqb-true}
use Rattle.std.proofs.lemmas.List.{get_or-take}
use Rattle.std.proofs.lemmas.Nat.{shr-shr}
use Rattle.std.specs.Int.Bits.{xor_assoc}
use Rattle.s3_checksums.specs.Crc.{after_bits, after_byte}
use Rattle.s3_checksums.specs.Tables.{IsTable}
use Rattle.s3_checksums.proofs.CrcLemmas.{after_bits-add, after_bits-split, after_byte-split}

-- the entries are the remainders after the bytes from this one on
unfoldable pub counts : ℕ → ℕ → List ℕ → Bool
counts g byte [] = true
counts g byte (entry ∷ rest) = (entry == after_bits g 8 byte) && counts g (suc byte) rest

-- each entry is the remainder of the one beside it, after a byte of zeros
unfoldable pub follows : ℕ → List ℕ → List ℕ → Bool
follows g sources [] = true
follows g [] (entry ∷ rest) = false
follows g (source ∷ sources) (entry ∷ rest) = (entry == after_bits g 8 source) && follows g sources rest

counts-at : (g byte : ℕ) (entries : List ℕ) (i : ℕ) → counts g byte entries ≡ true → i < length entries → get_or entries i 0 ≡ after_bits g 8 (byte + i)
unfolding counts
counts-at g byte [] i holds within = absurd (not-suc-le-zero within)
counts-at g byte (entry ∷ rest) zero holds within =
    let parts = and_parts (entry == after_bits g 8 byte) (counts g (suc byte) rest) holds in
    let place : byte ≡ byte + zero = omega arith in
    eqb-true entry (after_bits g 8 byte) parts.0 ∙ ap (after_bits g 8) place
counts-at g byte (entry ∷ rest) (suc i) holds within =
    let parts = and_parts (entry == after_bits g 8 byte) (counts g (suc byte) rest) holds in
    let place : suc byte + i ≡ byte + suc i = omega arith in
    counts-at g (suc byte) rest i parts.1 (le_of_suc-le-suc within) ∙ ap (after_bits g 8) place

follows-at : (g : ℕ) (sources entries : List ℕ) (i : ℕ) → follows g sources entries ≡ true → i < length entries → get_or entries i 0 ≡ after_bits g 8 (get_or sources i 0)
unfolding follows
follows-at g sources [] i holds within = absurd (not-suc-le-zero within)
follows-at g [] (entry ∷ rest) i holds within = cc
follows-at g (source ∷ sources) (entry ∷ rest) zero holds within =
    let parts = and_parts (entry == after_bits g 8 source) (follows g sources rest) holds in
    eqb-true entry (after_bits g 8 source) parts.0
follows-at g (source ∷ sources) (entry ∷ rest) (suc i) holds within =
    let parts = and_parts (entry == after_bits g 8 source) (follows g sources rest) holds in
    follows-at g sources rest i parts.1 (le_of_suc-le-suc within)

entry-at : (g : ℕ) (table : List ℕ) → length table ≡ 2048 → length (take 256 table) ≡ 256
    → counts g 0 (take 256 table) ≡ true → follows g table (drop 256 table) ≡ true
    → (k byte : ℕ) → k < 8 → byte < 256 → get_or table (256 * k + byte) 0 ≡ after_bits g (8 * (k + 1)) byte
entry-at g table long first counted followed zero byte within small =
    let place : 256 * zero + byte ≡ byte = omega arith in
    let inside : byte < length (take 256 table) = omega arith in
    let from : 0 + byte ≡ byte = omega arith in
    ap (λ i. get_or table i 0) place ∙ sym (get_or-take 256 table byte 0 small) ∙ counts-at g 0 (take 256 table) byte counted inside ∙ ap (after_bits g 8) from
entry-at g table long first counted followed (suc k) byte within small =
    let place : 256 * suc k + byte ≡ 256 + (256 * k + byte) = omega arith in
    let inside : 256 * k + byte < length (drop 256 table) = omega (arith, length-drop 256 table) in
    let count : 8 * (k + 1) + 8 ≡ 8 * (suc k + 1) = omega arith in
    let less : k < 8 = omega arith in
    ap (λ i. get_or table i 0) place ∙ sym (get_or-drop 256 table (256 * k + byte) 0)
    ∙ follows-at g table (drop 256 table) (256 * k + byte) followed inside
    ∙ ap (after_bits g 8) (entry-at g table long first counted followed k byte less small)
    ∙ sym (after_bits-add g (8 * (k + 1)) 8 byte) ∙ ap (λ n. after_bits g n byte) count

-- a table that passes the tests is the one that is meant
pub table-passes : (g : ℕ) (table : List ℕ) → length table ≡ 2048 → length (take 256 table) ≡ 256
    → counts g 0 (take 256 table) ≡ true → follows g table (drop 256 table) ≡ true → IsTable g table
table-passes g table long first counted followed = record { entries = entry-at g table long first counted followed }

-- ---- a byte and a word by the table

-- table k has this entry at each byte
entry : (g : ℕ) (table : List ℕ) (k byte : ℕ) → IsTable g table → k < 8 → byte < 256 → get_or table (256 * k + byte) 0 ≡ after_bits g (8 * (k + 1)) byte
entry g table k byte is within small = is.entries k byte within small

pub byte_by_table : (g c byte : ℕ) (table : List ℕ) → IsTable g table → byte < 256 → bit_xor (get_or table (bit_xor c byte % 256) 0) (c / 256) ≡ after_byte g c byte
byte_by_table g c byte table is small =
    let low = bit_xor c byte % 256 in
    let within : low < 256 = omega arith in
    let place : 256 * 0 + low ≡ low = omega arith in
    ap (λ x. bit_xor x (c / 256)) (sym (ap (λ i. get_or table i 0) place) ∙ entry g table 0 low is (lit< tt) within) ∙ sym (after_byte-split g c byte small)

-- the lowest byte of what is left is taken in, and the bytes above it are shifted down
next_byte : (a entry g n c d : ℕ) → entry ≡ after_bits g (8 + n) (c % 256) → d ≡ c / 256 → bit_xor a (after_bits g (8 + n) c) ≡ bit_xor (bit_xor a entry) (after_bits g n d)
next_byte a entry g n c d at shifted =
    ap (bit_xor a) (after_bits-split g n c) ∙ sym (xor_assoc a (after_bits g (8 + n) (c % 256)) (after_bits g n (c / 256)))
    ∙ ap (λ x. bit_xor (bit_xor a x) (after_bits g n (c / 256))) (sym at) ∙ ap (λ x. bit_xor (bit_xor a entry) (after_bits g n x)) (sym shifted)

low_byte : (n : ℕ) → n % 256 < 256
low_byte n = omega arith

-- the eight entries of a word
pub word_by_tables : (g sum : ℕ) (table : List ℕ) → IsTable g table → sum < 2 ^ 64
    → after_bits g 64 sum ≡
    bit_xor (bit_xor (bit_xor (bit_xor (bit_xor (bit_xor (bit_xor
    (get_or table (1792 + sum % 256) 0)
    (get_or table (1536 + sum / 2 ^ 8 % 256) 0))
    (get_or table (1280 + sum / 2 ^ 16 % 256) 0))
    (get_or table (1024 + sum / 2 ^ 24 % 256) 0))
    (get_or table (768 + sum / 2 ^ 32 % 256) 0))
    (get_or table (512 + sum / 2 ^ 40 % 256) 0))
    (get_or table (256 + sum / 2 ^ 48 % 256) 0))
    (get_or table (sum / 2 ^ 56) 0)
word_by_tables g sum table is fits =
    let top : sum / 2 ^ 56 < 256 = omega arith in
    let place : 256 * 0 + sum / 2 ^ 56 ≡ sum / 2 ^ 56 = omega arith in
    let last : after_bits g 8 (sum / 2 ^ 56) ≡ get_or table (sum / 2 ^ 56) 0 = sym (entry g table 0 (sum / 2 ^ 56) is (lit< tt) top) ∙ ap (λ i. get_or table i 0) place in
    after_bits-split g 56 sum
    ∙ ap (λ x. bit_xor x (after_bits g 56 (sum / 2 ^ 8))) (sym (entry g table 7 (sum % 256) is (lit< tt) (low_byte sum)))
    ∙ next_byte _ _ g 48 (sum / 2 ^ 8) (sum / 2 ^ 16) (entry g table 6 (sum / 2 ^ 8 % 256) is (lit< tt) (low_byte _)) (sym (shr-shr sum 8 8))
    ∙ next_byte _ _ g 40 (sum / 2 ^ 16) (sum / 2 ^ 24) (entry g table 5 (sum / 2 ^ 16 % 256) is (lit< tt) (low_byte _)) (sym (shr-shr sum 16 8))
    ∙ next_byte _ _ g 32 (sum / 2 ^ 24) (sum / 2 ^ 32) (entry g table 4 (sum / 2 ^ 24 % 256) is (lit< tt) (low_byte _)) (sym (shr-shr sum 24 8))
    ∙ next_byte _ _ g 24 (sum / 2 ^ 32) (sum / 2 ^ 40) (entry g table 3 (sum / 2 ^ 32 % 256) is (lit< tt) (low_byte _)) (sym (shr-shr sum 32 8))
    ∙ next_byte _ _ g 16 (sum / 2 ^ 40) (sum / 2 ^ 48) (entry g table 2 (sum / 2 ^ 40 % 256) is (lit< tt) (low_byte _)) (sym (shr-shr sum 40 8))
    ∙ next_byte _ _ g 8 (sum / 2 ^ 48) (sum / 2 ^ 56) (entry g table 1 (sum / 2 ^ 48 % 256) is (lit< tt) (low_byte _)) (sym (shr-shr sum 48 8))
    ∙ ap (bit_xor _) last
