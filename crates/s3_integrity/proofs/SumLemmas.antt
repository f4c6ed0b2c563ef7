-- A checksum is as many bytes as its kind has.
use Rattle.std.proofs.Common.{◌≡◌, ℕ, zero, suc, ◌*◌, ◌<◌, List, [], ◌∷◌, ◌++◌, length, refl, sym, ap, ◌∙◌, subst, arith}
use Rattle.std.proofs.lemmas.List.{length-append}
use Rattle.std.specs.Prelude.{slice_index}
use Rattle.std.specs.Int.{w32, byte_at, bytes_high_first, to_be_bytes}
use Rattle.base64.specs.GeneralPurpose.{IsBytes}
use Rattle.sha1.specs.Sha1 as S1
use Rattle.sha1.specs.Sha1.{sha1, digest_bytes}
use Rattle.sha2.specs.Sha256 as S2
use Rattle.sha2.specs.Sha256.{sha256}
use Rattle.s3_checksums.specs.Crc.{crc, crc_32, crc_32c, crc_64_nvme}
use Rattle.s3_integrity.specs.declared.algorithm.ChecksumAlgorithm.{ChecksumAlgorithm}
use Rattle.s3_integrity.specs.declared.algorithm.ChecksumAlgorithm.TheVariants.{Crc32, Crc32c, Crc64Nvme, Sha1, Sha256}
use Rattle.s3_integrity.specs.Sum.{bytes_of, size_of, sum_of, with_bytes}

bytes-append : (xs ys : List ℕ) → IsBytes xs → IsBytes ys → IsBytes (xs ++ ys)
bytes-append [] ys first second i = second i
bytes-append (x ∷ xs) ys first second zero = first 0
bytes-append (x ∷ xs) ys first second (suc i) = bytes-append xs ys (λ j. first (suc j)) second i

bytes-nil : IsBytes []
bytes-nil i = omega arith

bytes-cons : (x : ℕ) (xs : List ℕ) → x < 256 → IsBytes xs → IsBytes (x ∷ xs)
bytes-cons x xs first rest zero = first
bytes-cons x xs first rest (suc i) = rest i

byte_below : (k n : ℕ) → byte_at k n < 256
byte_below zero n = omega arith
byte_below (suc k) n = omega arith

high_bytes : (k n : ℕ) → IsBytes (bytes_high_first k n)
high_bytes zero n = bytes-nil
high_bytes (suc k) n = bytes-cons (byte_at k n) (bytes_high_first k n) (byte_below k n) (high_bytes k n)

word_bytes : (n : ℕ) → IsBytes (to_be_bytes w32 n)
word_bytes n = high_bytes 4 n

words_bytes : (h : List ℕ) (n : ℕ) → IsBytes (S1.digest_bytes h n)
unfolding S1.digest_bytes
words_bytes h zero = bytes-nil
words_bytes h (suc n) =
    let word = slice_index h n in
    bytes-append (S1.digest_bytes h n) (to_be_bytes w32 word) (words_bytes h n) (word_bytes word)

length-words : (h : List ℕ) (n : ℕ) → length (S1.digest_bytes h n) ≡ 4 * n
unfolding S1.digest_bytes
length-words h zero = refl
length-words h (suc n) =
    let word = slice_index h n in
    omega (arith, length-append (S1.digest_bytes h n) (to_be_bytes w32 word), length-words h n)

-- the words of a SHA-256 are written as those of a SHA-1
same_words : (h : List ℕ) (n : ℕ) → S2.digest_bytes h n ≡ S1.digest_bytes h n
unfolding S1.digest_bytes S2.digest_bytes
same_words h zero = refl
same_words h (suc n) = ap (λ bytes. bytes ++ to_be_bytes w32 (slice_index h n)) (same_words h n)

-- each is a byte
pub bytes-sum_of : (algorithm : ChecksumAlgorithm) (message : List ℕ) → IsBytes (sum_of algorithm message)
unfolding sum_of sha1 sha256
bytes-sum_of Crc32 message = word_bytes (crc crc_32 message)
bytes-sum_of Crc32c message = word_bytes (crc crc_32c message)
bytes-sum_of Crc64Nvme message = high_bytes 8 (crc crc_64_nvme message)
bytes-sum_of Sha1 message = words_bytes _ 5
bytes-sum_of Sha256 message = subst IsBytes (sym (same_words _ 8)) (words_bytes _ 8)

-- and they are as many
pub length-sum_of : (algorithm : ChecksumAlgorithm) (message : List ℕ) → length (sum_of algorithm message) ≡ size_of algorithm
unfolding sum_of sha1 sha256
length-sum_of Crc32 message = refl
length-sum_of Crc32c message = refl
length-sum_of Crc64Nvme message = refl
length-sum_of Sha1 message = length-words _ 5
length-sum_of Sha256 message = ap length (same_words _ 8) ∙ length-words _ 8

-- a checksum has the bytes that it was made of
pub bytes_made : (algorithm : ChecksumAlgorithm) (bytes : List ℕ) → bytes_of (with_bytes algorithm bytes) ≡ bytes
bytes_made Crc32 bytes = refl
bytes_made Crc32c bytes = refl
bytes_made Crc64Nvme bytes = refl
bytes_made Sha1 bytes = refl
bytes_made Sha256 bytes = refl
