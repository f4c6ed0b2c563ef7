-- What checksums say of their texts and their messages.
use Rattle.std.proofs.Common.{◌≡◌, ℕ, List, length, refl, sym, ap, ◌∙◌, Result, Option, Some, None, Ok, option_map}
use Rattle.std.proofs.lemmas.Slice.Eq.{bytes_eq-Decides}
use Rattle.std.proofs.lemmas.Bool.Decides.{same_from_decides}
use Rattle.std.specs.Str.{bytes_eq}
use Rattle.base64.specs.Engines.{standard}
use Rattle.base64.specs.GeneralPurpose.{IsBytes, decode_of, encode_of}
use Rattle.base64.proofs.EngineFacts.{decode_of-encode_of}
use Rattle.s3_integrity.specs.declared.algorithm.ChecksumAlgorithm.{ChecksumAlgorithm}
use Rattle.s3_integrity.specs.declared.algorithm.ChecksumAlgorithm.TheVariants as kind
use Rattle.s3_integrity.specs.declared.checksum.Checksum.{Checksum}
use Rattle.s3_integrity.specs.declared.checksum.Checksum.TheVariants.{Crc32, Crc32c, Crc64Nvme, Sha1, Sha256}
use Rattle.s3_integrity.specs.Laws.{ChecksumsAreEncoded, ChecksumsAreMet, SumsAreRead}
use Rattle.s3_integrity.specs.Sum.{algorithm_of, bytes_of, checksum_of, decoded_as, has_sum, is_sum, size_of, sum_of, with_bytes}
use Rattle.s3_integrity.proofs.SpellingLemmas.{decoded_as-encoded, decoded_as-found}
use Rattle.s3_integrity.proofs.SumLemmas.{bytes-sum_of, length-sum_of}

made_of : (algorithm : ChecksumAlgorithm) (bytes : List ℕ)
    → (algorithm_of (with_bytes algorithm bytes) ≡ algorithm) × (bytes_of (with_bytes algorithm bytes) ≡ bytes)
made_of kind.Crc32 bytes = (refl, refl)
made_of kind.Crc32c bytes = (refl, refl)
made_of kind.Crc64Nvme bytes = (refl, refl)
made_of kind.Sha1 bytes = (refl, refl)
made_of kind.Sha256 bytes = (refl, refl)

made_again : (sum : Checksum) → with_bytes (algorithm_of sum) (bytes_of sum) ≡ sum
made_again (Crc32 bytes) = refl
made_again (Crc32c bytes) = refl
made_again (Crc64Nvme bytes) = refl
made_again (Sha1 bytes) = refl
made_again (Sha256 bytes) = refl

same_Some : {A : Type 0} (x y : A) → Some x ≡ Some y → x ≡ y
same_Some x y is = cc

found_sum : (algorithm : ChecksumAlgorithm) (sum : Checksum) (found : Option (List ℕ))
    → option_map (with_bytes algorithm) found ≡ Some sum
    → (algorithm_of sum ≡ algorithm) × (found ≡ Some (bytes_of sum))
found_sum algorithm sum None is = absurd (cc)
found_sum algorithm sum (Some bytes) is =
    let same : with_bytes algorithm bytes ≡ sum = same_Some (with_bytes algorithm bytes) sum is in
    (ap algorithm_of (sym same) ∙ (made_of algorithm bytes).0, ap Some (sym (made_of algorithm bytes).1 ∙ ap bytes_of same))

-- what is read of a text
read_sum : (algorithm : ChecksumAlgorithm) (text : List ℕ) (sum : Checksum) → IsBytes text → checksum_of algorithm text ≡ Some sum
    → (algorithm_of sum ≡ algorithm) × (length (bytes_of sum) ≡ size_of algorithm) × (text ≡ encode_of standard (bytes_of sum))
    × (decode_of standard text ≡ Ok (bytes_of sum))
unfolding checksum_of
read_sum algorithm text sum are is =
    let parts = found_sum algorithm sum (decoded_as (size_of algorithm) text) is in
    let found = decoded_as-found (size_of algorithm) text (bytes_of sum) are parts.1 in
    (parts.0, found.0, found.1, found.2)

-- and what text is read so
read_again : (algorithm : ChecksumAlgorithm) (bytes : List ℕ) → IsBytes bytes → length bytes ≡ size_of algorithm
    → checksum_of algorithm (encode_of standard bytes) ≡ Some (with_bytes algorithm bytes)
unfolding checksum_of
read_again algorithm bytes are many = ap (option_map (with_bytes algorithm)) (decoded_as-encoded (size_of algorithm) bytes are many)

pub checksums_encoded : ChecksumsAreEncoded
checksums_encoded algorithm text sum are_text are_bytes = (
  λ is. let read = read_sum algorithm text sum are_text is in (read.0, read.1, read.2),
  λ told.
      ap (checksum_of algorithm) told.2
      ∙ read_again algorithm (bytes_of sum) are_bytes told.1
      ∙ ap Some (ap (λ a. with_bytes a (bytes_of sum)) (sym told.0) ∙ made_again sum),
)

same_Ok : {E : Type 0} (r : Result (List ℕ) E) (x y : List ℕ) → r ≡ Ok x → r ≡ Ok y → x ≡ y
same_Ok r x y first second = cc

pub checksums_met : ChecksumsAreMet
unfolding has_sum is_sum
checksums_met algorithm text message sum are is =
    let read = read_sum algorithm text sum are is in
    let wanted = sum_of algorithm message in
    let whole = bytes_eq-Decides wanted (bytes_of sum) in
    let spelled = bytes_eq-Decides (encode_of standard wanted) text in
    let back : encode_of standard wanted ≡ text → wanted ≡ bytes_of sum =
    λ e. same_Ok (decode_of standard (encode_of standard wanted)) wanted (bytes_of sum)
    (decode_of-encode_of standard wanted refl (bytes-sum_of algorithm message)) (ap (decode_of standard) e ∙ read.3) in
    ap (λ a. bytes_eq (sum_of a message) (bytes_of sum)) read.0
    ∙ same_from_decides {P = wanted ≡ bytes_of sum} (bytes_eq wanted (bytes_of sum))
    (bytes_eq (encode_of standard wanted) text) whole
    (λ e. back (spelled.0 e), λ e. spelled.1 (ap (encode_of standard) e ∙ sym read.2))

pub sums_read : SumsAreRead
unfolding is_sum
sums_read algorithm text message is =
    ap (checksum_of algorithm) (sym ((bytes_eq-Decides (encode_of standard (sum_of algorithm message)) text).0 is))
    ∙ read_again algorithm (sum_of algorithm message) (bytes-sum_of algorithm message) (length-sum_of algorithm message)
