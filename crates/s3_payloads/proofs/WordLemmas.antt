-- Texts of different lengths are different.
use Rattle.std.proofs.Common.{◌≡◌, ◌≢◌, ℕ, false, List, [], ◌∷◌, length, inl, inr, ap, arith, refl, Some}
use Rattle.std.specs.Prelude.{slice_get}
use Rattle.s3_http_heads.specs.Head.{only}
use Rattle.std.specs.Str.{bytes_eq}
use Rattle.std.proofs.lemmas.Bool.{cases_Bool}
use Rattle.std.proofs.lemmas.Slice.Eq.{bytes_eq-Decides}
use Rattle.s3_signing.specs.Word.{signed_chunks, trailed_chunks, unsigned_chunks, unsigned_payload}
use Rattle.s3_payloads.specs.Form.{hash_in}

pub bytes_eq-other_length : (xs ys : List ℕ) → length xs ≢ length ys → bytes_eq xs ys ≡ false
bytes_eq-other_length xs ys other = elim (cases_Bool (bytes_eq xs ys)) [
  | inl e ↦ absurd (other (ap length ((bytes_eq-Decides xs ys).0 e)))
  | inr e ↦ e
]

-- what has as many bytes as a hash in hexadecimal digits is none of the other words
pub hash_in_hash : (digits : List ℕ) → length digits ≡ 64 → hash_in digits ≡ Some digits
hash_in_hash digits many = rw (bytes_eq-other_length digits unsigned_payload (omega arith)) refl

pub no_chunks_hash : (digits : List ℕ) → length digits ≡ 64 → bytes_eq digits signed_chunks ≡ false
no_chunks_hash digits many = bytes_eq-other_length digits signed_chunks (omega arith)

pub no_unsigned_chunks_hash : (digits : List ℕ) → length digits ≡ 64 → bytes_eq digits unsigned_chunks ≡ false
no_unsigned_chunks_hash digits many = bytes_eq-other_length digits unsigned_chunks (omega arith)

pub no_trailed_chunks_hash : (digits : List ℕ) → length digits ≡ 64 → bytes_eq digits trailed_chunks ≡ false
no_trailed_chunks_hash digits many = bytes_eq-other_length digits trailed_chunks (omega arith)

-- the first value of a header that was sent once is its only one
pub only_first : (values : List (List ℕ)) → length values ≡ 1 → only values ≡ slice_get values 0
only_first [] one = absurd (omega arith)
only_first (value ∷ []) one = refl
only_first (value ∷ other ∷ values) one = absurd (omega arith)
