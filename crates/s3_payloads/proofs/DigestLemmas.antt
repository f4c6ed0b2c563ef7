-- Which texts are the base64 of an MD5.
use Rattle.std.proofs.Common.{◌↔◌, ◌≡◌, ◌≢◌, ℕ, ◌≤◌, ◌==◌, List, length, take, replicate, refl, sym, ap, ◌∙◌, Some, None, Ok, Err, inl, inr, Result}
use Rattle.std.proofs.lemmas.Bool.{cases_Bool, eqb-true}
use Rattle.std.proofs.lemmas.List.{length-append, length-replicate, length-take-le}
use Rattle.base64.specs.Engines.{standard}
use Rattle.base64.specs.GeneralPurpose.{IsBytes, decode_of, decoded_of, encode_of}
use Rattle.base64.specs.declared.decode.DecodeError.{DecodeError}
use Rattle.base64.specs.Rfc4648.{encode_symbols, padding_len}
use Rattle.base64.proofs.EngineFacts.{decode_of_iff, decode_of_strict}
use Rattle.base64.proofs.RoundTrip.{length-encode_symbols}
use Rattle.s3_payloads.specs.Form.{as_digest, digest_of}

-- more or fewer bytes are no MD5
pub other_digest : (bytes : List ℕ) → length bytes ≢ 16 → as_digest bytes ≡ None
other_digest bytes other = elim (cases_Bool (length bytes == 16)) [
  | inl e ↦ absurd (other (eqb-true (length bytes) 16 e))
  | inr e ↦ rw e refl
]

-- and neither are fewer of them than there are
pub short_digest : (bytes : List ℕ) (len : ℕ) → len ≤ length bytes → len ≢ 16 → as_digest (take len bytes) ≡ None
short_digest bytes len within other = other_digest (take len bytes) (λ e. other (sym (length-take-le len bytes within) ∙ e))

-- what decodes is judged by how many bytes it gives
pub digest_decoded : (text bytes : List ℕ) → decode_of standard text ≡ Ok bytes → digest_of text ≡ as_digest bytes
unfolding digest_of decoded_of
digest_decoded text bytes is = rw is refl

-- what doesn't decode gives none
pub digest_undecoded : (text : List ℕ) (e : DecodeError) → decode_of standard text ≡ Err e → digest_of text ≡ None
unfolding digest_of decoded_of
digest_undecoded text e is = rw is refl

-- the base64 of 16 bytes has 24 bytes
length-encoded : (bytes : List ℕ) → length bytes ≡ 16 → length (encode_of standard bytes) ≡ 24
length-encoded bytes many =
    rw (length-append (encode_symbols standard.encode_table bytes) (replicate (padding_len (length bytes)) 61), length-encode_symbols standard.encode_table bytes, length-replicate {A = ℕ} (padding_len (length bytes)) 61, many) refl

-- what an MD5 is found in is the base64 of its 16 bytes
digest_text : (text : List ℕ) → IsBytes text → (decoded : Result (List ℕ) DecodeError) → decode_of standard text ≡ decoded
    → length text ≢ 24 → digest_of text ≡ None
digest_text text are (Err e) is other = digest_undecoded text e is
digest_text text are (Ok bytes) is other =
    digest_decoded text bytes is
    ∙ other_digest bytes (λ many. other (ap length (decode_of_strict standard text bytes (refl, refl) are is) ∙ length-encoded bytes many))

-- a text of another length is the base64 of none
pub digest_of-other_length : (text : List ℕ) → IsBytes text → length text ≢ 24 → digest_of text ≡ None
digest_of-other_length text are other = digest_text text are (decode_of standard text) refl other

-- an MD5 that was found is all that was decoded
as_digest-some : (bytes digest : List ℕ) → as_digest bytes ≡ Some digest → (length digest ≡ 16) × (bytes ≡ digest)
as_digest-some bytes digest is = elim (cases_Bool (length bytes == 16)) [
  | inl many ↦
      let same : bytes ≡ digest = let found = rw many at is in cc in
      (rw (← same) (eqb-true (length bytes) 16 many), same)
  | inr other ↦ let none = rw other at is in absurd (cc)
]

found_text : (text digest : List ℕ) → IsBytes text → (decoded : Result (List ℕ) DecodeError) → decode_of standard text ≡ decoded
    → digest_of text ≡ Some digest → (length digest ≡ 16) × (text ≡ encode_of standard digest)
found_text text digest are (Err e) is found = let none = sym (digest_undecoded text e is) ∙ found in absurd (cc)
found_text text digest are (Ok bytes) is found =
    let parts = as_digest-some bytes digest (sym (digest_decoded text bytes is) ∙ found) in
    (parts.0, decode_of_strict standard text bytes (refl, refl) are is ∙ ap (encode_of standard) parts.1)

-- an MD5 is found in its base64, and in no other text
pub digest_encoded : (text digest : List ℕ) → IsBytes text → IsBytes digest
    → (digest_of text ≡ Some digest) ↔ ((length digest ≡ 16) × (text ≡ encode_of standard digest))
digest_encoded text digest are_text are_digest = (
  found_text text digest are_text (decode_of standard text) refl,
  λ written.
      digest_decoded text digest ((decode_of_iff standard text digest (refl, refl) are_text are_digest).1 written.1)
      ∙ rw (written.0) refl,
)
