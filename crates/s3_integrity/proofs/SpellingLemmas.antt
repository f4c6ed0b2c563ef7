-- Which texts are the base64 of so many bytes.
use Rattle.std.proofs.Common.{◌≡◌, ◌≢◌, ℕ, ◌+◌, ◌≤◌, ◌<◌, ◌==◌, true, List, length, replicate, ap₂}
use Rattle.std.proofs.Common.{refl, sym, ap, ◌∙◌, Some, None, Ok, Err, inl, inr, Result, arith}
use Rattle.std.proofs.lemmas.Bool.{cases_Bool, eqb-true}
use Rattle.std.proofs.lemmas.Bool.Decides.{Decides-eqb}
use Rattle.std.proofs.lemmas.List.{length-append, length-replicate}
use Rattle.base64.specs.Engines.{standard}
use Rattle.base64.specs.GeneralPurpose.{IsBytes, decode_of, decoded_of, encode_of}
use Rattle.base64.specs.declared.decode.DecodeError.{DecodeError}
use Rattle.base64.specs.Rfc4648.{encode_symbols, padding_len, unpadded_len}
use Rattle.base64.proofs.EngineFacts.{decode_of-encode_of, decode_of_strict}
use Rattle.base64.proofs.RoundTrip.{length-encode_symbols}
use Rattle.s3_integrity.specs.Sum.{as_many, decoded_as}

-- more or fewer bytes are not so many
pub other_many : (size : ℕ) (bytes : List ℕ) → length bytes ≢ size → as_many size bytes ≡ None
other_many size bytes other = elim (cases_Bool (length bytes == size)) [
  | inl e ↦ absurd (other (eqb-true (length bytes) size e))
  | inr e ↦ rw e refl
]

-- what decodes is judged by how many bytes it gives
pub text_decoded : (size : ℕ) (text bytes : List ℕ) → decode_of standard text ≡ Ok bytes → decoded_as size text ≡ as_many size bytes
unfolding decoded_as decoded_of
text_decoded size text bytes is = rw is refl

-- what doesn't decode gives none
pub text_undecoded : (size : ℕ) (text : List ℕ) (e : DecodeError) → decode_of standard text ≡ Err e → decoded_as size text ≡ None
unfolding decoded_as decoded_of
text_undecoded size text e is = rw is refl

length-encoded : (bytes : List ℕ) → length (encode_of standard bytes) ≡ unpadded_len (length bytes) + padding_len (length bytes)
length-encoded bytes =
    let symbols = encode_symbols standard.encode_table bytes in
    let padding = padding_len (length bytes) in
    length-append symbols (replicate padding 61)
    ∙ ap₂ (λ (m n : ℕ). m + n) (length-encode_symbols standard.encode_table bytes) (length-replicate {A = ℕ} padding 61)

-- the base64 of 32 bytes has 44 bytes, and that of fewer bytes has no more
short : (n : ℕ) → n ≤ 32 → unpadded_len n + padding_len n ≤ 44
short n few = omega arith

long_text : (size : ℕ) (text : List ℕ) → IsBytes text → (decoded : Result (List ℕ) DecodeError) → decode_of standard text ≡ decoded
    → size ≤ 32 → 44 < length text → decoded_as size text ≡ None
long_text size text are (Err e) is few long = text_undecoded size text e is
long_text size text are (Ok bytes) is few long =
    text_decoded size text bytes is
    ∙ other_many size bytes (λ many.
    let fits = short (length bytes) (rw many few) in
    let same : length text ≡ unpadded_len (length bytes) + padding_len (length bytes) =
    ap length (decode_of_strict standard text bytes (refl, refl) are is) ∙ length-encoded bytes in
    omega arith)

-- a longer text is the base64 of more bytes
pub decoded_as-long : (size : ℕ) (text : List ℕ) → IsBytes text → size ≤ 32 → 44 < length text → decoded_as size text ≡ None
decoded_as-long size text are = long_text size text are (decode_of standard text) refl

-- so many that were found are all that was decoded
as_many-some : (size : ℕ) (bytes found : List ℕ) → as_many size bytes ≡ Some found → (length found ≡ size) × (bytes ≡ found)
as_many-some size bytes found is = elim (cases_Bool (length bytes == size)) [
  | inl many ↦
      let same : bytes ≡ found = let found = rw many at is in cc in
      (rw (← same) (eqb-true (length bytes) size many), same)
  | inr other ↦ let none = rw other at is in absurd (cc)
]

found_text : (size : ℕ) (text found : List ℕ) → IsBytes text
    → (decoded : Result (List ℕ) DecodeError) → decode_of standard text ≡ decoded
    → decoded_as size text ≡ Some found
    → (length found ≡ size) × (text ≡ encode_of standard found) × (decode_of standard text ≡ Ok found)
found_text size text found are (Err e) is some = let none = sym (text_undecoded size text e is) ∙ some in absurd (cc)
found_text size text found are (Ok bytes) is some =
    let parts = as_many-some size bytes found (sym (text_decoded size text bytes is) ∙ some) in
    (parts.0, decode_of_strict standard text bytes (refl, refl) are is ∙ ap (encode_of standard) parts.1, is ∙ ap Ok parts.1)

-- what is found in a text is what it is the base64 of
pub decoded_as-found : (size : ℕ) (text found : List ℕ) → IsBytes text → decoded_as size text ≡ Some found
    → (length found ≡ size) × (text ≡ encode_of standard found) × (decode_of standard text ≡ Ok found)
decoded_as-found size text found are = found_text size text found are (decode_of standard text) refl

-- so many bytes are found in their base64
pub decoded_as-encoded : (size : ℕ) (bytes : List ℕ) → IsBytes bytes → length bytes ≡ size
    → decoded_as size (encode_of standard bytes) ≡ Some bytes
decoded_as-encoded size bytes are many =
    let even : (length bytes == size) ≡ true = (Decides-eqb (length bytes) size).1 many in
    text_decoded size (encode_of standard bytes) bytes (decode_of-encode_of standard bytes refl are) ∙ rw even refl
