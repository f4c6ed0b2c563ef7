-- How long the text of a checksum is.
use Rattle.std.proofs.Common.{◌≡◌, ℕ, ◌≤◌, List, length, take, sym, ap, ◌∙◌, arith}
use Rattle.std.proofs.lemmas.List.{length-append, length-replicate, take_at}
use Rattle.std.specs.Prelude.{true, replicate}
use Rattle.base64.specs.Engines.{standard}
use Rattle.base64.specs.GeneralPurpose.{IsEncodedOver, encode_of, encoded_size_of}
use Rattle.base64.specs.Rfc4648.{encode, encode_symbols, encoded_size, padding_len}
use Rattle.base64.proofs.RoundTrip.{length-encode_symbols}

length-encode : (symbols bytes : List ℕ) (pad : ℕ) → length (encode symbols pad true bytes) ≡ encoded_size (length bytes) true
length-encode symbols bytes pad =
    let padding = padding_len (length bytes) in
    omega (arith, length-append (encode_symbols symbols bytes) (replicate padding pad), length-encode_symbols symbols bytes, length-replicate padding pad)

-- it has as many bytes as are told
length-encode_of : (bytes : List ℕ) → length (encode_of standard bytes) ≡ encoded_size_of standard (length bytes)
length-encode_of bytes = length-encode _ bytes _

-- which are few
pub encoded_fits : (bytes room : List ℕ) → length bytes ≤ 32 → length room ≡ 44 → encoded_size_of standard (length bytes) ≤ length room
encoded_fits bytes room few is = omega (arith, few, is)

-- and stand in front of what was there
pub encoded_front : (bytes old new : List ℕ) (n : ℕ) → IsEncodedOver standard bytes old new → n ≡ encoded_size_of standard (length bytes)
    → take n new ≡ encode_of standard bytes
encoded_front bytes old new n written is =
    ap (take n) written ∙ take_at (encode_of standard bytes) _ n (length-encode_of bytes ∙ sym is)
