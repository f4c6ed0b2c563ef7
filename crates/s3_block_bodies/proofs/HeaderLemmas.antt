-- The bytes of headers.
use Rattle.std.proofs.Common.{◌≡◌, ◌∙◌, ap, refl, ℕ, ◌+◌, List, ◌++◌, length, arith, length-append}
use Rattle.std.specs.Int.{w64, to_le_bytes}
use Rattle.s3_block_bodies.specs.Header.{sum_of, mark, front_for, header_for, header_of, stored}

-- as they are put one behind another
pub header_is : (size sum : ℕ) (front all : List ℕ) → front ≡ (mark ++ to_le_bytes w64 size) ++ to_le_bytes w64 sum → all ≡ front ++ to_le_bytes w64 (sum_of front) → all ≡ header_for size sum
unfolding front_for header_for
header_is size sum front all front_is all_is = all_is ∙ ap (λ f. f ++ to_le_bytes w64 (sum_of f)) front_is

pub length-header : (size sum : ℕ) → length (header_for size sum) ≡ 32
unfolding front_for header_for
length-header size sum = refl

pub length-stored : (bytes : List ℕ) → length (stored bytes) ≡ length bytes + 32
length-stored bytes = omega (arith, length-append (header_of bytes) bytes, length-header (length bytes) (sum_of bytes))

-- of a body that has so many bytes with this checksum
pub header_at : (size sum : ℕ) (bytes : List ℕ) → size ≡ length bytes → sum ≡ sum_of bytes → header_for size sum ≡ header_of bytes
header_at size sum bytes size_is sum_is = ap (λ n. header_for n sum) size_is ∙ ap (header_for (length bytes)) sum_is
