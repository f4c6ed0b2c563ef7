-- A file has one body under a number: its header tells how long it is.
use Rattle.std.proofs.Common.{◌≡◌, sym, ap, refl, ◌∙◌, ℕ, ◌<◌, ◌^◌, List, [], ◌∷◌, length, drop, slice_index, Some, arith}
use Rattle.std.specs.FinMap as map
use Rattle.std.specs.Int.{w64, from_le_bytes}
use Rattle.std.proofs.lemmas.Nat.{from_le_bytes-to_le_bytes_8}
use Rattle.std.proofs.lemmas.List.{ext_get_or}
use Rattle.s3_stored_bodies.specs.Numbers.{bytes_under}
use Rattle.s3_stored_bodies.specs.Held.{Held, contents_of, uses_of}
use Rattle.s3_block_bodies.specs.Header.{front_for, header_for, stored}
use Rattle.s3_block_file.specs.Extent.{IsAddressable}
use Rattle.s3_block_bodies.specs.Stored.{extent_of, IsStored, AreStored, AreHoused}
use Rattle.s3_block_bodies.proofs.HeaderLemmas.{length-stored}
use Rattle.s3_block_bodies.proofs.MapLemmas.{named_has}

-- the number that stands in the bytes 8 to 15
size_in : List ℕ → ℕ
size_in l = from_le_bytes w64 (slice_index l 8 ∷ slice_index l 9 ∷ slice_index l 10 ∷ slice_index l 11 ∷ slice_index l 12 ∷ slice_index l 13 ∷ slice_index l 14 ∷ slice_index l 15 ∷ [])

size_told : (bytes : List ℕ) → length bytes < 2 ^ 64 → size_in (stored bytes) ≡ length bytes
unfolding front_for header_for size_in
size_told bytes low = from_le_bytes-to_le_bytes_8 (length bytes) low

size_same : (l m : List ℕ) → ((i : ℕ) → i < 32 → slice_index l i ≡ slice_index m i) → size_in l ≡ size_in m
unfolding size_in
size_same l m same =
    let s8 = same 8 (omega arith) in
    let s9 = same 9 (omega arith) in
    let s10 = same 10 (omega arith) in
    let s11 = same 11 (omega arith) in
    let s12 = same 12 (omega arith) in
    let s13 = same 13 (omega arith) in
    let s14 = same 14 (omega arith) in
    let s15 = same 15 (omega arith) in
    λ j. from_le_bytes w64 (s8 j ∷ s9 j ∷ s10 j ∷ s11 j ∷ s12 j ∷ s13 j ∷ s14 j ∷ s15 j ∷ [])

bytes_back : (bytes : List ℕ) → drop 32 (stored bytes) ≡ bytes
unfolding front_for header_for
bytes_back bytes = refl

agree : (file : List ℕ) (n : ℕ) (a b : List ℕ) → IsStored file n a → IsStored file n b → (i : ℕ) → i < length (stored a) → i < length (stored b) → slice_index (stored a) i ≡ slice_index (stored b) i
agree file n a b has_a has_b i low_a low_b = sym (has_a.holds.each i low_a) ∙ has_b.holds.each i low_b

pub same_stored : (file : List ℕ) (n : ℕ) (a b : List ℕ) → length a < 2 ^ 64 → length b < 2 ^ 64 → IsStored file n a → IsStored file n b → a ≡ b
same_stored file n a b low_a low_b has_a has_b =
    let size_a = length-stored a in
    let size_b = length-stored b in
    let fronts = size_same (stored a) (stored b) (λ i low. agree file n a b has_a has_b i (omega (arith, size_a, low)) (omega (arith, size_b, low))) in
    let sizes : length a ≡ length b = sym (size_told a low_a) ∙ fronts ∙ size_told b low_b in
    let lengths : length (stored a) ≡ length (stored b) = omega (arith, size_a, size_b, sizes) in
    let whole : stored a ≡ stored b = ext_get_or 0 (stored a) (stored b) lengths (λ i low. agree file n a b has_a has_b i low (omega (arith, lengths, low))) in
    sym (bytes_back a) ∙ ap (drop 32) whole ∙ bytes_back b

-- so one that a file has, and that was read from it, is what is in memory
pub found_again : (file : List ℕ) (new : Held) (granules : List ℕ) → AreHoused (contents_of new) granules → AreStored (contents_of new) file
    → (n : ℕ) (bytes : List ℕ) → IsAddressable (extent_of n (length bytes)) → IsStored file n bytes → 0 < uses_of new n → map.get (contents_of new) n ≡ Some bytes
found_again file new granules housed is n bytes addressable was named =
    let has = named_has new n named in
    let read = bytes_under (contents_of new) n in
    let low : length bytes < 2 ^ 64 = omega (arith, addressable.1) in
    let read_low : length read < 2 ^ 64 = omega (arith, (housed.addressable n read has).1) in
    has ∙ ap Some (same_stored file n read bytes read_low low (is n read has) was)
