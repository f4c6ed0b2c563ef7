-- What the tests of names and keys say of their bytes.
use Rattle.std.proofs.Common.{◌≡◌, ℕ, zero, suc, ◌<◌, ◌&&◌, List, [], ◌∷◌, IsTrue, IsAscii, true, arith, lit<}
use Rattle.std.specs.List.{list_all}
use Rattle.std.proofs.lemmas.Bool.{and_parts}
use Rattle.std.proofs.lemmas.Bool.Decides.{nat_tests}
use Rattle.s3_names.specs.Names.{is_name_byte, has_name_length, has_name_bytes, has_name_ends, has_name_parts, is_bucket_name}
use Rattle.std.proofs.lemmas.Str.{IsUtf8-from_is_utf8, is_utf8-from_IsUtf8}

byte_ascii : (b : ℕ) → is_name_byte b ≡ true → b < 128
byte_ascii b h = grind (arith, nat_tests)

pub ruleset texts = (IsUtf8-from_is_utf8)

-- each byte of a bucket's name is one of ASCII
bytes_ascii : (bs : List ℕ) → list_all is_name_byte bs ≡ true → IsAscii bs
bytes_ascii [] h zero = lit< tt
bytes_ascii [] h (suc i) = lit< tt
bytes_ascii (b ∷ bs) h zero = byte_ascii b (and_parts (is_name_byte b) (list_all is_name_byte bs) h).0
bytes_ascii (b ∷ bs) h (suc i) = bytes_ascii bs (and_parts (is_name_byte b) (list_all is_name_byte bs) h).1 i

pub name_ascii : (name : List ℕ) → IsTrue (is_bucket_name name) → IsAscii name
unfolding is_bucket_name has_name_bytes
name_ascii name h =
    let whole = and_parts (has_name_length name && list_all is_name_byte name && has_name_ends name) (has_name_parts name) h in
    let front = and_parts (has_name_length name && list_all is_name_byte name) (has_name_ends name) whole.0 in
    bytes_ascii name (and_parts (has_name_length name) (list_all is_name_byte name) front.0).1
