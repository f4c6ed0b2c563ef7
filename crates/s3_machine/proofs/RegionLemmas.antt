-- The name of a region is a text.
use Rattle.std.proofs.Common.{◌≡◌, ℕ, zero, suc, ◌<◌, true, List, [], ◌∷◌, IsUtf8, IsTrue, arith}
use Rattle.std.specs.List.{list_all}
use Rattle.std.specs.Str.{IsAscii}
use Rattle.std.proofs.lemmas.Bool.{and_parts}
use Rattle.std.proofs.lemmas.Bool.Decides.{nat_tests}
use Rattle.std.proofs.lemmas.Str.{IsUtf8-from_ascii}
use Rattle.s3_config.specs.Settings.{Settings, is_region_byte, is_region, are_settings}

byte_is_ascii : (b : ℕ) → is_region_byte b ≡ true → b < 128
byte_is_ascii b is = grind (arith, nat_tests)

bytes_are_ascii : (bytes : List ℕ) → list_all is_region_byte bytes ≡ true → IsAscii bytes
bytes_are_ascii [] all i = omega arith
bytes_are_ascii (b ∷ bytes) all zero = byte_is_ascii b (and_parts (is_region_byte b) (list_all is_region_byte bytes) all).0
bytes_are_ascii (b ∷ bytes) all (suc i) = bytes_are_ascii bytes (and_parts (is_region_byte b) (list_all is_region_byte bytes) all).1 i

pub region_is_text : (region : List ℕ) → IsTrue (is_region region) → IsUtf8 region
unfolding is_region
region_is_text region is = IsUtf8-from_ascii region (bytes_are_ascii region (and_parts _ _ is).1)

-- that of a server is one
pub region_of_settings : (settings : Settings) → IsTrue (are_settings settings) → IsTrue (is_region settings.region)
unfolding are_settings
region_of_settings settings are = (and_parts _ _ (and_parts _ _ (and_parts _ _ are).0).0).0
