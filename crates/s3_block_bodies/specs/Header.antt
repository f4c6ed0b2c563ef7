-- The header that lies in front of a body in the file: 32 bytes, which tell how long the body is and detect damage.
use Rattle.std.specs.Prelude.{ℕ, List, [], ◌∷◌, ◌++◌, length}
use Rattle.std.specs.Int.{w64, to_le_bytes}
use Rattle.s3_checksums.specs.Crc.{crc, crc_64_nvme}

-- the CRC-64/NVME of bytes
abbrev pub sum_of : List ℕ → ℕ
sum_of bytes = crc crc_64_nvme bytes

-- what a header begins with: the letters "FJBODY" and the version of this form, "01"
abbrev pub mark : List ℕ
mark = 70 ∷ 74 ∷ 66 ∷ 79 ∷ 68 ∷ 89 ∷ 48 ∷ 49 ∷ []

-- the first 24 bytes of a header: the mark, how many bytes the body has, and their checksum, each number with its lowest byte first
unfoldable pub front_for : ℕ → ℕ → List ℕ
front_for size sum = (mark ++ to_le_bytes w64 size) ++ to_le_bytes w64 sum

-- the header of a body of so many bytes with this checksum: those 24 bytes, and their own checksum
unfoldable pub header_for : ℕ → ℕ → List ℕ
header_for size sum = front_for size sum ++ to_le_bytes w64 (sum_of (front_for size sum))

-- the header of a body
abbrev pub header_of : List ℕ → List ℕ
header_of bytes = header_for (length bytes) (sum_of bytes)

-- what lies in the file for a body
abbrev pub stored : List ℕ → List ℕ
stored bytes = header_of bytes ++ bytes
