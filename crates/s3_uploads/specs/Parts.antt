-- The parts of an upload (Amazon S3 API Reference, UploadPart and ListParts).
use Rattle.std.specs.Prelude.{ℕ, Bool, true, ◌&&◌, ◌==◌, nat_lt, List, [], ◌∷◌, map as each, filter, length, Option}
use Rattle.std.specs.List.{list_all}
use Rattle.std.specs.BTreeMap.{insert_entry}
use Rattle.std.specs.Map.{lookup, keys_of}
use Rattle.std.specs.Ordering.{nat_cmp}
use Rattle.md5.specs.Md5.{md5}
use Rattle.hex.specs.Hex.{encode_lower}
use Rattle.s3_uploads.specs.declared.part.Part.{Part}
use Rattle.s3_uploads.specs.declared.part.PartRow.{PartRow}

-- the parts with their numbers, which rise
abbrev pub PartList : Type 0 → Type 0
PartList B = List (ℕ × Part B)

-- numbers rise strictly
unfoldable pub rises : List ℕ → Bool
rises [] = true
rises (n ∷ ns) = list_all (nat_lt n) ns && rises ns

-- the numbers of the parts
abbrev pub numbers_of : {B : Type 0} → PartList B → List ℕ
numbers_of parts = keys_of parts

-- the part of a number, if there is one
abbrev pub part_at : {B : Type 0} → ℕ → PartList B → Option (Part B)
part_at n parts = lookup (λ m. m == n) parts

-- a part is put under its number, in its place among the others, where it replaces the former one of that number
abbrev pub part_put : {B : Type 0} → ℕ → Part B → PartList B → PartList B
part_put n part parts = insert_entry nat_cmp parts n part

-- the part that was sent at moment t with these bytes
abbrev pub part_sent : ℕ → List ℕ → Part (List ℕ)
part_sent t bytes = record { digest = md5 bytes; moment = t; size = length bytes; body = bytes }

-- a part's entity tag: its digest in lower-case hexadecimal digits, which is the MD5 of its bytes where they were sent
abbrev pub part_tag : {B : Type 0} → Part B → List ℕ
part_tag part = encode_lower part.digest

-- what a list tells of a part
abbrev pub part_row : {B : Type 0} → ℕ × Part B → PartRow
part_row e = record { number = e.0; moment = e.1.moment; tag = part_tag e.1; size = e.1.size }

abbrev pub part_rows : {B : Type 0} → PartList B → List PartRow
part_rows parts = each part_row parts

-- the rows of the parts whose numbers are above this one
abbrev pub rows_behind : {B : Type 0} → ℕ → PartList B → List PartRow
rows_behind last parts = filter (λ (row : PartRow). nat_lt last row.number) (part_rows parts)
