-- The line of a log that tells what a server found in its folder: a JSON object (RFC 8259), whose members stand in this order,
-- and a line feed.
use Rattle.std.specs.Prelude.{ℕ, List, ◌++◌, codes, Option, Some, option_map}
use Rattle.s3_documents.specs.Printed.{told}
use Rattle.s3_documents.specs.Tree.{Fields, number, text}
use Rattle.s3_keepers.specs.declared.folder_keeper.FoundAmounts.{FoundAmounts}

-- the path of the folder; how many versions it has, how many bytes their bodies have, and how many bytes of its file of blocks are free in
-- front of the last body; and how many microseconds the opening took, where a clock told that
abbrev pub found_fields : List ℕ → FoundAmounts → Option ℕ → Fields
found_fields path found microseconds =
    told (codes "opened") (Some (text path)) ++ told (codes "versions") (Some (number found.versions)) ++ told (codes "bytes") (Some (number found.bytes))
    ++ told (codes "free") (Some (number found.free)) ++ told (codes "microseconds") (option_map number microseconds)
