use Rattle.std.proofs.Common.{◌≡◌, take, map, flat_map}
use Rattle.s3_stored_rows.specs.Bodies.{part_numbers}
use Rattle.s3_stored_rows.specs.Changes.{part_columns}
use Rattle.s3_row_steps.proofs.standing.numbers_in_parts.Given as goal

-- the numbers of the parts so far
abbrev pub invariant-loop-part : goal.invariant-loop-part
invariant-loop-part l = l.numbers.items ≡ flat_map part_numbers (map part_columns (take l.part-index l.parts))
