use Rattle.std.proofs.Common.{◌≡◌, option_map, take}
use Rattle.std.specs.Option.{option_copied}
use Rattle.s3_stored_rows.specs.Changes.{version_columns}
use Rattle.s3_row_deletions.specs.Standing.{found_after}
use Rattle.s3_row_deletions.proofs.standing.found_after.Given as goal

-- what stands there after the changes so far
abbrev pub invariant-loop-change : goal.invariant-loop-change
invariant-loop-change l =
    option_map version_columns (option_copied l.found) ≡ found_after l.bucket l.key l.id (take l.change-index l.changes) (option_map version_columns (option_copied l.before))
