use Rattle.std.proofs.Common.{◌≡◌, ◌++◌, None, drop, map}
use Rattle.std.specs.Option.{option_copied}
use Rattle.s3_rows.specs.VersionListLaws.{versions_listed}
use Rattle.s3_stored_bodies.specs.Numbers.{Contents}
use Rattle.s3_stored_rows.specs.Bodies.{encoding}
use Rattle.s3_stored_rows.specs.Changes.{version_columns}
use Rattle.s3_row_lists.proofs.versions.add_told.Given as goal

-- those so far are told, and those that are left are told behind the key of the last
abbrev pub invariant-loop-row : goal.invariant-loop-row
invariant-loop-row l = (contents : Contents) → l.told.items ++ versions_listed (encoding contents) (option_copied l.last) (map version_columns (drop l.row-index l.found))
    ≡ l.fn.told.items ++ versions_listed (encoding contents) None (map version_columns l.found)
