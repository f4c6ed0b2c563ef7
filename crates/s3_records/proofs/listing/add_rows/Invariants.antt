use Rattle.std.proofs.Common.{◌≡◌, ◌++◌, false, map, take}
use Rattle.s3_records.specs.Rows.{version_row}
use Rattle.s3_records.proofs.listing.add_rows.Given as goal

-- the rows of the versions so far are added
abbrev pub invariant-loop-version : goal.invariant-loop-version
invariant-loop-version l = l.rows.items ≡ l.fn.rows.items ++ map (version_row l.key false) (take l.version-index l.older)
