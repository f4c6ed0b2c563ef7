-- What a crash leaves of rows.
use Rattle.s3_rows.specs.Columns.{Tables}

-- what a crash leaves of the new ones it could leave of the old ones
abbrev pub LeavesNoMore : {R : Type 0} → (R → Tables → Type 0) → R → R → Type 0
LeavesNoMore leaves old new = (t : Tables) → leaves new t → leaves old t
