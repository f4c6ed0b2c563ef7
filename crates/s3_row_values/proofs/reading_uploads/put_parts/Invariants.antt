use Rattle.std.proofs.Common.{◌≡◌, take}
use Rattle.std.proofs.Common.{map as each}
use Rattle.s3_rows.specs.ReadingLaws.{numbered_part}
use Rattle.s3_stored_bodies.specs.Numbers.{StillOutlive}
use Rattle.s3_stored_rows.specs.Bodies.{encoding}
use Rattle.s3_stored_rows.specs.Changes.{part_columns}
use Rattle.s3_stored_rows.specs.declared.rows.StoredPart.{StoredPart}
use Rattle.s3_row_values.proofs.reading_uploads.put_parts.Given as goal

-- the parts so far are there, and no body changed
abbrev pub invariant-loop-part : goal.invariant-loop-part
invariant-loop-part g l = record {
  parts : l.upload ≡ record l.fn.upload
      { parts = each (λ (p : StoredPart). numbered_part (encoding (g.B.StoredBodies.contents l.fn.bodies)) (part_columns p)) (take l.part-index l.parts) };
  contents : g.B.StoredBodies.contents l.bodies ≡ g.B.StoredBodies.contents l.fn.bodies;
  uses : g.B.StoredBodies.uses l.bodies ≡ g.B.StoredBodies.uses l.fn.bodies;
  outlives : StillOutlive g.B.StoredBodies.outlives l.fn.bodies l.bodies;
}
