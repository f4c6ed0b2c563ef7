use Rattle.std.proofs.Common.{ap, ◌∙◌, ℕ, List}
use Rattle.std.proofs.Common.{map as each}
use Rattle.s3_uploads.specs.declared.upload.Upload.{Upload}
use Rattle.s3_rows.specs.ReadingLaws.{numbered_part}
use Rattle.s3_stored_rows.specs.Bodies.{encoding}
use Rattle.s3_stored_rows.specs.Changes.{part_columns}
use Rattle.s3_stored_rows.specs.declared.rows.StoredPart.{StoredPart}
use Rattle.s3_row_values.proofs.reading_uploads.upload_from.Goals as goal

pub put_parts-requires-clause-none : goal.put_parts-requires-clause-none
put_parts-requires-clause-none g c =
    ap (λ (u : Upload (List ℕ)). u.parts) (c.in_ok-upload.ensures (g.B.StoredBodies.contents c.args.bodies.now))

pub returns-in-Ok-clause-value : goal.returns-in-Ok-clause-value
returns-in-Ok-clause-value g c =
    let contents = g.B.StoredBodies.contents c.args.bodies.now in
    c.in-Ok.ensures.ok
    ∙ ap (λ (u : Upload (List ℕ)). record u { parts = each (λ (p : StoredPart). numbered_part (encoding contents) (part_columns p)) c.args.parts.now })
    (c.in_ok-upload.ensures contents)
