use Rattle.std.proofs.Common.{to_z-of_z}
use Rattle.s3_rows.specs.Soundness.{upload_row}
use Rattle.s3_found_rows.proofs.PutLemmas.{is_found}
use Rattle.s3_found_rows.proofs.parts.has_upload.Goals as goal

pub returns-in-Ok : goal.returns-in-Ok
returns-in-Ok c = λ us is found. is_found upload_row c.args.row us c.args.uploads.now _ is c.in-Ok.ensures.bound (λ d. rw (to_z-of_z c.ranges.row) at (c.in-Ok.ensures.ok d))
