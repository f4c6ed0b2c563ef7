use Rattle.std.proofs.Common.{SFits, w64, to_z-of_z, rules, option_map}
use Rattle.std.proofs.lemmas.Result.{on_ok_weaker}
use Rattle.std.specs.Option.{option_copied}
use Rattle.s3_stored_rows.specs.Changes.{upload_columns, part_columns}
use Rattle.s3_row_steps.proofs.PartStepLemmas.{part_put_steps}
use Rattle.s3_row_steps.proofs.parts.put_part.Goals as goal

pub returns-clause-ok : goal.returns-clause-ok
returns-clause-ok g c =
    let t = g.R.StoredRows.tables c.args.rows.now in
    let fits : SFits w64 c.args.upload.now.row = search rules in
    on_ok_weaker c.put_part.result
    (part_put_steps t c.args.next c.args.bucket.now c.args.key.now c.args.id c.args.number (upload_columns c.args.upload.now) (part_columns c.in_ok-part.part) _ _ c.args.described.now c.args.numbers.now
    c.requires.kept c.requires.upload (to_z-of_z c.ranges.next) (to_z-of_z fits) c.in_ok-part.ensures
    (option_map part_columns (option_copied c.args.gone)) c.requires.gone _)
    c.put_part.ensures.ok
