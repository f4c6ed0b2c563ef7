use Rattle.std.proofs.Common.{◌≡◌, sym, ap, ◌∙◌, pos, Some, option_map}
use Rattle.std.specs.Option.{option_copied}
use Rattle.s3_stored_rows.specs.Changes.{part_columns}
use Rattle.s3_stored_rows.specs.Queries.{part_of_number}
use Rattle.s3_table_records.proofs.UploadLemmas.{part_named}
use Rattle.s3_table_records.proofs.found.told_part.Goals as goal

pub part_from-requires : goal.part_from-requires
part_from-requires g c =
    let t = g.R.StoredRows.tables c.args.rows.now in
    let found : part_of_number c.args.upload (pos c.args.number) t ≡ Some (part_columns c.in-Some.found.now) =
    sym (ap (λ o. option_map part_columns (option_copied o)) (sym c.in-Some.is) ∙ c.requires.found) in
    record { named = part_named t (g.B.StoredBodies.uses c.args.bodies.now) c.requires.named c.args.upload (pos c.args.number) (part_columns c.in-Some.found.now) found }
