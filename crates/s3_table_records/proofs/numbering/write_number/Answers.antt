use Rattle.std.proofs.Common.{refl, ap}
use Rattle.s3_table_records.specs.Numbered.{row_of}
use Rattle.s3_table_records.proofs.numbering.write_number.Goals as goal

pub returns-clause-says : goal.returns-clause-says
returns-clause-says g c = (row_of c.args.number, refl, refl, ap (λ t. t.store) c.in_ok-replace_row.ensures.ok)
