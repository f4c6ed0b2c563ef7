use Rattle.std.proofs.Common.{arith, rules}
use Rattle.s3_row_values.proofs.MakingLemmas.{part_row_is}
use Rattle.s3_row_values.proofs.making.part_row.Goals as goal

pub returns : goal.returns
returns c =
    part_row_is _ c.args.row c.args.upload c.args.number c.args.described.now c.args.numbers.now (omega arith) (omega arith)
    (search rules) (search rules) (search rules) (search rules) (search rules) (search rules) (search rules)
