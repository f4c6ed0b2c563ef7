use Rattle.std.proofs.Common.{arith}
use Rattle.s3_checksums.proofs.TableLemmas.{byte_by_table}
use Rattle.s3_checksums.proofs.slicing.after_table.Goals as goal

pub returns : goal.returns
returns c = λ g is. rw c.from.ensures (byte_by_table g c.args.remainder c.args.byte c.args.table.now is (omega arith))
