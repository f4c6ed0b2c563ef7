use Rattle.std.proofs.Common.{sym, arith}
use Rattle.s3_checksums.proofs.TableLemmas.{word_by_tables}
use Rattle.s3_checksums.proofs.slicing.after_word.Goals as goal

pub returns : goal.returns
returns c = λ g is. sym (word_by_tables g c.args.sum c.args.table.now is (omega arith))
