use Rattle.std.proofs.Common.{sym}
use Rattle.std.proofs.lemmas.List.{take_rest}
use Rattle.s3_text.proofs.LineLemmas.{lines_cut}
use Rattle.s3_text.proofs.lines.next_line.Goals as goal

pub returns-in-Some-clause-value : goal.returns-in-Some-clause-value
returns-in-Some-clause-value c = rw take_rest (lines_cut c.args.text.now c.in-Some.at (sym c.in-Some.ensures))
