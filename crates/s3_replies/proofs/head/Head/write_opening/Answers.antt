use Rattle.s3_replies.proofs.LineLemmas.{more_lines}
use Rattle.s3_replies.proofs.head.Head.write_opening.Goals as goal

pub returns-clause-items : goal.returns-clause-items
returns-clause-items g c =
    rw (c.write_line-2.ensures.items, c.number_digits.ensures, c.write_flag.ensures.items, c.write_line.ensures.items) (simp more_lines)
