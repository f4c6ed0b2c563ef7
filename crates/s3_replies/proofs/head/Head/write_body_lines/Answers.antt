use Rattle.s3_replies.proofs.LineLemmas.{more_lines}
use Rattle.s3_replies.proofs.head.Head.write_body_lines.Goals as goal

pub returns-clause-items : goal.returns-clause-items
returns-clause-items g c =
    rw (c.write_number.ensures.items, c.tells_size.ensures, c.write_all_metadata.ensures.items, c.write_optional-2.ensures.items, c.write_optional.ensures.items, c.write_flag.ensures.items) (simp more_lines)
