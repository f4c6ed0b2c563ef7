use Rattle.s3_replies.specs.Head.{print_head}
use Rattle.s3_replies.proofs.LineLemmas.{head_lines}
use Rattle.s3_replies.proofs.head.Head.print.Goals as goal

pub returns-clause-items : goal.returns-clause-items
unfolding print_head
returns-clause-items g c =
    rw (c.write.ensures.written, c.write_body_lines.ensures.items, c.write_version.ensures.items, c.write_opening.ensures.items, c.write_status.ensures.items) (head_lines _ _ _ _ _ _)
