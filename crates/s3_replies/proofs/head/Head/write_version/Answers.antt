use Rattle.s3_replies.proofs.LineLemmas.{more_lines}
use Rattle.s3_replies.proofs.head.Head.write_version.Goals as goal

pub returns-clause-items : goal.returns-clause-items
returns-clause-items g c =
    rw (c.write_optional-5.ensures.items, c.write_checksum.ensures.items, c.write_quoted.ensures.items, c.write_optional-4.ensures.items, c.write_optional-3.ensures.items, c.write_flag.ensures.items, c.write_optional-2.ensures.items, c.write_optional.ensures.items) (simp more_lines)
