use Rattle.s3_replies.proofs.LineLemmas.{line_parts}
use Rattle.s3_replies.proofs.lines.write_pair.Goals as goal

pub returns-clause-items : goal.returns-clause-items
returns-clause-items g c =
    line_parts (g.R.Room.written c.args.out.now) _ _ _ _ c.args.name.now c.args.value.now c.write.ensures.written c.write-2.ensures.written
    c.write-3.ensures.written c.write-4.ensures.written
