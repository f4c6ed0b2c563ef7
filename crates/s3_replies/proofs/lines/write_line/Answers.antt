use Rattle.std.proofs.Common.{ap, ◌∙◌, ◌++◌}
use Rattle.s3_replies.proofs.LineLemmas.{line_parts}
use Rattle.s3_replies.proofs.lines.write_line.Goals as goal

pub returns-clause-items : goal.returns-clause-items
returns-clause-items g c =
    let start = g.R.Room.written c.args.out.now in
    line_parts start _ _ _ _ c.args.name.now c.args.value.now (c.write.ensures.written ∙ ap (λ name. start ++ name) c.as_bytes.ensures.value)
    c.write-2.ensures.written c.write-3.ensures.written c.write-4.ensures.written
