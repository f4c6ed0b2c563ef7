use Rattle.std.proofs.Common.{ap, sym, ◌∙◌, ◌++◌, option_map}
use Rattle.s3_replies.specs.Lines.{print_lines, optional, quoted, value_of}
use Rattle.s3_replies.proofs.LineLemmas.{quoted_parts}
use Rattle.s3_replies.proofs.lines.write_quoted.Goals as goal

pub returns-in-Some-clause-items : goal.returns-in-Some-clause-items
returns-in-Some-clause-items g c =
    let start = g.R.Room.written c.args.out.now in
    quoted_parts start _ _ _ _ c.args.name.now c.in-Some.text.now (c.write.ensures.written ∙ ap (λ name. start ++ name) c.as_bytes.ensures.value)
    c.write-in-Some.ensures.written c.write-in-Some-2.ensures.written c.write-in-Some-3.ensures.written
    ∙ ap (λ text. start ++ print_lines (optional c.args.name.now (option_map quoted (value_of text)))) (sym c.in-Some.is)
